-- What the returns of answer's functions show. Assumes nothing.
use Prim.Native.Nat.{ℕ, suc, min, ◌+◌, ◌-◌, ◌≤◌, ◌<◌}
use native.Mathlib.Omega.{arith}
use mathlib.Core.Path.{◌≡◌, refl, ap, ◌∙◌}
use mathlib.Core.List.{List, [], ◌∷◌}
use Rattle.std.proofs.Common.{◌⊎◌, inl, inr}
use lib.ListN.{length, set, get_or}
use mathlib.Core.Bool.{Bool, true, false, cond}
use lib.Dec.{ltb}
use borrow.Author.Tests.{ltb-true, ltb-false}
use lib.Seq.{set_out}
use Rattle.tree.specs.Forest.{Spot, number_at, node_spot}
use Rattle.rules.specs.Record.{Rec, Span, with_value}
use Rattle.rules.specs.Joined.{one_more, raise}
use Rattle.answer.specs.declared.Ends.{Ends}
use Rattle.answer.specs.declared.Note.{Note}
use Rattle.answer.specs.declared.Place.TheVariants.{Node}
use Rattle.answer.specs.declared.LentSheet.{LentSheet}
use Rattle.answer.specs.Page.{stored, write, writes, page, Added}
use Rattle.answer.specs.Note.{span_of, span_from, value_of, node_of, rec_of, rec_from}

pub words_done : (t : List ℕ) (n : Note) {a b c : Ends} {v x y : ℕ} → span_from a ≡ span_of t (Node n.at) → v ≡ value_of t n.value
    → span_from b ≡ span_of t n.second → span_from c ≡ span_of t n.third → x ≡ number_at n.at → y ≡ node_of n.second
    → rec_from (record { code = n.code; first = a; value = v; second = b; third = c; number = x; number2 = y }) ≡ rec_of t n
unfolding rec_of span_of
words_done t n {a} {b} {c} p v q r x y =
    let e : ◌≡◌ {A = Spot} (record { begin = a.begin; end = a.end; value = value_of t n.value }) (with_value (node_spot t n.at) (value_of t n.value))
    = ap (λ (s : Span). record { begin = s.begin; end = s.end; value = value_of t n.value }) p in
    rw (v, e, q, r, x, y)

-- one more, the largest count staying
pub next_count : (n : ℕ) → n < 18446744073709551616 → min (n + 1) 18446744073709551615 ≡ one_more n
next_count n h = go (ltb n 18446744073709551615) refl
  where
    go : (b : Bool) → ltb n 18446744073709551615 ≡ b → min (n + 1) 18446744073709551615 ≡ cond b (n + 1) n
    go true q = let l = ltb-true n 18446744073709551615 q in omega arith
    go false q = let l = ltb-false n 18446744073709551615 q in omega arith

pub put_done : (s : LentSheet) (r : Rec) {s' : LentSheet} {r₁ : Rec} → (r₁ ≡ r) → s'.out.now ≡ stored s.out.now s.sheet.count r₁
    → s'.sheet.count ≡ one_more s.sheet.count → s'.sheet.tally ≡ raise r.code s.sheet.tally → s'.out.ghost_name ≡ s.out.ghost_name
    → Added s s' (r ∷ [])
unfolding write writes
put_done s r b a c d e = record { so = rw (a, b, c, d); same_room = e }

pub raise_past : (c : ℕ) (ns : List ℕ) → (c < 1) ⊎ (length ns < c) → raise c ns ≡ ns
unfolding raise
raise_past c ns (inl h) = let q : c ≡ 0 = omega arith in rw q
raise_past c ns (inr h) = let q : c ≡ suc (c - 1) = omega arith in rw q (set_out ns (c - 1) (one_more (get_or ns (c - 1) 0)) (omega arith))

pub raise_one : (c : ℕ) (ns : List ℕ) (v : ℕ) → 1 ≤ c → v ≡ one_more (get_or ns (c - 1) 0) → set ns (c - 1) v ≡ raise c ns
unfolding raise
raise_one c ns v h e =
    let q : suc (c - 1) ≡ c = omega arith in
    ap (set ns (c - 1)) e ∙ ap (λ (x : ℕ). raise x ns) q
