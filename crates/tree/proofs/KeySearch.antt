-- In a valid file the search by halving finds the integer that a float counts as. Assumes nothing.
use Rattle.std.specs.Prelude.{Ok}
use Prim.Native.Nat.{ℕ, ◌≤◌, ◌<◌}
use native.Mathlib.Omega.{arith}
use native.Mathlib.Decide.{dec_lt}
use mathlib.Core.Path.{◌≡◌, refl, sym, ap, subst, ◌∙◌}
use mathlib.Core.List.{List}
use mathlib.Core.Bool.{Bool, true, false, ◌&&◌}
use lib.Dec.{T, eqb, leb, ltb, eqb→eq}
use lib.ListN.{length, get_or}
use borrow.Author.Tests.{lt-ltb, ltb-true, ltb-false}
use Rattle.tree.specs.Bytes.{value_count, pick}
use Rattle.tree.specs.Values.{Value, sense, form_as, magnitude, no_zero_first, formed, by_length, precedes}
use Rattle.tree.specs.Judge.{judged}
use Rattle.tree.specs.Table.{table_of, at}
use Rattle.tree.specs.declared.Facts.{Facts}
use Rattle.std.specs.declared.cmp.Ordering.TheVariants.{Less, Equal, Greater}
use Rattle.tree.specs.code.Numbers.{integer_is, below, placed, short_of, sought}
use Rattle.tree.proofs.Search.{clash}
use Rattle.tree.proofs.KeyLaws.{all_bytes, and_left, and_right, Lex, less, tied, lex}
use Rattle.tree.proofs.Halving.{Border, halved_border}
use Rattle.tree.proofs.Magnitudes.{integers_ascend}
use Rattle.tree.proofs.ValidTable.{value_formed, value_bytes, ascending}

-- a value that stands before the integer n, and one that doesn't
data Short (n : ℕ) (v : Value) : Type 0 where
  other_kind : v.kind < 3 → Short n v
  smaller : v.kind ≡ 3 → magnitude v.bytes < n → Short n v

data Reached (n : ℕ) (v : Value) : Type 0 where
  later_kind : 3 < v.kind → Reached n v
  as_large : v.kind ≡ 3 → n ≤ magnitude v.bytes → Reached n v

short_means : (n : ℕ) (v : Value) → below (placed n v) ≡ true → Short n v
short_means n v = go (ltb v.kind 3) refl (ltb 3 v.kind) refl (ltb (magnitude v.bytes) n) refl (eqb (magnitude v.bytes) n)
  where
    go : (a : Bool) → ltb v.kind 3 ≡ a → (b : Bool) → ltb 3 v.kind ≡ b → (c : Bool) → ltb (magnitude v.bytes) n ≡ c → (d : Bool)
        → below (pick a Less (pick b Greater (pick c Less (pick d Equal Greater)))) ≡ true → Short n v
    go true p b q c r d e = other_kind (ltb-true _ _ p)
    go false p true q c r d e = clash e refl
    go false p false q true r d e = smaller (let x = ltb-false v.kind 3 p in let y = ltb-false 3 v.kind q in omega arith) (ltb-true _ _ r)
    go false p false q false r true e = clash e refl
    go false p false q false r false e = clash e refl

means_short : (n : ℕ) (v : Value) → Short n v → below (placed n v) ≡ true
means_short n v (other_kind h) = rw (lt-ltb v.kind 3 h)
means_short n v (smaller k h) = rw (k, lt-ltb (magnitude v.bytes) n h)

reached_means : (n : ℕ) (v : Value) → below (placed n v) ≡ false → Reached n v
reached_means n v = go (ltb v.kind 3) refl (ltb 3 v.kind) refl (ltb (magnitude v.bytes) n) refl (eqb (magnitude v.bytes) n)
  where
    go : (a : Bool) → ltb v.kind 3 ≡ a → (b : Bool) → ltb 3 v.kind ≡ b → (c : Bool) → ltb (magnitude v.bytes) n ≡ c → (d : Bool)
        → below (pick a Less (pick b Greater (pick c Less (pick d Equal Greater)))) ≡ false → Reached n v
    go true p b q c r d e = clash refl e
    go false p true q c r d e = later_kind (ltb-true _ _ q)
    go false p false q true r d e = clash refl e
    go false p false q false r d e =
        as_large (let x = ltb-false v.kind 3 p in let y = ltb-false 3 v.kind q in omega arith) (ltb-false _ _ r)

-- "at most 64 bytes", "no leading zero byte"
pub integer_form : (v : Value) → v.kind ≡ 3 → T (formed v) → T (leb (length v.bytes) 64) × T (no_zero_first v.bytes)
unfolding formed
integer_form v k f =
    let t : T (leb (length v.bytes) 64 && no_zero_first v.bytes)
    = subst (λ (x : ℕ). T (form_as (sense x) v.bytes)) k (and_right (leb (length v.bytes) 255) (form_as (sense v.kind) v.bytes) f) in
    (and_left (leb (length v.bytes) 64) (no_zero_first v.bytes) t, and_right (leb (length v.bytes) 64) (no_zero_first v.bytes) t)

-- the order of two values, the later an integer or before the integers
below_integer : (v w : Value) → T (all_bytes v.bytes) → T (formed w) → w.kind ≡ 3 → T (precedes v w) → Short (magnitude w.bytes) v
unfolding precedes
below_integer v w p f k t = go (lex v.kind w.kind (by_length v.bytes w.bytes) t)
  where
    go : Lex v.kind w.kind (by_length v.bytes w.bytes) → Short (magnitude w.bytes) v
    go (less h) = other_kind (omega arith)
    go (tied e u) = smaller (e ∙ k) (integers_ascend v.bytes w.bytes p (integer_form w k f).1 u)

kinds_rise : (v w : Value) → T (precedes v w) → v.kind ≤ w.kind
unfolding precedes
kinds_rise v w t = go (lex v.kind w.kind (by_length v.bytes w.bytes) t)
  where
    go : Lex v.kind w.kind (by_length v.bytes w.bytes) → v.kind ≤ w.kind
    go (less h) = omega arith
    go (tied e u) = omega arith

short_more : (n k : ℕ) (v : Value) → n ≤ k → Short n v → Short k v
short_more n k v h (other_kind l) = other_kind l
short_more n k v h (smaller e l) = smaller e (omega arith)

short_falls : (n : ℕ) (v w : Value) → T (all_bytes v.bytes) → T (formed w) → T (precedes v w) → Short n w → Short n v
short_falls n v w p f t (other_kind h) = other_kind (let r = kinds_rise v w t in omega arith)
short_falls n v w p f t (smaller k h) = short_more (magnitude w.bytes) n v (omega arith) (below_integer v w p f k t)

never_both : (n : ℕ) (v : Value) → Short n v → Reached n v → ⊥
never_both n v (other_kind h) (later_kind k) = omega arith
never_both n v (other_kind h) (as_large e k) = omega arith
never_both n v (smaller e h) (later_kind k) = omega arith
never_both n v (smaller e h) (as_large d k) = omega arith

module _ (t : List ℕ) (f : Facts) (valid : judged t ≡ Ok f) (bytes : (k : ℕ) → get_or t k 0 < 256) where
  vs : List Value
  vs = table_of t

  falls : (n b : ℕ) → b < value_count t → (i j : ℕ) → i < j → j < b → short_of vs n j ≡ true → short_of vs n i ≡ true
  unfolding vs
  falls n b h i j l k e = means_short n (at vs i) (short_falls n (at vs i) (at vs j) (value_bytes t bytes i (omega arith)) (value_formed t f valid j (omega arith))
      (ascending t f valid i j l (omega arith)) (short_means n (at vs j) e))

  -- integers stand before floats
  earlier : (a b : ℕ) → a < value_count t → (at vs a).kind ≡ 3 → (at vs b).kind ≡ 4 → a < b
  unfolding vs
  earlier a b h p q = go (dec_lt a b) (dec_lt b a)
    where
      go : Dec (a < b) → Dec (b < a) → a < b
      go (yes l) d = l
      go (no l) (yes r) = absurd (let k = kinds_rise (at vs b) (at vs a) (ascending t f valid b a r h) in omega arith)
      go (no l) (no r) = absurd (let e : a ≡ b = omega arith in let z : 3 ≡ 4 = sym p ∙ (ap (λ (x : ℕ). (at vs x).kind) e ∙ q) in omega arith)

  pub found : (a b n : ℕ) → a < value_count t → b < value_count t → T (integer_is n (at (table_of t) a)) → (at (table_of t) b).kind ≡ 4
      → sought (table_of t) b n ≡ a
  unfolding vs
  found a b n h k i q = go (dec_lt a p) (dec_lt p a)
    where
      kind_a : (at vs a).kind ≡ 3
      kind_a = eqb→eq (at vs a).kind 3 (and_left (eqb (at vs a).kind 3) (eqb (magnitude (at vs a).bytes) n) i)

      worth : magnitude (at vs a).bytes ≡ n
      worth = eqb→eq (magnitude (at vs a).bytes) n (and_right (eqb (at vs a).kind 3) (eqb (magnitude (at vs a).bytes) n) i)

      p : ℕ
      p = sought vs b n

      edge : Border (short_of vs n) 0 b p
      edge = halved_border (short_of vs n) b (falls n b k) b (omega arith)

      early : a < b
      early = earlier a b h kind_a q

      go : Dec (a < p) → Dec (p < a) → p ≡ a
      go (yes l) d = absurd (never_both n (at vs a) (short_means n (at vs a) (edge.holds a (omega arith) l)) (as_large kind_a (omega (arith, worth))))
      go (no l) (yes r) = absurd (never_both n (at vs p) (subst (λ (x : ℕ). Short x (at vs p)) worth
          (below_integer (at vs p) (at vs a) (value_bytes t bytes p (omega arith)) (value_formed t f valid a h) kind_a (ascending t f valid p a r h)))
          (reached_means n (at vs p) (edge.ends (omega (arith, early)))))
      go (no l) (no r) = omega arith
