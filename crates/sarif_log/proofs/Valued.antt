-- The values of a file as its log has them: where they stand, and what a valid file's are like. Assumes nothing.
use Rattle.std.specs.Prelude.{Ok}
use Prim.Native.Nat.{ℕ, zero, suc, ◌+◌, ◌-◌, ◌*◌, ◌≤◌, ◌<◌}
use native.Mathlib.Omega.{arith}
use native.Mathlib.Numerals.{add-one}
use mathlib.Core.Path.{◌≡◌, refl, sym, ap, ◌∙◌}
use mathlib.Core.Bool.{true, false}
use mathlib.Core.Option.{none, some}
use mathlib.Core.List.{List, [], ◌∷◌, ◌++◌}
use lib.Dec.{leb, leb→le}
use lib.ListN.{length, take, drop, get_or, replicate, length-append, length-take}
use borrow.Author.Tests.{le-leb, lt-leb, lt-ltb, le-ltb}
use lib.Seq.{drop-cons}
use Rattle.tree.specs.Bytes.{bytes_from, node_count, value_count, u16_at}
use Rattle.tree.specs.Values.{Value, value_from, offset, formed, form_as, sense}
use Rattle.tree.specs.Table.{table_of, at}
use Rattle.tree.specs.Judge.{judged}
use Rattle.tree.specs.declared.Facts.{Facts}
use Rattle.tree.proofs.Link.{length_from}
use Rattle.tree.proofs.Whole.{sound}
use Rattle.tree.proofs.TableLaws.{length_table, at_table}
use Rattle.tree.proofs.ValidTable.{value_formed}
use Rattle.tree.proofs.ValueLaws.{offset_next, offset_later}
use Rattle.base.proofs.Bools.{and_left}
use Rattle.rules.specs.Codes.{short_name}
use Rattle.json_text.specs.Escape.{escape, hexes}
use Rattle.sarif_log.specs.Words.{shown, value_of}
use Rattle.sarif_log.proofs.Plainly.{shown_text, shown_number}
use Rattle.sarif_log.specs.Pieces.{Here, Small}

-- a number of the table stands for the value there, any other for none
pub value_in : (t : List ℕ) (v : ℕ) → v < value_count t → value_of (table_of t) v ≡ some (value_from t (offset t (node_count t) v))
value_in t v h = rw (lt-ltb v (length (table_of t)) (omega (arith, length_table t))) (ap some (at_table t v h))

pub value_past : (t : List ℕ) (v : ℕ) → value_count t ≤ v → value_of (table_of t) v ≡ none
value_past t v h = rw (le-ltb v (length (table_of t)) (omega (arith, length_table t)))

-- the bytes of a part are those that a value has
pub bytes_part : (k : ℕ) (t : List ℕ) (o : ℕ) → o + k ≤ length t → take k (drop o t) ≡ bytes_from k t o
bytes_part zero t o h = refl
bytes_part (suc k) t o h =
    let e : o + 1 ≡ suc o = add-one o in
    ap (λ (l : List ℕ). take (suc k) l) (drop-cons t o 0 (omega arith))
    ∙ ap (λ (l : List ℕ). get_or t o 0 ∷ l) (rw e (bytes_part k t (suc o) (omega arith)))

module _ (t : List ℕ) (f : Facts) (v : judged t ≡ Ok f) where
  value_short : (i : ℕ) → i < value_count t → u16_at t (offset t (node_count t) i + 1) ≤ 255
  unfolding formed
  value_short i h =
      let w = at (table_of t) i in
      let l = leb→le (length w.bytes) 255 (and_left (leb (length w.bytes) 255) (form_as (sense w.kind) w.bytes) (value_formed t f v i h)) in
      let e : length w.bytes ≡ u16_at t (offset t (node_count t) i + 1)
      = ap (λ (x : Value). length x.bytes) (at_table t i h) ∙ length_from (u16_at t (offset t (node_count t) i + 1)) t (offset t (node_count t) i + 3) in
      omega arith

  value_inside : (i : ℕ) → i < value_count t → offset t (node_count t) i + 3 + u16_at t (offset t (node_count t) i + 1) ≤ length t
  value_inside i h =
      let n = node_count t in
      let k = value_count t - (i + 1) in
      let q : (i + 1) + k ≡ value_count t = omega arith in
      let l : offset t n (i + 1) ≤ offset t n (value_count t) = rw q at (offset_later t n (i + 1) k) in
      omega (arith, l, offset_next t n i, (sound t f v).filled)

  pub file_small : Small t
  file_small = record {
    few = (sound t f v).few_values;
    here = λ i h. record { inside = value_inside i h; short = value_short i h };
  }

-- ---- what is written of the value at o, of which k and n are the kind and the length

module _ (t : List ℕ) (o k n : ℕ) (h : Here t o) (a : k ≡ get_or t o 0) (b : n ≡ u16_at t (o + 1)) (rest : List ℕ) where
  part_is : take (o + 3 + n - (o + 3)) (drop (o + 3) t) ≡ (value_from t o).bytes
  part_is =
      let e : o + 3 + n - (o + 3) ≡ u16_at t (o + 1) = omega arith in
      rw e (bytes_part (u16_at t (o + 1)) t (o + 3) h.inside)

  pub text_shown : k ≤ 2 → escape 0 (take (o + 3 + n - (o + 3)) (drop (o + 3) t)) ++ rest ≡ escape 0 (shown (value_from t o)) ++ rest
  text_shown l =
      let z : leb (get_or t o 0) 2 ≡ true = le-leb (get_or t o 0) 2 (omega arith) in
      rw (part_is, shown_text (value_from t o) z)

  pub number_shown : 2 < k → hexes (take (o + 3 + n - (o + 3)) (drop (o + 3) t)) ++ rest ≡ escape 0 (shown (value_from t o)) ++ rest
  number_shown l =
      let z : leb (get_or t o 0) 2 ≡ false = lt-leb (get_or t o 0) 2 (omega arith) in
      rw (part_is, shown_number (value_from t o) z)

module _ (t : List ℕ) (o n : ℕ) (h : Here t o) (b : n ≡ u16_at t (o + 1)) where
  part_short : length (take (o + 3 + n - (o + 3)) (drop (o + 3) t)) ≤ 255
  part_short =
      let e : o + 3 + n - (o + 3) ≡ n = omega arith in
      rw e (omega (arith, length-take n (drop (o + 3) t), h.short))

  pub text_short : 6 * length (take (o + 3 + n - (o + 3)) (drop (o + 3) t)) ≤ 1530
  text_short = let l = part_short in omega arith

  pub number_short : 2 * length (take (o + 3 + n - (o + 3)) (drop (o + 3) t)) ≤ 1530
  number_short = let l = part_short in omega arith
