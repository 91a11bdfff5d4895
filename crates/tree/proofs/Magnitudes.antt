-- Magnitudes of integers, byte by byte: in two parts, against a whole number, and in the order of values. Assumes nothing.
use Prim.Native.Nat.{ℕ, zero, suc, ◌+◌, ◌-◌, ◌*◌, ◌^◌, ◌≤◌, ◌<◌, min}
use native.Mathlib.Omega.{arith}
use native.Mathlib.Nat.{zero-add, add-mul, suc-mul, mul_assoc, pow-succ', mul-le-mul_right, pow-le-pow_right}
use mathlib.Core.Path.{◌≡◌, refl, sym, ap, subst, ◌∙◌}
use mathlib.Core.List.{List, [], ◌∷◌}
use mathlib.Core.Logic.{◌⊎◌, inl, inr}
use mathlib.Core.Bool.{Bool, true, false}
use lib.Dec.{T, eqb, ltb, lit<}
use lib.ListN.{length, get_or}
use borrow.Author.Tests.{lt-ltb, le-ltb, eq-eqb, ne_eqb, eqb-true}
use Rattle.tree.specs.Bytes.{bytes_from, pick}
use Rattle.tree.specs.Values.{onward, magnitude, no_zero_first, bytes_before, by_length}
use Rattle.tree.specs.code.Numbers.{level, side_of, valued, Fit}
use Rattle.tree.specs.declared.floats.Spelled.{Spelled}
use Rattle.std.specs.declared.cmp.Ordering.TheVariants.{Less, Equal, Greater}
use Rattle.tree.proofs.Search.{clash}
use Rattle.tree.proofs.Link.{length_from}
use Rattle.tree.proofs.ValidTable.{bytes_from_fit}
use Rattle.tree.proofs.KeyLaws.{all_bytes, not_zero, magnitude_less, and_right, Lex, less, tied, lex}

-- what stands before some bytes is worth 256 for each of them
pub onward_split : (xs : List ℕ) (a : ℕ) → onward a xs ≡ a * 256 ^ length xs + magnitude xs
onward_split [] a = omega arith
onward_split (x ∷ xs) a =
    let p : onward (a * 256 + x) xs ≡ (a * 256 + x) * 256 ^ length xs + magnitude xs = onward_split xs (a * 256 + x) in
    let q : magnitude (x ∷ xs) ≡ x * 256 ^ length xs + magnitude xs = ap (λ (z : ℕ). onward z xs) (zero-add x) ∙ onward_split xs x in
    let r : (a * 256 + x) * 256 ^ length xs ≡ a * 256 * 256 ^ length xs + x * 256 ^ length xs = add-mul (a * 256) x (256 ^ length xs) in
    let s : a * 256 * 256 ^ length xs ≡ a * 256 ^ suc (length xs) = mul_assoc a 256 (256 ^ length xs) ∙ ap (λ (z : ℕ). a * z) (sym (pow-succ' 256 (length xs))) in
    omega arith

from_split : (f z : ℕ) (t : List ℕ) (o a : ℕ) → onward a (bytes_from (f + z) t o) ≡ onward (onward a (bytes_from f t o)) (bytes_from z t (o + f))
from_split zero z t o a = let q : o + 0 ≡ o = omega arith in let p : 0 + z ≡ z = omega arith in rw (p, q)
from_split (suc f) z t o a =
    let q : o + suc f ≡ o + 1 + f = omega arith in
    let p : suc f + z ≡ suc (f + z) = omega arith in
    rw (p, q) (from_split f z t (o + 1) (a * 256 + get_or t o 0))

-- k bytes, of which the last z are told apart
pub magnitude_parts : (t : List ℕ) (k z o : ℕ) → z ≤ k
    → magnitude (bytes_from k t o) ≡ magnitude (bytes_from (k - z) t o) * 256 ^ z + magnitude (bytes_from z t (o + (k - z)))
magnitude_parts t k z o h =
    let e : k - z + z ≡ k = omega arith in
    let p : onward 0 (bytes_from (k - z + z) t o) ≡ onward (magnitude (bytes_from (k - z) t o)) (bytes_from z t (o + (k - z))) = from_split (k - z) z t o 0 in
    ap (λ (x : ℕ). magnitude (bytes_from x t o)) (sym e) ∙ p ∙ onward_split (bytes_from z t (o + (k - z))) (magnitude (bytes_from (k - z) t o))
    ∙ ap (λ (x : ℕ). magnitude (bytes_from (k - z) t o) * 256 ^ x + magnitude (bytes_from z t (o + (k - z)))) (length_from z t (o + (k - z)))

-- ---- against a whole number: by what stands before the zeros, then by the rest

pub side_below : (n k : ℕ) → k < n → side_of n k ≡ Less
side_below n k h = rw (lt-ltb k n h)

pub side_above : (n k : ℕ) → n < k → side_of n k ≡ Greater
side_above n k h = rw (le-ltb k n (omega arith), ne_eqb k n (λ e. omega arith))

pub side_equal : (n k : ℕ) → k ≡ n → side_of n k ≡ Equal
side_equal n k e = rw (le-ltb k n (omega arith), eq-eqb k n e)

pub equal_side : (n k : ℕ) → side_of n k ≡ Equal → k ≡ n
equal_side n k = go (ltb k n) (eqb k n) refl
  where
    go : (a b : Bool) → eqb k n ≡ b → pick a Less (pick b Equal Greater) ≡ Equal → k ≡ n
    go true b q e = clash (ap level e) refl
    go false true q e = eqb-true k n q
    go false false q e = clash (ap level e) refl

-- a is what stands before, b the rest, h the number's head and p what its zeros are worth
module _ (h p a b : ℕ) (low : b < p) where
  pub parts_below : a < h → side_of (h * p) (a * p + b) ≡ Less
  parts_below l = side_below (h * p) (a * p + b) (let m : suc a * p ≤ h * p = mul-le-mul_right p l in let s : suc a * p ≡ a * p + p = suc-mul a p in omega arith)

  pub parts_above : h < a → side_of (h * p) (a * p + b) ≡ Greater
  parts_above l = side_above (h * p) (a * p + b) (let m : suc h * p ≤ a * p = mul-le-mul_right p l in let s : suc h * p ≡ h * p + p = suc-mul h p in omega arith)

  pub parts_equal : a ≡ h → b ≡ 0 → side_of (h * p) (a * p + b) ≡ Equal
  parts_equal e z = side_equal (h * p) (a * p + b) (let m : a * p ≡ h * p = ap (λ (x : ℕ). x * p) e in omega arith)

  pub parts_rest : a ≡ h → (b ≡ 0 → ⊥) → side_of (h * p) (a * p + b) ≡ Greater
  parts_rest e d = side_above (h * p) (a * p + b) (let m : a * p ≡ h * p = ap (λ (x : ℕ). x * p) e in omega arith)

-- k bytes of a file against a whole number as the code has it
module _ (t : List ℕ) (bytes : (j : ℕ) → get_or t j 0 < 256) (k o : ℕ) (w : Spelled) where
  front : ℕ
  front = magnitude (bytes_from (k - w.zeros) t o)

  back : ℕ
  back = magnitude (bytes_from w.zeros t (o + (k - w.zeros)))

  back_low : back < 256 ^ w.zeros
  unfolding back
  back_low = subst (λ (x : ℕ). magnitude (bytes_from w.zeros t (o + (k - w.zeros))) < 256 ^ x) (length_from w.zeros t (o + (k - w.zeros)))
      (magnitude_less (bytes_from w.zeros t (o + (k - w.zeros))) (bytes_from_fit t bytes w.zeros (o + (k - w.zeros))))

  in_parts : w.zeros ≤ k → side_of (valued w) (front * 256 ^ w.zeros + back) ≡ side_of (valued w) (magnitude (bytes_from k t o))
  unfolding front back
  in_parts h = ap (side_of (valued w)) (sym (magnitude_parts t k w.zeros o h))

  pub file_short : Fit w → k < w.zeros → Less ≡ side_of (valued w) (magnitude (bytes_from k t o))
  file_short f h = sym (side_below (valued w) (magnitude (bytes_from k t o)) (go f.head_high))
    where
      less_than : magnitude (bytes_from k t o) < 256 ^ k
      less_than = subst (λ (x : ℕ). magnitude (bytes_from k t o) < 256 ^ x) (length_from k t o) (magnitude_less (bytes_from k t o) (bytes_from_fit t bytes k o))

      go : (w.zeros ≡ 0) ⊎ (2 ^ 52 ≤ w.head) → magnitude (bytes_from k t o) < valued w
      go (inl e) = absurd (omega arith)
      go (inr l) =
          let a : 256 ^ k ≤ 256 ^ w.zeros = pow-le-pow_right {n = 256} (lit< tt) (omega arith) in
          let b : 1 * 256 ^ w.zeros ≤ w.head * 256 ^ w.zeros = mul-le-mul_right (256 ^ w.zeros) (omega arith) in
          omega (arith, less_than)

  module _ (long : w.zeros ≤ k) (a : ℕ) (read : a ≡ min (magnitude (bytes_from (k - w.zeros) t o)) (w.head + 1)) where
    pub file_below : a < w.head → Less ≡ side_of (valued w) (magnitude (bytes_from k t o))
    unfolding front
    file_below h = sym (parts_below w.head (256 ^ w.zeros) front back back_low (omega arith)) ∙ in_parts long

    pub file_above : w.head < a → Greater ≡ side_of (valued w) (magnitude (bytes_from k t o))
    unfolding front
    file_above h = sym (parts_above w.head (256 ^ w.zeros) front back back_low (omega arith)) ∙ in_parts long

    level_front : w.head ≤ a → a ≤ w.head → front ≡ w.head
    unfolding front
    level_front h l = omega arith

    pub file_equal : w.head ≤ a → a ≤ w.head → min (magnitude (bytes_from w.zeros t (o + (k - w.zeros)))) 1 ≡ 0
        → Equal ≡ side_of (valued w) (magnitude (bytes_from k t o))
    unfolding back
    file_equal h l z = sym (parts_equal w.head (256 ^ w.zeros) front back back_low (level_front h l) (omega arith)) ∙ in_parts long

    pub file_rest : w.head ≤ a → a ≤ w.head → (min (magnitude (bytes_from w.zeros t (o + (k - w.zeros)))) 1 ≡ 0 → ⊥)
        → Greater ≡ side_of (valued w) (magnitude (bytes_from k t o))
    unfolding back
    file_rest h l z = sym (parts_rest w.head (256 ^ w.zeros) front back back_low (level_front h l) (λ e. z (omega arith))) ∙ in_parts long

-- ---- the order of values is that of magnitudes

lead_less : (xs ys : List ℕ) (a b : ℕ) → T (all_bytes xs) → length xs ≡ length ys → a < b → onward a xs < onward b ys
lead_less xs ys a b p l h =
    let q : onward a xs ≡ a * 256 ^ length xs + magnitude xs = onward_split xs a in
    let r : onward b ys ≡ b * 256 ^ length xs + magnitude ys = onward_split ys b ∙ ap (λ (x : ℕ). b * 256 ^ x + magnitude ys) (sym l) in
    let s : suc a * 256 ^ length xs ≤ b * 256 ^ length xs = mul-le-mul_right (256 ^ length xs) h in
    let u : suc a * 256 ^ length xs ≡ a * 256 ^ length xs + 256 ^ length xs = suc-mul a (256 ^ length xs) in
    let v : magnitude xs < 256 ^ length xs = magnitude_less xs p in
    omega arith

bytes_less : (xs ys : List ℕ) (a : ℕ) → T (all_bytes xs) → length xs ≡ length ys → T (bytes_before xs ys) → onward a xs < onward a ys
bytes_less [] [] a p l t = absurd t
bytes_less [] (y ∷ ys) a p l t = absurd (omega arith)
bytes_less (x ∷ xs) [] a p l t = absurd t
bytes_less (x ∷ xs) (y ∷ ys) a p l t =
    let rest = and_right (ltb x 256) (all_bytes xs) p in
    go rest (bytes_less xs ys (a * 256 + x) rest (omega arith)) (lex x y (bytes_before xs ys) t)
  where
    go : T (all_bytes xs) → (T (bytes_before xs ys) → onward (a * 256 + x) xs < onward (a * 256 + x) ys) → Lex x y (bytes_before xs ys)
        → onward (a * 256 + x) xs < onward (a * 256 + y) ys
    go rest f (less h) = lead_less xs ys (a * 256 + x) (a * 256 + y) rest (omega arith) (omega arith)
    go rest f (tied e u) = subst (λ (z : ℕ). onward (a * 256 + x) xs < onward (a * 256 + z) ys) e (f u)

longer_less : (xs ys : List ℕ) → T (all_bytes xs) → T (no_zero_first ys) → length xs < length ys → magnitude xs < magnitude ys
longer_less xs [] p z l = absurd (omega arith)
longer_less xs (y ∷ ys) p z l =
    let h : 1 ≤ y = not_zero y z in
    let a : magnitude xs < 256 ^ length xs = magnitude_less xs p in
    let b : 256 ^ length xs ≤ 256 ^ length ys = pow-le-pow_right {n = 256} (lit< tt) (omega arith) in
    let c : magnitude (y ∷ ys) ≡ y * 256 ^ length ys + magnitude ys = ap (λ (x : ℕ). onward x ys) (zero-add y) ∙ onward_split ys y in
    let d : 1 * 256 ^ length ys ≤ y * 256 ^ length ys = mul-le-mul_right (256 ^ length ys) h in
    omega arith

pub integers_ascend : (xs ys : List ℕ) → T (all_bytes xs) → T (no_zero_first ys) → T (by_length xs ys) → magnitude xs < magnitude ys
integers_ascend xs ys p z t = go (lex (length xs) (length ys) (bytes_before xs ys) t)
  where
    go : Lex (length xs) (length ys) (bytes_before xs ys) → magnitude xs < magnitude ys
    go (less h) = longer_less xs ys p z h
    go (tied e u) = bytes_less xs ys 0 p e u
