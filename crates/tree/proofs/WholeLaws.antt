-- The whole number that a float is, from its exponent's field and its digits, and as the code holds it. Assumes nothing.
use Prim.Native.Nat.{ℕ, zero, suc, ◌+◌, ◌-◌, ◌*◌, ◌/◌, ◌%◌, ◌^◌, ◌≤◌, ◌<◌}
use mathlib.Core.Path.{◌≡◌, refl, sym, ap, ◌∙◌}
use mathlib.Core.Bool.{Bool, true, false, ◌&&◌}
use mathlib.Core.Logic.{◌⊎◌, inl, inr}
use mathlib.Core.Option.{Option, none, some}
use native.Mathlib.Nat.{mul-le-mul_left, pow-le-pow_right, mod-lt, mod-eq_of_lt, lt_of_lt_of_le, mul-le-mul, mul-one, div-le_self, mul_assoc, pow-suc}
use native.Mathlib.Decide.{ℕ_discrete}
use lib.Pow.{pow-add}
use native.Mathlib.Omega.{arith}
use lib.Dec.{eqb, lit<, lt→ltb}
use borrow.Author.Tests.{lt-ltb, le-ltb, ne_eqb, eq-eqb}
use Rattle.tree.specs.code.Numbers.{Fit, valued}
use Rattle.tree.specs.declared.floats.Spelled.{Spelled}
use Rattle.tree.specs.Keys.{scaled, grains, finite, only_if, whole}
use Rattle.tree.proofs.KeyLaws.{pow_pos, low_field, high_field, grains_whole}

-- the digits with the leading one
abbrev pub full : ℕ → ℕ
full b = 2 ^ 52 + b % 2 ^ 52

full_below : (b : ℕ) → full b < 2 ^ 53
full_below b = omega (arith, mod-lt b {m = 2 ^ 52} (lit< tt))

not_whole : (b : ℕ) → (grains b % 2 ^ 1074 ≡ 0 → ⊥) → whole b ≡ none
not_whole b d = ap (λ (c : Bool). only_if (finite b && c) (grains b / 2 ^ 1074)) (ne_eqb (grains b % 2 ^ 1074) 0 d) ∙ go (finite b)
  where
    go : (c : Bool) → only_if (c && false) (grains b / 2 ^ 1074) ≡ none
    go true = refl
    go false = refl

by_field : (b x : ℕ) → b / 2 ^ 52 ≡ suc x → grains b ≡ scaled (suc x) (b % 2 ^ 52)
by_field b x e = ap (λ (f : ℕ). scaled f (b % 2 ^ 52)) e

-- what is left of the grains, where the point stands in or before the digits
left : (b x : ℕ) → b / 2 ^ 52 ≡ suc x → x ≤ 1074 → grains b % 2 ^ 1074 ≡ full b % 2 ^ (1074 - x) * 2 ^ x
left b x e h = ap (λ (g : ℕ). g % 2 ^ 1074) (by_field b x e) ∙ (low_field (b % 2 ^ 52) x h).1

-- below 1, and not 0
pub whole_small : (b : ℕ) → (b ≡ 0 → ⊥) → b / 2 ^ 52 < 1023 → whole b ≡ none
whole_small b z h = not_whole b (go (b / 2 ^ 52) refl)
  where
    go : (f : ℕ) → b / 2 ^ 52 ≡ f → grains b % 2 ^ 1074 ≡ 0 → ⊥
    go zero e q =
        let g : grains b ≡ b % 2 ^ 52 = ap (λ (f : ℕ). scaled f (b % 2 ^ 52)) e in
        let l : b % 2 ^ 52 < 2 ^ 1074 = lt_of_lt_of_le (mod-lt b {m = 2 ^ 52} (lit< tt)) (pow-le-pow_right {n = 2} (lit< tt) {i = 52} {j = 1074} (omega arith)) in
        let r : b % 2 ^ 52 ≡ 0 = sym (mod-eq_of_lt l) ∙ (ap (λ (x : ℕ). x % 2 ^ 1074) (sym g) ∙ q) in
        z (plain e r)
      where
        plain : b / 2 ^ 52 ≡ 0 → b % 2 ^ 52 ≡ 0 → b ≡ 0
        plain e r = omega arith
    go (suc x) e q =
        let l : full b < 2 ^ (1074 - x) = lt_of_lt_of_le (full_below b) (pow-le-pow_right {n = 2} (lit< tt) {i = 53} {j = 1074 - x} (omega arith)) in
        let r : full b * 2 ^ x ≡ 0 = ap (λ (y : ℕ). y * 2 ^ x) (sym (mod-eq_of_lt l)) ∙ (sym (left b x e (omega arith)) ∙ q) in
        let p : full b * 1 ≤ full b * 2 ^ x = mul-le-mul_left (full b) (pow_pos x) in
        never p r
      where
        never : full b * 1 ≤ full b * 2 ^ x → full b * 2 ^ x ≡ 0 → ⊥
        never p r = omega arith

module _ (b : ℕ) (low : 1023 ≤ b / 2 ^ 52) (high : b / 2 ^ 52 ≤ 1075) where
  below : ℕ
  below = b / 2 ^ 52 - 1

  field_is : b / 2 ^ 52 ≡ suc below
  unfolding below
  field_is = omega arith

  point_is : 1075 - b / 2 ^ 52 ≡ 1074 - below
  unfolding below
  point_is = omega arith

  below_le : below ≤ 1074
  unfolding below
  below_le = omega arith

  -- no digit behind the point
  whole_middle : full b % 2 ^ (1075 - b / 2 ^ 52) ≡ 0 → whole b ≡ some (full b / 2 ^ (1075 - b / 2 ^ 52))
  whole_middle z =
      let r : grains b % 2 ^ 1074 ≡ 0 = left b below field_is below_le ∙ ap (λ (y : ℕ). y * 2 ^ below) (ap (λ (p : ℕ). full b % 2 ^ p) (sym point_is) ∙ z) ∙ none_of (2 ^ below) in
      let d : grains b / 2 ^ 1074 ≡ full b / 2 ^ (1075 - b / 2 ^ 52) = ap (λ (g : ℕ). g / 2 ^ 1074) (by_field b below field_is) ∙ (low_field (b % 2 ^ 52) below below_le).0 ∙ ap (λ (p : ℕ). full b / 2 ^ p) (sym point_is) in
      ap (λ (c : Bool). only_if (c && eqb (grains b % 2 ^ 1074) 0) (grains b / 2 ^ 1074)) (lt-ltb (b / 2 ^ 52) 2047 (omega arith))
      ∙ ap (λ (c : Bool). only_if c (grains b / 2 ^ 1074)) (eq-eqb (grains b % 2 ^ 1074) 0 r)
      ∙ ap {B = Option ℕ} some d
    where
      none_of : (x : ℕ) → 0 * x ≡ 0
      none_of x = omega arith

  -- some digit behind it
  whole_part : (full b % 2 ^ (1075 - b / 2 ^ 52) ≡ 0 → ⊥) → whole b ≡ none
  whole_part d = not_whole b (λ q. d (zero_of (full b % 2 ^ (1075 - b / 2 ^ 52)) (pow_pos below) (ap (λ (p : ℕ). full b % 2 ^ p * 2 ^ below) point_is ∙ (sym (left b below field_is below_le) ∙ q))))
    where
      zero_of : (x : ℕ) → 1 ≤ 2 ^ below → x * 2 ^ below ≡ 0 → x ≡ 0
      zero_of x l e = let p : x * 1 ≤ x * 2 ^ below = mul-le-mul_left x l in omega arith

  pub whole_pointed : whole b ≡ only_if (eqb (full b % 2 ^ (1075 - b / 2 ^ 52)) 0) (full b / 2 ^ (1075 - b / 2 ^ 52))
  whole_pointed = go (ℕ_discrete (full b % 2 ^ (1075 - b / 2 ^ 52)) 0)
    where
      go : Dec (full b % 2 ^ (1075 - b / 2 ^ 52) ≡ 0) → whole b ≡ only_if (eqb (full b % 2 ^ (1075 - b / 2 ^ 52)) 0) (full b / 2 ^ (1075 - b / 2 ^ 52))
      go (yes z) = whole_middle z ∙ sym (ap (λ (c : Bool). only_if c (full b / 2 ^ (1075 - b / 2 ^ 52))) (eq-eqb _ 0 z))
      go (no d) = whole_part d ∙ sym (ap (λ (c : Bool). only_if c (full b / 2 ^ (1075 - b / 2 ^ 52))) (ne_eqb _ 0 d))

-- from 2^53 on: every finite float is whole, at each exponent
pub whole_large : (b : ℕ) → 1075 < b / 2 ^ 52 → b / 2 ^ 52 < 2047 → whole b ≡ some (full b * 2 ^ (b / 2 ^ 52 - 1075))
whole_large b h l =
    let d : ℕ = b / 2 ^ 52 - 1075 in
    let f : b / 2 ^ 52 ≡ suc (d + 1074) = omega arith in
    grains_whole b (full b * 2 ^ d) (lt→ltb (b / 2 ^ 52) 2047 l) (by_field b (d + 1074) f ∙ high_field (b % 2 ^ 52) d)

-- an infinity is no number, nor is what no valid file has: a NaN, a negative
pub whole_none : (b : ℕ) → 2047 ≤ b / 2 ^ 52 → whole b ≡ none
whole_none b h = ap (λ (c : Bool). only_if (c && eqb (grains b % 2 ^ 1074) 0) (grains b / 2 ^ 1074)) (le-ltb (b / 2 ^ 52) 2047 h)

byte_shift : (k : ℕ) → 2 ^ (8 * k) ≡ 256 ^ k
byte_shift zero = refl
byte_shift (suc k) =
    let e : 8 * suc k ≡ 8 * k + 8 = omega arith in
    ap (λ (x : ℕ). 2 ^ x) e ∙ pow-add 2 (8 * k) 8 ∙ ap (λ (x : ℕ). x * 256) (byte_shift k) ∙ sym (pow-suc 256 k)

-- a shift by d digits: by the bytes in them, and by what is left
pub shift_bytes : (n d : ℕ) → n * 2 ^ d ≡ n * 2 ^ (d % 8) * 256 ^ (d / 8)
shift_bytes n d =
    let e : d ≡ d % 8 + 8 * (d / 8) = omega arith in
    ap (λ (x : ℕ). n * 2 ^ x) e ∙ ap (λ (x : ℕ). n * x) (pow-add 2 (d % 8) (8 * (d / 8)) ∙ ap (λ (x : ℕ). 2 ^ (d % 8) * x) (byte_shift (d / 8))) ∙ sym (mul_assoc n (2 ^ (d % 8)) (256 ^ (d / 8)))

-- what the code holds of a whole float

pub shift_low : (n p : ℕ) → n < 2 ^ 53 → p ≤ 2 ^ 7 → n * p < 2 ^ 60
shift_low n p h k = let a : n * p ≤ (2 ^ 53 - 1) * 2 ^ 7 = mul-le-mul {n₂ = 2 ^ 53 - 1} (omega arith) k in omega arith

pub rest_low : (s : ℕ) → 2 ^ (s % 8) ≤ 2 ^ 7
rest_low s = pow-le-pow_right {n = 2} (lit< tt) {i = s % 8} {j = 7} (omega arith)

pub shifted_fit : (n s : ℕ) → 2 ^ 52 ≤ n → n < 2 ^ 53 → s < 1000 → Fit (record { head = n * 2 ^ (s % 8); zeros = s / 8 })
shifted_fit n s l h k = record {
  head_low = shift_low n (2 ^ (s % 8)) h (rest_low s);
  zeros_low = omega arith;
  head_high = inr (let a : n * 1 ≤ n * 2 ^ (s % 8) = mul-le-mul_left n (pow_pos (s % 8)) in omega arith);
}

pub pointed_fit : (n d : ℕ) → n < 2 ^ 53 → Fit (record { head = n / d; zeros = 0 })
pointed_fit n d h = record { head_low = let a : n / d ≤ n = div-le_self n d in omega arith; zeros_low = omega arith; head_high = inl refl }

pub pointed_value : (n d : ℕ) → n / d * 256 ^ 0 ≡ n / d
pointed_value n d = mul-one (n / d)

-- below 2^31 there is no zero byte
pub low_value : (w : Spelled) → w.zeros ≡ 0 → valued w ≡ w.head
low_value w e = ap (λ (z : ℕ). w.head * 256 ^ z) e ∙ mul-one w.head

pub high_value : (w : Spelled) → Fit w → (w.zeros ≡ 0 → ⊥) → 2 ^ 31 ≤ valued w
high_value w f d = go f.head_high
  where
    go : (w.zeros ≡ 0) ⊎ (2 ^ 52 ≤ w.head) → 2 ^ 31 ≤ valued w
    go (inl e) = absurd (d e)
    go (inr h) =
        let p : 1 ≤ 256 ^ w.zeros = pow-le-pow_right {n = 256} (lit< tt) {i = 0} {j = w.zeros} (omega arith) in
        let a : w.head * 1 ≤ w.head * 256 ^ w.zeros = mul-le-mul_left w.head p in
        omega arith
