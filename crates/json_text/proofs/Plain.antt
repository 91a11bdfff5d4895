-- Bytes that stand for themselves in a string's text. Assumes nothing.
use Prim.Native.Nat.{ℕ, ◌+◌, ◌/◌, ◌%◌, ◌≤◌, ◌<◌}
use native.Mathlib.Omega.{arith}
use mathlib.Core.Path.{◌≡◌, refl, sym, ap, ◌∙◌}
use mathlib.Core.Bool.{Bool, true, false, cond, ◌&&◌, not}
use mathlib.Core.List.{List, [], ◌∷◌, ◌++◌, append-nil}
use lib.Dec.{T, ltb, eqb, leb, leb→le}
use borrow.Author.Tests.{le-leb, lt-leb, ne_eqb, ltb-true, ltb-false}
use Rattle.base.proofs.Bools.{so, nope, and_left, and_right, both}
use Rattle.json_text.specs.Utf8.{within, front}
use Rattle.json_text.specs.Escape.{must, hex_digit, hex, hexes, unit, escape, escaped}
use Rattle.page.specs.Digits.{decimal}
use Rattle.page.proofs.Decimals.{by_digits}

-- a byte of 0x20 to 0x7F that is neither a quotation mark nor a reverse solidus
abbrev pub plain : ℕ → Bool
plain b = within 0x20 0x7F b && (not (eqb b 0x22) && not (eqb b 0x5C))

abbrev pub all_plain : List ℕ → Bool
all_plain [] = true
all_plain (b ∷ s) = plain b && all_plain s

pub plain_is : (b : ℕ) → 0x20 ≤ b → b ≤ 0x7F → (b ≡ 0x22 → ⊥) → (b ≡ 0x5C → ⊥) → T (plain b)
plain_is b l m f g = rw (le-leb 0x20 b l, le-leb b 0x7F m, ne_eqb b 0x22 f, ne_eqb b 0x5C g) tt

pub plain_append : (a s : List ℕ) → T (all_plain a) → T (all_plain s) → T (all_plain (a ++ s))
plain_append [] s p q = q
plain_append (b ∷ a) s p q = both (plain b) (all_plain (a ++ s)) (and_left (plain b) (all_plain a) p) (plain_append a s (and_right (plain b) (all_plain a) p) q)

-- ---- a plain byte is its own text

plain_within : (b : ℕ) → T (plain b) → T (within 0x20 0x7F b)
plain_within b p = and_left (within 0x20 0x7F b) (not (eqb b 0x22) && not (eqb b 0x5C)) p

pub plain_low : (b : ℕ) → T (plain b) → T (leb 0x20 b)
plain_low b p = and_left (leb 0x20 b) (leb b 0x7F) (plain_within b p)

pub plain_ascii : (b : ℕ) → T (plain b) → leb b 0x7F ≡ true
plain_ascii b p = so (leb b 0x7F) (and_right (leb 0x20 b) (leb b 0x7F) (plain_within b p))

pub plain_kept : (b : ℕ) → T (plain b) → must b ≡ false
plain_kept b p =
    let l = leb→le 0x20 b (plain_low b p) in
    let r = and_right (within 0x20 0x7F b) (not (eqb b 0x22) && not (eqb b 0x5C)) p in
    rw (
      lt-leb b 0x1F (omega arith),
      nope (eqb b 0x22) (and_left (not (eqb b 0x22)) (not (eqb b 0x5C)) r),
      nope (eqb b 0x5C) (and_right (not (eqb b 0x22)) (not (eqb b 0x5C)) r),
    )

escape_plain : (b : ℕ) (s : List ℕ) → T (plain b) → escape 0 (b ∷ s) ≡ b ∷ escape 0 s
unfolding escape unit front
escape_plain b s p = rw (plain_ascii b p, plain_kept b p)

pub plain_escaped : (a s : List ℕ) → T (all_plain a) → escaped (a ++ s) ≡ a ++ escaped s
plain_escaped [] s p = refl
plain_escaped (b ∷ a) s p =
    escape_plain b (a ++ s) (and_left (plain b) (all_plain a) p)
    ∙ ap (λ (l : List ℕ). b ∷ l) (plain_escaped a s (and_right (plain b) (all_plain a) p))

pub plain_same : (a : List ℕ) → T (all_plain a) → escaped a ≡ a
unfolding escape
plain_same a p = ap (λ (l : List ℕ). escaped l) (sym (append-nil a)) ∙ plain_escaped a [] p ∙ append-nil a

-- ---- digits are plain

digit_plain : (d : ℕ) → d < 10 → T (all_plain ((48 + d) ∷ []))
digit_plain d h = both (plain (48 + d)) true (plain_is (48 + d) (omega arith) (omega arith) (omega arith) (omega arith)) tt

pub decimal_plain : (n : ℕ) → T (all_plain (decimal n))
decimal_plain n =
    by_digits (λ m s. T (all_plain s)) digit_plain (λ m s h p. plain_append s ((48 + m % 10) ∷ []) p (digit_plain (m % 10) (omega arith))) n

hex_digit_plain : (d : ℕ) → d < 16 → T (plain (hex_digit d))
hex_digit_plain d h = go (ltb d 10) refl
  where
    go : (t : Bool) → ltb d 10 ≡ t → T (plain (cond t (48 + d) (87 + d)))
    go true e = plain_is (48 + d) (omega arith) (omega (arith, ltb-true d 10 e)) (omega (arith, ltb-true d 10 e)) (omega (arith, ltb-true d 10 e))
    go false e = plain_is (87 + d) (omega arith) (omega arith) (omega arith) (omega (arith, ltb-false d 10 e))

pub hex_plain : (b : ℕ) → T (all_plain (hex b))
unfolding hex
hex_plain b =
    both (plain (hex_digit (b / 16 % 16))) (plain (hex_digit (b % 16)) && true) (hex_digit_plain (b / 16 % 16) (omega arith))
    (both (plain (hex_digit (b % 16))) true (hex_digit_plain (b % 16) (omega arith)) tt)

pub hexes_plain : (s : List ℕ) → T (all_plain (hexes s))
unfolding hexes
hexes_plain [] = tt
hexes_plain (b ∷ s) = plain_append (hex b) (hexes s) (hex_plain b) (hexes_plain s)
