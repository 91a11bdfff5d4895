-- How many bytes a string's text can have: six for a byte that must be escaped, one for any other of ASCII, three past it. Assumes nothing.
use Prim.Native.Nat.{ℕ, zero, suc, ◌+◌, ◌-◌, ◌*◌, ◌≤◌}
use native.Mathlib.Omega.{arith}
use mathlib.Core.Path.{◌≡◌, refl, ◌∙◌}
use mathlib.Core.Bool.{Bool, true, false, cond}
use mathlib.Core.List.{List, [], ◌∷◌, ◌++◌}
use lib.Dec.{T, leb}
use lib.ListN.{length, length-append}
use Rattle.json_text.specs.Utf8.{front}
use Rattle.json_text.specs.Escape.{must, hex, six, unit, escape, escaped, hexes}
use Rattle.json_text.proofs.Plain.{plain, all_plain, plain_ascii, plain_kept, hexes_plain}
use Rattle.base.proofs.Bools.{and_left, and_right}

abbrev cost_by : Bool → Bool → ℕ
cost_by m l = cond m 6 (cond l 1 3)

abbrev cost : ℕ → ℕ
cost b = cost_by (must b) (leb b 0x7F)

abbrev pub weight : List ℕ → ℕ
weight [] = 0
weight (b ∷ s) = cost b + weight s

cost_range : (m l : Bool) → (1 ≤ cost_by m l) × (cost_by m l ≤ 6)
cost_range true l = omega arith
cost_range false true = omega arith
cost_range false false = omega arith

ascii_front : (b : ℕ) (s : List ℕ) → leb b 0x7F ≡ true → front (b ∷ s) ≡ 1
unfolding front
ascii_front b s e = rw e

six_most : (n b : ℕ) → length (unit n b) ≤ 6
unfolding unit hex
six_most zero b = omega arith
six_most (suc zero) b = go (must b)
  where
    go : (m : Bool) → length (cond m (six b) (b ∷ [])) ≤ 6
    go true = omega arith
    go false = omega arith
six_most (suc (suc k)) b = omega arith

three_most : (n b : ℕ) → must b ≡ false → length (unit n b) ≤ 3
unfolding unit
three_most zero b e = omega arith
three_most (suc zero) b e = rw e (omega arith)
three_most (suc (suc k)) b e = omega arith

one_most : (b : ℕ) → must b ≡ false → length (unit 1 b) ≤ 1
unfolding unit
one_most b e = rw e (omega arith)

unit_length : (b : ℕ) (s : List ℕ) → length (unit (front (b ∷ s)) b) ≤ cost b
unit_length b s = go (must b) refl (leb b 0x7F) refl
  where
    go : (m : Bool) → must b ≡ m → (l : Bool) → leb b 0x7F ≡ l → length (unit (front (b ∷ s)) b) ≤ cost_by m l
    go true e l f = six_most (front (b ∷ s)) b
    go false e true f = rw (ascii_front b s f) (one_most b e)
    go false e false f = three_most (front (b ∷ s)) b e

escape_length : (s : List ℕ) (k : ℕ) → length (escape k s) ≤ weight s
unfolding escape
escape_length [] k = omega arith
escape_length (b ∷ s) zero =
    rw length-append (omega (arith, unit_length b s, escape_length s (front (b ∷ s) - 1)))
escape_length (b ∷ s) (suc k) = omega (arith, cost_range (must b) (leb b 0x7F), escape_length s k)

pub escaped_length : (s : List ℕ) → length (escaped s) ≤ weight s
escaped_length s = escape_length s zero

pub weight_append : (s u : List ℕ) → weight (s ++ u) ≡ weight s + weight u
weight_append [] u = omega arith
weight_append (b ∷ s) u = omega (arith, weight_append s u)

pub weight_most : (s : List ℕ) → weight s ≤ 6 * length s
weight_most [] = omega arith
weight_most (b ∷ s) = omega (arith, cost_range (must b) (leb b 0x7F), weight_most s)

-- ---- bytes that stand for themselves

pub plain_weight : (s : List ℕ) → T (all_plain s) → weight s ≡ length s
plain_weight [] p = refl
plain_weight (b ∷ s) p =
    let q = and_left (plain b) (all_plain s) p in
    rw (plain_kept b q, plain_ascii b q) (omega (arith, plain_weight s (and_right (plain b) (all_plain s) p)))

hexes_length : (s : List ℕ) → length (hexes s) ≡ 2 * length s
unfolding hexes hex
hexes_length [] = refl
hexes_length (b ∷ s) = omega (arith, hexes_length s)

pub hexes_weight : (s : List ℕ) → weight (hexes s) ≡ 2 * length s
hexes_weight s = plain_weight (hexes s) (hexes_plain s) ∙ hexes_length s
