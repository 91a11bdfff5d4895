-- The key test on values at its bounds and at 02's, one row each, computed. Assumes nothing.
use mathlib.Core.Path.{◌≡◌, refl}
use mathlib.Core.List.{List, [], ◌∷◌, map}
use Prim.Native.Nat.{ℕ}
use lib.ListN.{replicate}
use Rattle.tree.specs.Values.{Value}
use Rattle.tree.specs.declared.Mode.TheVariants.{Ordinary, Strict}
use Rattle.tree.specs.declared.Likeness.{Likeness}
use Rattle.tree.specs.declared.Likeness.TheVariants.{Different, SameForm, SameNumber}
use Rattle.tree.specs.Keys.{like}

abbrev value : ℕ → List ℕ → Value
value k bs = record { kind = k; bytes = bs }

abbrev zeros : ℕ → List ℕ
zeros n = replicate n 0

abbrev nought : Value
nought = value 3 []

abbrev nought_float : Value
nought_float = value 4 (0 ∷ 0 ∷ 0 ∷ 0 ∷ 0 ∷ 0 ∷ 0 ∷ 0 ∷ [])

abbrev half : Value
half = value 4 (0 ∷ 0 ∷ 0 ∷ 0 ∷ 0 ∷ 0 ∷ 0xe0 ∷ 0x3f ∷ [])

abbrev one : Value
one = value 3 (1 ∷ [])

abbrev one_float : Value
one_float = value 4 (0 ∷ 0 ∷ 0 ∷ 0 ∷ 0 ∷ 0 ∷ 0xf0 ∷ 0x3f ∷ [])

-- 2147483647, the last i32, and one more
abbrev last_i32 : Value
last_i32 = value 3 (0x7f ∷ 0xff ∷ 0xff ∷ 0xff ∷ [])

abbrev last_i32_float : Value
last_i32_float = value 4 (0 ∷ 0 ∷ 0xc0 ∷ 0xff ∷ 0xff ∷ 0xff ∷ 0xdf ∷ 0x41 ∷ [])

abbrev past_i32 : Value
past_i32 = value 3 (0x80 ∷ 0 ∷ 0 ∷ 0 ∷ [])

abbrev past_i32_float : Value
past_i32_float = value 4 (0 ∷ 0 ∷ 0 ∷ 0 ∷ 0 ∷ 0 ∷ 0xe0 ∷ 0x41 ∷ [])

abbrev ten_billion : Value
ten_billion = value 3 (0x02 ∷ 0x54 ∷ 0x0b ∷ 0xe4 ∷ 0x00 ∷ [])

abbrev ten_billion_float : Value
ten_billion_float = value 4 (0 ∷ 0 ∷ 0 ∷ 0x20 ∷ 0x5f ∷ 0xa0 ∷ 0x02 ∷ 0x42 ∷ [])

-- 2^53 - 1, and 2^53
abbrev below_53 : Value
below_53 = value 3 (0x1f ∷ 0xff ∷ 0xff ∷ 0xff ∷ 0xff ∷ 0xff ∷ 0xff ∷ [])

abbrev below_53_float : Value
below_53_float = value 4 (0xff ∷ 0xff ∷ 0xff ∷ 0xff ∷ 0xff ∷ 0xff ∷ 0x3f ∷ 0x43 ∷ [])

abbrev at_53 : Value
at_53 = value 3 (0x20 ∷ 0 ∷ 0 ∷ 0 ∷ 0 ∷ 0 ∷ 0 ∷ [])

abbrev at_53_float : Value
at_53_float = value 4 (0 ∷ 0 ∷ 0 ∷ 0 ∷ 0 ∷ 0 ∷ 0x40 ∷ 0x43 ∷ [])

-- 2^53 + 2, the next float; 2^53 + 1, which is none
abbrev past_53 : Value
past_53 = value 3 (0x20 ∷ 0 ∷ 0 ∷ 0 ∷ 0 ∷ 0 ∷ 2 ∷ [])

abbrev past_53_float : Value
past_53_float = value 4 (1 ∷ 0 ∷ 0 ∷ 0 ∷ 0 ∷ 0 ∷ 0x40 ∷ 0x43 ∷ [])

abbrev between_53 : Value
between_53 = value 3 (0x20 ∷ 0 ∷ 0 ∷ 0 ∷ 0 ∷ 0 ∷ 1 ∷ [])

-- 2^511 and 2^512 - 2^459, the last float that 64 bytes hold; 2^512 - 1, the last integer
abbrev of_511 : Value
of_511 = value 3 (0x80 ∷ zeros 63)

abbrev of_511_float : Value
of_511_float = value 4 (0 ∷ 0 ∷ 0 ∷ 0 ∷ 0 ∷ 0 ∷ 0xe0 ∷ 0x5f ∷ [])

abbrev last_64 : Value
last_64 = value 3 (0xff ∷ 0xff ∷ 0xff ∷ 0xff ∷ 0xff ∷ 0xff ∷ 0xf8 ∷ zeros 57)

abbrev last_64_float : Value
last_64_float = value 4 (0xff ∷ 0xff ∷ 0xff ∷ 0xff ∷ 0xff ∷ 0xff ∷ 0xef ∷ 0x5f ∷ [])

abbrev all_64 : Value
all_64 = value 3 (replicate 64 0xff)

-- 2^512, 2^1023
abbrev of_512_float : Value
of_512_float = value 4 (0 ∷ 0 ∷ 0 ∷ 0 ∷ 0 ∷ 0 ∷ 0xf0 ∷ 0x5f ∷ [])

abbrev of_1023_float : Value
of_1023_float = value 4 (0 ∷ 0 ∷ 0 ∷ 0 ∷ 0 ∷ 0 ∷ 0xe0 ∷ 0x7f ∷ [])

-- 1.5, the smallest float above 0
abbrev one_and_half : Value
one_and_half = value 4 (0 ∷ 0 ∷ 0 ∷ 0 ∷ 0 ∷ 0 ∷ 0xf8 ∷ 0x3f ∷ [])

abbrev grain : Value
grain = value 4 (1 ∷ 0 ∷ 0 ∷ 0 ∷ 0 ∷ 0 ∷ 0 ∷ 0 ∷ [])

abbrev infinity : Value
infinity = value 4 (0 ∷ 0 ∷ 0 ∷ 0 ∷ 0 ∷ 0 ∷ 0xf0 ∷ 0x7f ∷ [])

-- two values, what the ordinary test says of them, what the strict one says
pub record Row : Type 0 where
  pub left : Value
  pub right : Value
  pub ordinarily : Likeness
  pub strictly : Likeness

abbrev row : Value → Value → Likeness → Likeness → Row
row a b o s = record { left = a; right = b; ordinarily = o; strictly = s }

abbrev rows : List Row
rows =
    row one one_float SameNumber SameNumber
    ∷ row one one SameForm SameForm
    ∷ row nought nought_float SameNumber SameNumber
    ∷ row last_i32 last_i32_float SameNumber SameNumber
    ∷ row past_i32 past_i32_float Different SameNumber
    ∷ row ten_billion ten_billion_float Different SameNumber
    ∷ row below_53 below_53_float Different SameNumber
    ∷ row at_53 at_53_float Different SameNumber
    ∷ row at_53_float at_53 Different SameNumber
    ∷ row past_53 past_53_float Different SameNumber
    ∷ row between_53 at_53_float Different Different
    ∷ row between_53 past_53_float Different Different
    ∷ row of_511 of_511_float Different SameNumber
    ∷ row of_511_float of_511 Different SameNumber
    ∷ row last_64 last_64_float Different SameNumber
    ∷ row all_64 last_64_float Different Different
    ∷ row all_64 of_512_float Different Different
    ∷ row of_511 of_512_float Different Different
    ∷ row of_512_float of_512_float SameForm SameForm
    ∷ row all_64 of_1023_float Different Different
    ∷ row of_511 of_1023_float Different Different
    ∷ row at_53_float at_53_float SameForm SameForm
    ∷ row half nought Different Different
    ∷ row half one Different Different
    ∷ row one_and_half one Different Different
    ∷ row grain nought Different Different
    ∷ row grain nought_float Different Different
    ∷ row infinity infinity SameForm SameForm
    ∷ row infinity at_53 Different Different
    ∷ row infinity all_64 Different Different
    ∷ row infinity of_1023_float Different Different
    ∷ row (value 0 (0x78 ∷ [])) (value 1 (0x78 ∷ [])) Different Different
    ∷ row (value 1 (0x78 ∷ [])) (value 2 (0x78 ∷ [])) Different Different
    ∷ []

pub ordinary_rows : map (λ (r : Row). like Ordinary r.left r.right) rows ≡ map (λ (r : Row). r.ordinarily) rows
ordinary_rows = refl

pub strict_rows : map (λ (r : Row). like Strict r.left r.right) rows ≡ map (λ (r : Row). r.strictly) rows
strict_rows = refl
