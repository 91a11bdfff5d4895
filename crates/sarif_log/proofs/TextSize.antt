-- The size of a value's text, part by part. Assumes nothing.
use Prim.Native.Nat.{ℕ, ◌+◌, ◌-◌, ◌≤◌}
use native.Mathlib.Omega.{arith}
use mathlib.Core.Path.{◌≡◌}
use mathlib.Core.Bool.{Bool, true, false}
use mathlib.Core.List.{List, ◌∷◌}
use lib.ListN.{length, length-append}
use Rattle.base.specs.Ascii.{ascii}
use Rattle.json_text.specs.Escape.{escaped}
use Rattle.page.specs.Digits.{decimal}
use Rattle.json_text.specs.Text.{Json, string, number, array, rows, object, Items, nil, item, Members, done, ◌⨾◌, Member, ◌⇒◌, quoted, comma, text, items, lines, members, member}

abbrev pub comma_size : Bool → ℕ
comma_size true = 0
comma_size false = 1

abbrev pub quoted_size : List ℕ → ℕ
quoted_size s = 2 + length (escaped s)

unfoldable mutual
  pub size : Json → ℕ
  size (string s) = quoted_size s
  size (number n) = length (decimal n)
  size (array xs) = 2 + items_size true xs
  size (rows xs) = 2 + lines_size true xs
  size (object ms) = 2 + members_size true ms

  pub items_size : Bool → Items → ℕ
  items_size first nil = 0
  items_size first (item x xs) = comma_size first + (size x + items_size false xs)

  pub lines_size : Bool → Items → ℕ
  lines_size first nil = 0
  lines_size first (item x xs) = comma_size first + (1 + (size x + lines_size false xs))

  pub members_size : Bool → Members → ℕ
  members_size first done = 0
  members_size first (m ⨾ ms) = comma_size first + (member_size m + members_size false ms)

  pub member_size : Member → ℕ
  member_size (key ⇒ x) = quoted_size (ascii key) + (1 + size x)

quoted_length : (s rest : List ℕ) → length (quoted s rest) ≡ quoted_size s + length rest
quoted_length s rest = rw (length-append (escaped s) (0x22 ∷ rest)) (omega arith)

comma_length : (first : Bool) (s : List ℕ) → length (comma first s) ≡ comma_size first + length s
comma_length true s = omega arith
comma_length false s = omega arith

mutual
  unfolding text size

  pub text_length : (j : Json) (rest : List ℕ) → length (text j rest) ≡ size j + length rest
  text_length (string s) rest = quoted_length s rest
  text_length (number n) rest = length-append (decimal n) rest
  text_length (array xs) rest = omega (arith, items_length true xs (0x5D ∷ rest))
  text_length (rows xs) rest = omega (arith, lines_length true xs (0x5D ∷ rest))
  text_length (object ms) rest = omega (arith, members_length true ms (0x7D ∷ rest))

  items_length : (first : Bool) (xs : Items) (rest : List ℕ) → length (items first xs rest) ≡ items_size first xs + length rest
  items_length first nil rest = omega arith
  items_length first (item x xs) rest =
      omega (arith, comma_length first (text x (items false xs rest)), text_length x (items false xs rest), items_length false xs rest)

  lines_length : (first : Bool) (xs : Items) (rest : List ℕ) → length (lines first xs rest) ≡ lines_size first xs + length rest
  lines_length first nil rest = omega arith
  lines_length first (item x xs) rest =
      omega (arith, comma_length first (0x0A ∷ text x (lines false xs rest)), text_length x (lines false xs rest), lines_length false xs rest)

  members_length : (first : Bool) (ms : Members) (rest : List ℕ) → length (members first ms rest) ≡ members_size first ms + length rest
  members_length first done rest = omega arith
  members_length first (m ⨾ ms) rest =
      omega (arith, comma_length first (member m (members false ms rest)), member_length m (members false ms rest), members_length false ms rest)

  member_length : (m : Member) (rest : List ℕ) → length (member m rest) ≡ member_size m + length rest
  member_length (key ⇒ x) rest = omega (arith, quoted_length (ascii key) (0x3A ∷ text x rest), text_length x rest)

-- the first has no comma
pub first_fewer : (xs : Items) → items_size true xs ≤ items_size false xs
unfolding size
first_fewer nil = omega arith
first_fewer (item x xs) = omega arith

pub first_line : (xs : Items) → lines_size true xs ≤ lines_size false xs - 1
unfolding size
first_line nil = omega arith
first_line (item x xs) = omega arith
