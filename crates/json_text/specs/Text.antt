-- A JSON value, and its text. Assumes nothing.
use Rattle.std.specs.Prelude.{ℕ, Bool, true, false, List, ◌∷◌, ◌++◌}
use Prim.Native.String.{String}
use Rattle.base.specs.Ascii.{ascii}
use Rattle.json_text.specs.Escape.{escaped}
use Rattle.page.specs.Digits.{decimal}

infixr 4 ◌⨾◌
infix 5 ◌⇒◌
mutual
  -- string: of any bytes. rows: an array with each item on a line of its own
  pub data Json : Type 0 where
    string : List ℕ → Json
    number : ℕ → Json
    array : Items → Json
    rows : Items → Json
    object : Members → Json

  pub data Items : Type 0 where
    nil : Items
    item : Json → Items → Items

  pub data Members : Type 0 where
    done : Members
    ◌⨾◌ : Member → Members → Members

  pub data Member : Type 0 where
    ◌⇒◌ : String → Json → Member

-- between quotation marks, before what follows
abbrev pub quoted : List ℕ → List ℕ → List ℕ
quoted s rest = 0x22 ∷ (escaped s ++ (0x22 ∷ rest))

-- what stands before an item or a member: a comma, unless it is the first
abbrev pub comma : Bool → List ℕ → List ℕ
comma true rest = rest
comma false rest = 0x2C ∷ rest

unfoldable mutual
  -- the text of a value, before what follows it
  pub text : Json → List ℕ → List ℕ
  text (string s) rest = quoted s rest
  text (number n) rest = decimal n ++ rest
  text (array xs) rest = 0x5B ∷ items true xs (0x5D ∷ rest)
  text (rows xs) rest = 0x5B ∷ lines true xs (0x5D ∷ rest)
  text (object ms) rest = 0x7B ∷ members true ms (0x7D ∷ rest)

  pub items : Bool → Items → List ℕ → List ℕ
  items first nil rest = rest
  items first (item x xs) rest = comma first (text x (items false xs rest))

  -- each after a line's end
  pub lines : Bool → Items → List ℕ → List ℕ
  lines first nil rest = rest
  lines first (item x xs) rest = comma first (0x0A ∷ text x (lines false xs rest))

  pub members : Bool → Members → List ℕ → List ℕ
  members first done rest = rest
  members first (m ⨾ ms) rest = comma first (member m (members false ms rest))

  pub member : Member → List ℕ → List ℕ
  member (key ⇒ x) rest = quoted (ascii key) (0x3A ∷ text x rest)
