-- A value's text is skipped by the reader, where no line begins in it. Assumes nothing.
use Prim.Native.Nat.{ℕ}
use Prim.Native.String.{String, [] as end, ◌∷◌ as ◌then◌}
use native.Mathlib.Omega.{arith}
use borrow.Author.Tests.{ne_eqb}
use lib.Dec.{T, leb, leb→le}
use Rattle.base.proofs.Bools.{and_left, and_right}
use mathlib.Core.Path.{◌≡◌, refl, ◌∙◌}
use mathlib.Core.Bool.{Bool, true, false}
use mathlib.Core.List.{List, [], ◌∷◌, ◌++◌}
use Rattle.rules.specs.Record.{Rec, Span}
use Rattle.base.specs.Ascii.{ascii}
use Rattle.rules.specs.Visit.{look}
use Rattle.json_text.specs.Escape.{escaped}
use Rattle.page.specs.Digits.{decimal}
use Rattle.json_text.specs.Text.{Json, string, number, array, rows, object, Items, nil, item, Members, done, ◌⨾◌, Member, ◌⇒◌, quoted, comma, text, items, members, member}
use Rattle.json_text.proofs.Shown.{shows, escaped_shows, decimal_shows}
use Rattle.sarif_log.specs.Words.{seconds, thirds}
use Rattle.sarif_log.specs.Log.{strings, other, related}
use Rattle.sarif_log.specs.Reader.{read}

-- no byte of these ends a line
pub quiet : (s rest : List ℕ) → T (shows s) → read (s ++ rest) ≡ read rest
unfolding read
quiet [] rest h = refl
quiet (b ∷ s) rest h =
    let l = leb→le 0x20 b (and_left (leb 0x20 b) (shows s) h) in
    rw (ne_eqb b 0x0A (λ e. omega arith)) (quiet s rest (and_right (leb 0x20 b) (shows s) h))

abbrev mutual
  -- a value on one line: without rows
  pub Plain : Json → Type 0
  Plain (string s) = Unit {0}
  Plain (number n) = Unit {0}
  Plain (array xs) = PlainItems xs
  Plain (rows xs) = ⊥
  Plain (object ms) = PlainMembers ms

  pub PlainItems : Items → Type 0
  PlainItems nil = Unit {0}
  PlainItems (item x xs) = Plain x × PlainItems xs

  pub PlainMembers : Members → Type 0
  PlainMembers done = Unit {0}
  PlainMembers (m ⨾ ms) = PlainMember m × PlainMembers ms

  pub PlainMember : Member → Type 0
  PlainMember (key ⇒ x) = Plain x

after_quoted : (s rest : List ℕ) → read (quoted s rest) ≡ read rest
unfolding read
after_quoted s rest = quiet (escaped s) (0x22 ∷ rest) (escaped_shows s)

after_comma : (first : Bool) (s : List ℕ) → read (comma first s) ≡ read s
unfolding read
after_comma true s = refl
after_comma false s = refl

mutual
  unfolding text read

  pub after_text : (j : Json) → Plain j → (rest : List ℕ) → read (text j rest) ≡ read rest
  after_text (string s) p rest = after_quoted s rest
  after_text (number n) p rest = quiet (decimal n) rest (decimal_shows n)
  after_text (array xs) p rest = after_items true xs p (0x5D ∷ rest)
  after_text (rows xs) p rest = absurd p
  after_text (object ms) p rest = after_members true ms p (0x7D ∷ rest)

  after_items : (first : Bool) (xs : Items) → PlainItems xs → (rest : List ℕ) → read (items first xs rest) ≡ read rest
  after_items first nil p rest = refl
  after_items first (item x xs) p rest =
      after_comma first (text x (items false xs rest)) ∙ (after_text x p.0 (items false xs rest) ∙ after_items false xs p.1 rest)

  after_members : (first : Bool) (ms : Members) → PlainMembers ms → (rest : List ℕ) → read (members first ms rest) ≡ read rest
  after_members first done p rest = refl
  after_members first (m ⨾ ms) p rest =
      after_comma first (member m (members false ms rest)) ∙ (after_member m p.0 (members false ms rest) ∙ after_members false ms p.1 rest)

  after_member : (m : Member) → PlainMember m → (rest : List ℕ) → read (member m rest) ≡ read rest
  after_member (key ⇒ x) p rest = after_quoted (ascii key) (0x3A ∷ text x rest) ∙ after_text x p rest

pub strings_plain : (ss : List (List ℕ)) → PlainItems (strings ss)
strings_plain [] = tt
strings_plain (s ∷ ss) = (tt, strings_plain ss)

other_plain : (w : String) (s : Span) (xs : Items) → PlainItems xs → PlainItems (other w s xs)
unfolding other
other_plain end s xs p = p
other_plain (c then w) s xs p = (omega arith, p)

pub related_plain : (r : Rec) → PlainItems (related r)
unfolding related
related_plain r =
    let last = other (look r.code thirds "") r.third nil in
    other_plain (look r.code seconds "") r.second last (other_plain (look r.code thirds "") r.third nil tt)
