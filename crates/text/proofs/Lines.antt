-- Laws of the listing's lines, and what functions wrote of them. Assumes nothing.
use Prim.Native.Nat.{ℕ, zero, suc, ◌+◌, ◌*◌, ◌-◌, ◌≤◌, ◌<◌}
use native.Mathlib.Omega.{arith}
use native.Mathlib.Numerals.{add-one}
use mathlib.Core.Path.{◌≡◌, refl, sym, ap, ◌∙◌}
use mathlib.Core.Bool.{Bool, true, false}
use mathlib.Core.List.{List, [], ◌∷◌, ◌++◌, append_assoc}
use lib.Dec.{eqb}
use lib.ListN.{length, get_or, drop, drop_of_length-le}
use lib.Seq.{drop-cons, drop-drop, get_or-drop}
use borrow.Author.Tests.{eqb-true, eqb-false}
use Rattle.base.specs.Ascii.{ascii}
use Rattle.page.specs.Digits.{decimal}
use Rattle.page.specs.declared.Writer.{Writer}
use Rattle.page.specs.Page.{Added}
use Rattle.page.proofs.Pages.{added_then, added_retold, nothing_added}
use Rattle.rules.specs.Record.{words, width}
use Rattle.rules.specs.Joined.{codes}
use Rattle.rules.specs.Outcome.{number_of, place_of}
use Rattle.rules.specs.Afterwards.{record_in, records_in}
use Rattle.rules.specs.declared.Refusal.{Refusal}
use Rattle.rules.proofs.Called.{length_records}
use Rattle.text.specs.Text.{after, line, records, listing, refused}
use Rattle.text.specs.Pieces.{end_of, ended, tally_line}

-- ---- a line, one number taken off

after_end : (ws : List ℕ) (k : ℕ) → k ≤ length ws → after (drop k ws) ≡ end_of (eqb k (length ws))
after_end ws k h = go (eqb k (length ws)) refl
  where
    go : (b : Bool) → eqb k (length ws) ≡ b → after (drop k ws) ≡ end_of b
    go true e = let q = eqb-true k (length ws) e in rw (drop_of_length-le ws {i = k} (omega arith))
    go false e = let q = eqb-false k (length ws) e in let l : k < length ws = omega arith in rw (drop-cons ws k 0 l)

pub line_next : (ws : List ℕ) (k : ℕ) → k < length ws
    → line (drop k ws) ≡ ended (get_or ws k 0) (eqb (k + 1) (length ws)) ++ line (drop (k + 1) ws)
unfolding line
line_next ws k h =
    let e = after_end ws (k + 1) (omega arith) in
    let d : drop k ws ≡ get_or ws k 0 ∷ drop (k + 1) ws = rw (add-one, drop-cons ws k 0 h) in
    ap line d
    ∙ ap (λ (b : ℕ). decimal (get_or ws k 0) ++ (b ∷ line (drop (k + 1) ws))) e
    ∙ sym (append_assoc (decimal (get_or ws k 0)) (end_of (eqb (k + 1) (length ws)) ∷ []) (line (drop (k + 1) ws)))

pub line_end : (ws : List ℕ) (k : ℕ) → length ws ≤ k → line (drop k ws) ≡ []
unfolding line
line_end ws k h = rw (drop_of_length-le ws {i = k} h)

-- ---- a record's words

pub record_word : (o : List ℕ) (k : ℕ) → k < width → get_or (words (record_in o)) k 0 ≡ get_or o k 0
record_word o zero h = refl
record_word o (suc zero) h = refl
record_word o (suc (suc zero)) h = refl
record_word o (suc (suc (suc zero))) h = refl
record_word o (suc (suc (suc (suc zero)))) h = refl
record_word o (suc (suc (suc (suc (suc zero))))) h = refl
record_word o (suc (suc (suc (suc (suc (suc zero)))))) h = refl
record_word o (suc (suc (suc (suc (suc (suc (suc zero))))))) h = refl
record_word o (suc (suc (suc (suc (suc (suc (suc (suc zero)))))))) h = refl
record_word o (suc (suc (suc (suc (suc (suc (suc (suc (suc zero))))))))) h = refl
record_word o (suc (suc (suc (suc (suc (suc (suc (suc (suc (suc k)))))))))) h = absurd (omega arith)

-- the record that begins at word i of the room, word k of it taken off
pub record_next : (room : List ℕ) (i k : ℕ) → k < width
    → line (drop k (words (record_in (drop i room))))
    ≡ ended (get_or room (i + k) 0) (eqb (k + 1) width) ++ line (drop (k + 1) (words (record_in (drop i room))))
record_next room i k h =
    let ws = words (record_in (drop i room)) in
    line_next ws k h
    ∙ ap (λ (x : ℕ). ended x (eqb (k + 1) width) ++ line (drop (k + 1) ws)) (record_word (drop i room) k h ∙ get_or-drop i room k 0)

-- ---- records, one taken off

pub records_next : (room : List ℕ) (many r : ℕ) → r < many
    → records (records_in (many - r) (drop (width * r) room))
    ≡ line (words (record_in (drop (width * r) room))) ++ records (records_in (many - (r + 1)) (drop (width * (r + 1)) room))
unfolding records
records_next room many r h =
    let m : many - r ≡ suc (many - (r + 1)) = omega arith in
    let n : width * r + width ≡ width * (r + 1) = omega arith in
    rw m
    (ap (λ (o : List ℕ). line (words (record_in (drop (width * r) room))) ++ records (records_in (many - (r + 1)) o))
    (drop-drop width (width * r) room ∙ ap (λ (k : ℕ). drop k room) n))

pub records_end : (room : List ℕ) (many r : ℕ) → many ≤ r → records (records_in (many - r) (drop (width * r) room)) ≡ []
unfolding records
records_end room many r h = let z : many - r ≡ 0 = omega arith in rw z

-- ---- what functions wrote

module _ {w w₁ w₂ : Writer} {j : ℕ} where
  pub ended_added : (k x : ℕ) (last : Bool) → Added w w₁ j (λ rest. decimal x ++ rest) → Added w₁ w₂ 1 (λ rest. end_of last ∷ rest)
      → j + 1 ≤ k → Added w w₂ k (λ rest. ended x last ++ rest)
  ended_added k x last p q h =
      added_retold k (λ rest. ended x last ++ rest) (added_then p q) h (λ rest. sym (append_assoc (decimal x) (end_of last ∷ []) rest))

module _ {w w₁ w₂ w₃ : Writer} where
  pub listing_added : (room : List ℕ) (many : ℕ) → Added w w₁ (11 * width * many) (λ rest. records (records_in many room) ++ rest)
      → Added w₁ w₂ 6 (λ rest. ascii "total " ++ rest) → Added w₂ w₃ 21 (λ rest. line (many ∷ []) ++ rest)
      → Added w w₃ (11 * width * many + 27) (λ rest. listing (records_in many room) ++ rest)
  unfolding listing
  listing_added room many p q r =
      added_retold (11 * width * many + 27) (λ rest. listing (records_in many room) ++ rest) (added_then p (added_then q r)) (omega arith)
      (λ rest. sym
      (append_assoc (records (records_in many room)) (ascii "total " ++ line (length (records_in many room) ∷ [])) rest
      ∙ ap (λ (k : ℕ). records (records_in many room) ++ (ascii "total " ++ (line (k ∷ []) ++ rest))) (length_records many room)))

module _ {w w₁ w₂ : Writer} where
  pub refused_added : (why : Refusal) {number place : ℕ} → number ≡ number_of why → place ≡ place_of why
      → Added w w₁ 8 (λ rest. ascii "refused " ++ rest) → Added w₁ w₂ 42 (λ rest. line (number ∷ place ∷ []) ++ rest)
      → Added w w₂ 50 (λ rest. refused why ++ rest)
  unfolding refused
  refused_added why e f p q = added_retold 50 (λ rest. refused why ++ rest) (added_then p q) (omega arith) (λ rest. rw (e, f))

  pub tally_added : (asked : Bool) (ns : List ℕ) → asked ≡ true → length ns ≡ codes → Added w w₁ 6 (λ rest. ascii "tally " ++ rest)
      → Added w₁ w₂ (21 * length ns) (λ rest. line ns ++ rest) → Added w w₂ (6 + 21 * codes) (λ rest. tally_line asked ns ++ rest)
  tally_added asked ns e l p q =
      added_retold (6 + 21 * codes) (λ rest. tally_line asked ns ++ rest) (added_then p q) (omega arith) (λ rest. rw e)

pub tally_none : (w : Writer) (asked : Bool) (ns : List ℕ) → asked ≡ false
    → Added w w (6 + 21 * codes) (λ rest. tally_line asked ns ++ rest)
tally_none w asked ns e = added_retold (6 + 21 * codes) (λ rest. tally_line asked ns ++ rest) (nothing_added w) (omega arith) (λ rest. rw e)
