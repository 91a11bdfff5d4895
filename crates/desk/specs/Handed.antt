-- What is handed to a write call: a list's text, a refusal's, a piece of a log. Assumes nothing.
use Rattle.std.specs.Prelude.{ℕ, ◌+◌, ◌*◌, ◌≤◌, ◌≡◌, List, ◌++◌, length}
use Rattle.base.specs.Ascii.{ascii}
use Rattle.tree.specs.declared.Mode.{Mode}
use Rattle.rules.specs.Record.{width}
use Rattle.rules.specs.Joined.{lint_list, tally_of}
use Rattle.rules.specs.Afterwards.{records_in}
use Rattle.rules.specs.declared.Refusal.{Refusal}
use Rattle.text.specs.Text.{text_of, refused}
use Rattle.sarif_log.specs.Pieces.{Small, piece_of, piece_most}
use Rattle.desk.specs.Choices.{mode_of, tally_asked}

-- the last line of an answer
abbrev pub last_line : List ℕ
last_line = ascii "--\n"

-- the answer to a request for the list of t, lent rooms as long as these
abbrev pub list_answer : ℕ → List ℕ → List ℕ → List ℕ → List ℕ
list_answer choices t work room = text_of (tally_asked choices) (mode_of choices) t work room ++ last_line

abbrev pub refusal_answer : Refusal → List ℕ
refusal_answer why = refused why ++ last_line

-- piece k of the log of t: of the rules' list
abbrev pub log_piece : ℕ → List ℕ → ℕ → List ℕ
log_piece choices t k = let rs = lint_list (mode_of choices) t in piece_of t (tally_of rs) rs k

-- the n records first in a room are the rules' list of t, and these are its counts
pub record Lists (mode : Mode) (t list : List ℕ) (n : ℕ) (tally : List ℕ) : Type 0 where
  pub small : Small t
  pub enough : width * n ≤ length list
  pub whole : records_in n list ≡ lint_list mode t
  pub counts : tally ≡ tally_of (lint_list mode t)

-- a page has room for every text of a call with this answer room, and for every piece of a log
abbrev pub Holds : List ℕ → List ℕ → Type 0
Holds page answer = (11 * length answer + piece_most ≤ length page) × (length page ≤ 18446744073709551614)
