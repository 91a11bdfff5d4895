-- The calls as C and Rust see them: numbers and slices alone. Assumes nothing.
use Rattle.std.specs.Prelude.{Ok, Err}
use Rattle.std.specs.Prelude.{ℕ, min, List, [], ◌∷◌, ◌++◌, length, take, drop}
use Rattle.tree.specs.declared.Mode.{Mode}
use Rattle.rules.specs.Codes.{disabled, short_name}
use Rattle.rules.specs.Outcome as outcome
use Rattle.rules.specs.Outcome.{Outcome}
use Rattle.rules.specs.declared.Answer.{Answer}
use Rattle.rules.specs.Calls.{lint_call}
use Rattle.codes.specs.Named.{severity_of}
use Rattle.codes.specs.declared.EvalSeverity.{EvalSeverity}
use Rattle.codes.specs.declared.EvalSeverity.TheVariants.{Disabled, Warning}
use Rattle.sarif.specs.Calls.{sarif_call}
use Rattle.sarif.specs.Calls.{Outcome as LogOutcome}
use Rattle.sarif.specs.declared.Answer.{Answer as LogAnswer}

-- The library's version: major * 10000 + minor * 100 + patch, here 3.1.0
abbrev pub library_version : ℕ
library_version = 30100

-- ---- words laid over a room

-- the first k words laid over those of a room
unfoldable pub over : ℕ → List ℕ → List ℕ → List ℕ
over k ws room = take k ws ++ drop k room

-- as many of the words as the room has; what stands past them stays
unfoldable pub laid : List ℕ → List ℕ → List ℕ
laid ws room = over (min (length ws) (length room)) ws room

-- ---- a code

abbrev pub numbered : EvalSeverity → ℕ
numbered Disabled = 0
numbered Warning = 1

-- of any number: 01 speaks of codes alone, and here what is none is a warning's
abbrev pub severity_number : ℕ → ℕ
severity_number code = numbered (severity_of (disabled code))

-- the length of its short name, 0 of what is no code, and the room with as many of its bytes as it has
pub record Named : Type 0 where
  pub number : ℕ
  pub name : List ℕ

abbrev pub short_named : ℕ → List ℕ → Named
short_named code room = record { number = length (short_name code); name = laid (short_name code) room }

-- ---- the list

-- 0 where the list is written, else the number of the refusal
abbrev pub number_of : Outcome → ℕ
number_of (Ok n) = 0
number_of (Err why) = outcome.number_of why

-- the records written, or the refusal's place, which for 11 is the records needed, for 12 the bytes
abbrev pub place_of : Outcome → ℕ
place_of (Ok n) = n
place_of (Err why) = outcome.place_of why

-- word 0, then for each code its count, so that the count of code c is word c
abbrev pub report_of : Answer → List ℕ
report_of a = place_of a.outcome ∷ a.tally

-- the result of a call, and every word that it was lent
pub record Called : Type 0 where
  pub number : ℕ
  pub work : List ℕ
  pub room : List ℕ
  pub report : List ℕ

abbrev pub called : Mode → List ℕ → List ℕ → List ℕ → List ℕ → Called
called mode t work room report = let done = lint_call mode t work room in record {
  number = number_of done.answer.outcome;
  work = done.work;
  room = done.room;
  report = laid (report_of done.answer) report;
}

-- ---- the list as a SARIF log

-- a log is answered as its list is
abbrev pub as_listed : LogOutcome → Outcome
as_listed (Ok n) = Ok n.records
as_listed (Err why) = Err why

-- the log's bytes; a refusal writes none
abbrev pub bytes_of : LogOutcome → ℕ
bytes_of (Ok n) = n.bytes
bytes_of (Err why) = 0

-- the list's report, and after the last count the log's bytes
abbrev pub log_report_of : LogAnswer → List ℕ
log_report_of a =
    report_of (record { outcome = as_listed a.outcome; tally = a.tally }) ++ (bytes_of a.outcome ∷ [])

pub record SarifCalled : Type 0 where
  pub number : ℕ
  pub work : List ℕ
  pub room : List ℕ
  pub output : List ℕ
  pub report : List ℕ

abbrev pub sarif_called : Mode → List ℕ → List ℕ → List ℕ → List ℕ → List ℕ → SarifCalled
sarif_called mode t work room output report = let done = sarif_call mode t work room output in record {
  number = number_of (as_listed done.answer.outcome);
  work = done.work;
  room = done.room;
  output = done.output;
  report = laid (log_report_of done.answer) report;
}
