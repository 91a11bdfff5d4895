-- What a call leaves, as who reads the lent words and bytes afterwards finds it. Assumes nothing.
use Rattle.std.specs.Prelude.{Ok, Err}
use Rattle.std.specs.Prelude.{ℕ, ◌*◌, ◌≤◌, ◌≡◌, List, length, take, drop}
use Rattle.std.proofs.Math.Option.{Option, none, some}
use Rattle.rules.specs.Record.{Rec, width}
use Rattle.rules.specs.Joined.{no_tally, tally_of}
use Rattle.rules.specs.Outcome.{number_of, refusal, cleared, work_by}
use Rattle.rules.specs.Afterwards.{records_in}
use Rattle.sarif_log.specs.Log.{log}
use Rattle.rules.specs.declared.Refusal.{Refusal}
use Rattle.sarif.specs.Calls.{Done, checks}
use Rattle.sarif.specs.declared.Answer.{Answer}

-- an answer, with the work room, the answer room and the output room afterwards, as a call's promise has them
abbrev pub Gives : Done → Answer → List ℕ → List ℕ → List ℕ → Type 0
Gives d a work room output = record { answer = a; work = work; room = room; output = output } ≡ d

-- the refusal of a call with the list rs of the file t, if there is one
abbrev pub given : List Rec → List ℕ → List ℕ → List ℕ → List ℕ → Option Refusal
given rs t work room output = refusal (checks rs t work room output)

-- The log of the list rs of the file t: no refusal is given; the log stands first in the output room, whose bytes past it stay; the
-- list stands in the answer room, whose words past the last record stay; "the first 32,768 words of work room are zero".
pub record Logs (rs : List Rec) (t work room output : List ℕ) (a : Answer) (work' room' output' : List ℕ) : Type 0 where
  pub none_given : given rs t work room output ≡ none
  pub outcome : a.outcome ≡ Ok (record { records = length rs; bytes = length (log t rs) })
  pub counts : a.tally ≡ tally_of rs
  pub written : take (length (log t rs)) output' ≡ log t rs
  pub past : drop (length (log t rs)) output' ≡ drop (length (log t rs)) output
  pub as_long : length output' ≡ length output
  pub records : records_in (length rs) room' ≡ rs
  pub room_past : drop (width * length rs) room' ≡ drop (width * length rs) room
  pub room_as_long : length room' ≡ length room
  pub cleared_work : work' ≡ cleared work

-- One numbered refusal: "A refusal writes no answer; its tally is all zero", "output unchanged", and the work room is as 01 says.
pub record Refuses (rs : List Rec) (t : List ℕ) (why : Refusal) (work room output : List ℕ) (a : Answer) (work' room' output' : List ℕ) : Type 0 where
  pub is_given : given rs t work room output ≡ some why
  pub outcome : a.outcome ≡ Err why
  pub numbered : (1 ≤ number_of why) × (number_of why ≤ 12)
  pub no_counts : a.tally ≡ no_tally
  pub no_warning : room' ≡ room
  pub no_log : output' ≡ output
  pub work_room : work' ≡ work_by (some why) work

pub data LoggedOrRefused (rs : List Rec) (t work room output : List ℕ) (a : Answer) (work' room' output' : List ℕ) : Type 0 where
  logged : Logs rs t work room output a work' room' output' → LoggedOrRefused rs t work room output a work' room' output'
  refused : (why : Refusal) → Refuses rs t why work room output a work' room' output' → LoggedOrRefused rs t work room output a work' room' output'
