-- 02, §1: what a call of sarif answers, and how it leaves the words and bytes that it was lent. Assumes nothing.
use Rattle.std.specs.Prelude.{Result, Ok, Err}
use Rattle.std.specs.Prelude.{ℕ, List, [], ◌∷◌, ◌++◌, length, drop}
use Rattle.std.proofs.Math.Option.{Option, none, some}
use Rattle.tree.specs.Judge.{judged}
use Rattle.tree.specs.declared.Mode.{Mode}
use Rattle.rules.specs.Record.{Rec}
use Rattle.rules.specs.Joined.{lint_list, no_tally, tally_of}
use Rattle.rules.specs.Outcome.{Check, the_file, work_room, answer_room, other_room, refusal, room_by, work_by}
use Rattle.rules.specs.declared.Refusal.{Refusal}
use Rattle.sarif_log.specs.Log.{log}
use Rattle.sarif.specs.declared.Answer.{Answer}
use Rattle.sarif.specs.declared.Sizes.{Sizes}

-- what a call comes to: what was written, or why it is refused
abbrev pub Outcome : Type 0
Outcome = Result Sizes Refusal

-- "12 output room short, after 11, place is the bytes needed": the checks of a call that gives the list rs of the file t
abbrev pub checks : List Rec → List ℕ → List ℕ → List ℕ → List ℕ → List Check
checks rs t work room output =
    the_file (judged t)
    ∷ work_room (length work)
    ∷ answer_room (length rs) (length room)
    ∷ other_room (length (log t rs)) (length output)
    ∷ []

-- a refusal's tally is all zero
unfoldable pub answer_by : Option Refusal → List Rec → ℕ → Answer
answer_by (some why) rs n = record { outcome = Err why; tally = no_tally }
answer_by none rs n = record { outcome = Ok (record { records = length rs; bytes = n }); tally = tally_of rs }

-- "output unchanged" by a refusal; the bytes past the log stay
unfoldable pub output_by : Option Refusal → List ℕ → List ℕ → List ℕ
output_by (some why) s output = output
output_by none s output = s ++ drop (length s) output

-- the answer, and what stands in the lent words and bytes afterwards
pub record Done : Type 0 where
  pub answer : Answer
  pub work : List ℕ
  pub room : List ℕ
  pub output : List ℕ

-- a call that gives this list of the file t: the records stand in the answer room only where the log is written
unfoldable pub sarif_of : List Rec → List ℕ → List ℕ → List ℕ → List ℕ → Done
sarif_of rs t work room output =
    let why = refusal (checks rs t work room output) in
    record {
      answer = answer_by why rs (length (log t rs));
      work = work_by why work;
      room = room_by why rs room;
      output = output_by why (log t rs) output;
    }

abbrev pub sarif_call : Mode → List ℕ → List ℕ → List ℕ → List ℕ → Done
sarif_call mode t work room output = sarif_of (lint_list mode t) t work room output
