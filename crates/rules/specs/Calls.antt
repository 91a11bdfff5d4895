-- "Every public function promises its result, records and every lent word for each input": which checks each call makes and which
-- list it gives, and so what it answers and leaves, by the bytes t and the words that it is lent alone. Assumes nothing.
use Rattle.std.specs.Prelude.{ℕ, List, [], ◌∷◌, length}
use Rattle.tree.specs.Judge.{judged}
use Rattle.tree.specs.declared.Mode.{Mode}
use Rattle.rules.specs.Record.{Rec}
use Rattle.rules.specs.Names.{names_list}
use Rattle.rules.specs.Flow.{flow_list}
use Rattle.rules.specs.Incompatible.{incompatible_list}
use Rattle.rules.specs.Dubious.{dubious_list}
use Rattle.rules.specs.Joined.{lint_list, no_tally}
use Rattle.rules.specs.Outcome.{Check, the_file, work_room, answer_room, refusal, answer_by, room_by, work_by}
use Rattle.rules.specs.declared.Answer.{Answer}

-- the answer, and what stands in the answer room afterwards
pub record Done : Type 0 where
  pub answer : Answer
  pub room : List ℕ

-- the checks of a call that gives the list rs of the file t
abbrev pub checks : List Rec → List ℕ → List ℕ → List Check
checks rs t room = the_file (judged t) ∷ answer_room (length rs) (length room) ∷ []

-- such a call; tally: the counts so far
unfoldable pub done : List Rec → List ℕ → List ℕ → List ℕ → Done
done rs t room tally =
    let why = refusal (checks rs t room) in record { answer = answer_by why rs tally; room = room_by why rs room }

-- a call that runs names: the same, with its work room
pub record DoneWithWork : Type 0 where
  pub answer : Answer
  pub room : List ℕ
  pub work : List ℕ

abbrev pub checks_with_work : List Rec → List ℕ → List ℕ → List ℕ → List Check
checks_with_work rs t work room = the_file (judged t) ∷ work_room (length work) ∷ answer_room (length rs) (length room) ∷ []

unfoldable pub done_with_work : List Rec → List ℕ → List ℕ → List ℕ → List ℕ → DoneWithWork
done_with_work rs t work room tally =
    let why = refusal (checks_with_work rs t work room) in
    record { answer = answer_by why rs tally; room = room_by why rs room; work = work_by why work }

abbrev pub names_call : List ℕ → List ℕ → List ℕ → List ℕ → DoneWithWork
names_call t work room tally = done_with_work (names_list t) t work room tally

abbrev pub flow_call : List ℕ → List ℕ → List ℕ → Done
flow_call t room tally = done (flow_list t) t room tally

abbrev pub incompatible_call : List ℕ → List ℕ → List ℕ → Done
incompatible_call t room tally = done (incompatible_list t) t room tally

abbrev pub dubious_call : Mode → List ℕ → List ℕ → List ℕ → Done
dubious_call mode t room tally = done (dubious_list mode t) t room tally

-- "The joined call gives names, flow, incompatible, dubious": its counts start at zero
abbrev pub lint_call : Mode → List ℕ → List ℕ → List ℕ → DoneWithWork
lint_call mode t work room = done_with_work (lint_list mode t) t work room no_tally
