-- 01, "Numbers handed back": what a public call answers, and how it leaves the words that it was lent. Assumes nothing.
use Rattle.std.specs.Prelude.{Result, Ok, Err}
use Rattle.std.specs.Prelude.{ℕ, ◌*◌, Bool, true, false, ◌&&◌, List, [], ◌∷◌, ◌++◌, ltb, length, drop, replicate}
use Rattle.std.proofs.Math.Option.{Option, none, some}
use Rattle.tree.specs.Judge as tree
use Rattle.tree.specs.Judge.{Judged}
use Rattle.rules.specs.Record.{Rec, width, all_words, or_else}
use Rattle.rules.specs.Joined.{no_tally, raise_all}
use Rattle.rules.specs.declared.Refusal.{Refusal}
use Rattle.rules.specs.declared.Refusal.TheVariants.{Tree, WorkRoom, AnswerRoom, OtherRoom}
use Rattle.rules.specs.declared.Answer.{Answer}

-- what a call comes to: so many records, or why it is refused
abbrev pub Outcome : Type 0
Outcome = Result ℕ Refusal

-- 01's number and place of each refusal; 11's place is "records needed", 12's what the other room needs (02, §1)
abbrev pub number_of : Refusal → ℕ
number_of (Tree why) = tree.number_of why
number_of WorkRoom = 10
number_of (AnswerRoom n) = 11
number_of (OtherRoom n) = 12

abbrev pub place_of : Refusal → ℕ
place_of (Tree why) = tree.place_of why
place_of WorkRoom = 0
place_of (AnswerRoom n) = n
place_of (OtherRoom n) = n

-- "work room under 32,768 u16"
abbrev pub work_words : ℕ
work_words = 32768

-- ---- the checks of a call

-- What a call checks: the file, by its judgement; the words of its work room, if names runs; its answer room, for so many records in so
-- many words; another room that it is lent, for so many of what is written there.
pub data Check : Type 0 where
  the_file : Judged → Check
  work_room : ℕ → Check
  answer_room : ℕ → ℕ → Check
  other_room : ℕ → ℕ → Check

abbrev pub refuse_if : Bool → Refusal → Option Refusal
refuse_if true why = some why
refuse_if false why = none

-- "Given exactly when"
abbrev pub gives : Check → Option Refusal
gives (the_file (Err why)) = some (Tree why)
gives (the_file (Ok f)) = none
gives (work_room lent) = refuse_if (ltb lent work_words) WorkRoom
gives (answer_room n lent) = refuse_if (ltb lent (width * n)) (AnswerRoom n)
gives (other_room n lent) = refuse_if (ltb lent n) (OtherRoom n)

-- "Checked in that order": the first check of a call that gives a refusal
unfoldable pub refusal : List Check → Option Refusal
refusal [] = none
refusal (c ∷ cs) = or_else (gives c) (refusal cs)

-- that order: 1 to 9, 10, 11, 12
abbrev pub turn : Check → ℕ
turn (the_file j) = 1
turn (work_room lent) = 2
turn (answer_room n lent) = 3
turn (other_room n lent) = 4

-- the checks stand in it
abbrev pub in_turn : List Check → Bool
in_turn [] = true
in_turn (c ∷ []) = true
in_turn (c ∷ (d ∷ cs)) = ltb (turn c) (turn d) && in_turn (d ∷ cs)

-- ---- what a call answers and leaves, by its refusal

-- "its tally is all zero" on a refusal; else how many records the list has, and the counts with each record's code raised
unfoldable pub answer_by : Option Refusal → List Rec → List ℕ → Answer
answer_by (some why) rs tally = record { outcome = Err why; tally = no_tally }
answer_by none rs tally = record { outcome = Ok (length rs); tally = raise_all rs tally }

-- "A refusal writes no answer"; "answer room past the last record" stays
unfoldable pub room_by : Option Refusal → List Rec → List ℕ → List ℕ
room_by (some why) rs room = room
room_by none rs room = all_words rs ++ drop (width * length rs) room

-- whether names ran before a refusal was given: before 12 as before 11
abbrev pub names_ran : Refusal → Bool
names_ran (Tree why) = false
names_ran WorkRoom = false
names_ran (AnswerRoom n) = true
names_ran (OtherRoom n) = true

-- "After 11 and success, if names ran, the first 32,768 words of work room are zero; work room otherwise .. stay"
abbrev pub cleared : List ℕ → List ℕ
cleared work = replicate work_words 0 ++ drop work_words work

abbrev pub cleared_if : Bool → List ℕ → List ℕ
cleared_if true work = cleared work
cleared_if false work = work

unfoldable pub work_by : Option Refusal → List ℕ → List ℕ
work_by none work = cleared work
work_by (some why) work = cleared_if (names_ran why) work
