-- The checks of a call: they stand in 01's order, and what they give at their borders, computed. Assumes nothing.
use Rattle.std.specs.Prelude.{Ok, Err}
use Prim.Native.Nat.{ℕ}
use mathlib.Core.Path.{◌≡◌, refl}
use mathlib.Core.List.{List, [], ◌∷◌}
use mathlib.Core.Option.{none, some}
use lib.Dec.{T}
use Rattle.tree.specs.declared.Facts.{Facts}
use Rattle.tree.specs.declared.Refusal.TheVariants.{Mark}
use Rattle.rules.specs.Record.{Rec}
use Rattle.rules.specs.Outcome.{the_file, work_room, answer_room, other_room, in_turn, refusal}
use Rattle.rules.specs.Calls.{checks, checks_with_work}
use Rattle.rules.specs.declared.Refusal.TheVariants.{Tree, WorkRoom, AnswerRoom, OtherRoom}

-- "Checked in that order"
pub checked_in_turn : (rs : List Rec) (t work room : List ℕ) → T (in_turn (checks rs t room)) × T (in_turn (checks_with_work rs t work room))
checked_in_turn rs t work room = (tt, tt)

-- 1 before all others
pub mark_first : refusal (the_file (Err Mark) ∷ work_room 0 ∷ answer_room 1 0 ∷ other_room 1 0 ∷ []) ≡ some (Tree Mark)
unfolding refusal
mark_first = refl

module _ (f : Facts) where
  -- 10 before 11: "work room under 32,768 u16"
  pub work_one_short : refusal (the_file (Ok f) ∷ work_room 32767 ∷ answer_room 1 0 ∷ []) ≡ some WorkRoom
  unfolding refusal
  work_one_short = refl

  -- 11 before 12: "Answer room is counted in ten words", place "records needed"
  pub answer_one_short : refusal (the_file (Ok f) ∷ work_room 32768 ∷ answer_room 2 19 ∷ other_room 1 0 ∷ []) ≡ some (AnswerRoom 2)
  unfolding refusal
  answer_one_short = refl

  -- 12 last
  pub other_one_short : refusal (the_file (Ok f) ∷ work_room 32768 ∷ answer_room 2 20 ∷ other_room 5 4 ∷ []) ≡ some (OtherRoom 5)
  unfolding refusal
  other_one_short = refl

  -- each room at its number; no records need no room
  pub at_the_borders : refusal (the_file (Ok f) ∷ work_room 32768 ∷ answer_room 2 20 ∷ other_room 5 5 ∷ []) ≡ none
  unfolding refusal
  at_the_borders = refl

  pub none_needs_none : refusal (the_file (Ok f) ∷ answer_room 0 0 ∷ []) ≡ none
  unfolding refusal
  none_needs_none = refl
