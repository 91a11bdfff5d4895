-- What a call on a valid file answers and leaves, when rs are its records. Assumes nothing.
use Rattle.std.specs.Prelude.{Ok}
use Rattle.std.specs.Prelude.{ℕ, ◌≡◌, List}
use Rattle.tree.specs.Judge.{judged}
use Rattle.tree.specs.declared.Facts.{Facts}
use Rattle.rules.specs.Record.{Rec}
use Rattle.rules.specs.Calls.{Done, done}
use Rattle.rules.specs.declared.Answer.{Answer}

-- r is the answer and after the answer room, which was room before, for any file that is judged valid; tally: the counts so far
pub record Answers (rs : List Rec) (room tally : List ℕ) (r : Answer) (after : List ℕ) : Type 0 where
  pub answers : (t : List ℕ) (f : Facts) → judged t ≡ Ok f → ◌≡◌ {A = Done} (record { answer = r; room = after }) (done rs t room tally)
