-- What the functions below the joined call require and promise. Assumes nothing.
use Rattle.std.specs.Prelude.{Ok, Err}
use Rattle.std.specs.Prelude.{ℕ, ◌+◌, ◌*◌, ◌≤◌, ◌≡◌, List, ◌++◌, length}
use Rattle.tree.specs.Judge.{judged}
use Rattle.tree.specs.declared.Facts.{Facts}
use Rattle.tree.specs.declared.Mode.{Mode}
use Rattle.rules.specs.Record.{Rec, width}
use Rattle.rules.specs.Flow.{flow_list}
use Rattle.rules.specs.Incompatible.{incompatible_list}
use Rattle.rules.specs.Dubious.{dubious_list}
use Rattle.rules.specs.declared.Refusal.{Refusal}
use Rattle.rules.specs.declared.Refusal.TheVariants.{Tree, WorkRoom, AnswerRoom, OtherRoom}
use Rattle.rules.specs.Outcome.{Outcome}

-- how many records an outcome is about, written or not
abbrev pub about : Outcome → ℕ
about (Ok n) = n
about (Err (Tree why)) = 0
about (Err WorkRoom) = 0
about (Err (AnswerRoom n)) = n
about (Err (OtherRoom n)) = 0

-- the refusal where a pass has come to o and the answer room is short, with the records of the passes after it counted in
abbrev pub refusal_with : Outcome → ℕ → Refusal
refusal_with (Ok n) rest = AnswerRoom (n + rest)
refusal_with (Err (Tree why)) rest = Tree why
refusal_with (Err WorkRoom) rest = WorkRoom
refusal_with (Err (AnswerRoom n)) rest = AnswerRoom (n + rest)
refusal_with (Err (OtherRoom n)) rest = OtherRoom n

-- the records of the passes after names, and of those after flow
abbrev pub after_flow : Mode → List ℕ → List Rec
after_flow mode t = incompatible_list t ++ dubious_list mode t

abbrev pub after_names : Mode → List ℕ → List Rec
after_names mode t = flow_list t ++ after_flow mode t

-- a file without refusal 1 to 9, f its facts
pub record JudgedValid (t : List ℕ) (f : Facts) : Type 0 where
  pub valid : judged t ≡ Ok f

-- ... and without refusal 11 for this list in this room
pub record Fits (t : List ℕ) (f : Facts) (rs : List Rec) (room : List ℕ) : Type 0 where
  pub sound : JudgedValid t f
  pub enough : width * length rs ≤ length room
