-- After a call that runs names: where it answers with a list, its file is as log and piece require. Assumes nothing.
use Rattle.std.specs.Prelude.{Ok}
use Prim.Native.Nat.{ℕ}
use mathlib.Core.Path.{◌≡◌}
use mathlib.Core.List.{List}
use Rattle.rules.specs.Record.{Rec}
use Rattle.rules.specs.Calls.{done_with_work}
use Rattle.rules.specs.Afterwards.{Gives}
use Rattle.rules.specs.declared.Answer.{Answer}
use Rattle.rules.proofs.Called.{valid_where_listed}
use Rattle.sarif_log.specs.Pieces.{Small}
use Rattle.sarif_log.proofs.Valued.{file_small}

pub listed_small : (rs : List Rec) (t work room tally : List ℕ) (a : Answer) (room' work' : List ℕ)
    → Gives (done_with_work rs t work room tally) a room' work' → (n : ℕ) → a.outcome ≡ Ok n → Small t
listed_small rs t work room tally a room' work' so n i =
    let v = valid_where_listed rs t work room tally a room' work' so n i in file_small t v.0 v.1
