-- For the code: what its private functions require and promise. Assumes nothing.
use Rattle.std.specs.Prelude.{ℕ, ◌*◌, ◌≤◌, ◌≡◌, List, [], ◌∷◌, length, take}
use Rattle.std.proofs.Math.Option.{Option}
use Rattle.rules.specs.Record.{Rec, width, all_words}
use Rattle.rules.specs.Joined.{tally_of}
use Rattle.rules.specs.Outcome.{answer_room, other_room, refusal, room_by}
use Rattle.rules.specs.Afterwards.{records_in}
use Rattle.rules.specs.declared.Refusal.{Refusal}
use Rattle.sarif_log.specs.Log.{log}
use Rattle.sarif_log.specs.Pieces.{Small}
use Rattle.sarif.specs.Calls.{answer_by, output_by}
use Rattle.sarif.specs.declared.Answer.{Answer}

-- n records with their counts, of the file t, in room of 10,240 records at most
pub record Listed (t list : List ℕ) (n : ℕ) (tally : List ℕ) : Type 0 where
  pub small : Small t
  pub counts : tally ≡ tally_of (records_in n list)
  pub enough : width * n ≤ length list
  pub stands : take (width * n) list ≡ all_words (records_in n list)
  pub most : n ≤ 10240

-- what is answered then, and what stands in the lent room afterwards: 11 and 12 are left to check
abbrev pub why_of : List Rec → List ℕ → List ℕ → List ℕ → Option Refusal
why_of rs t room output = refusal (answer_room (length rs) (length room) ∷ other_room (length (log t rs)) (length output) ∷ [])

pub record Tells (rs : List Rec) (t room output : List ℕ) (a : Answer) (room' output' : List ℕ) : Type 0 where
  pub answer : a ≡ answer_by (why_of rs t room output) rs (length (log t rs))
  pub room_after : room' ≡ room_by (why_of rs t room output) rs room
  pub output_after : output' ≡ output_by (why_of rs t room output) (log t rs) output
