use Prim.Native.Nat.{◌*◌}
use Rattle.std.proofs.Common.{◌⊎◌, inl, inr}
use mathlib.Core.Bool.{true}
use mathlib.Core.Path.{◌≡◌}
use Rattle.rules.specs.Afterwards.{records_in}
use Rattle.json_text.specs.Text.{lines}
use Rattle.sarif_log.specs.Log.{results}
use Rattle.sarif_log.proofs.Turns.{Turning, results_left}
use Rattle.sarif_log.proofs.Subject.results.Given as goal

abbrev pub invariant-loop-k : goal.invariant-loop-k
invariant-loop-k l =
    Turning l.initial.w.out.now l.initial.w.count l.w.out.now l.w.count (2402 * l.k) (lines true (results l.self.t.now l.self.tally.now (records_in l.count l.list))) (results_left l.self.t.now l.self.tally.now l.list l.count l.k)
    × (l.w.out.ghost_name ≡ l.initial.w.out.ghost_name)
