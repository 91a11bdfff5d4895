use Prim.Native.Nat.{◌*◌, ◌-◌}
use Rattle.std.proofs.Common.{◌⊎◌, inl, inr}
use mathlib.Core.Bool.{true}
use mathlib.Core.Path.{◌≡◌}
use Rattle.json_text.specs.Text.{lines}
use Rattle.sarif_log.specs.Log.{rules}
use Rattle.sarif_log.proofs.Turns.{Turning, rules_left}
use Rattle.sarif_log.proofs.rules.Given as goal

abbrev pub invariant-loop-code : goal.invariant-loop-code
invariant-loop-code l =
    Turning l.initial.w.out.now l.initial.w.count l.w.out.now l.w.count (260 * (l.code - 1)) (lines true (rules 1 l.tally)) (rules_left l.tally l.code)
    × (l.w.out.ghost_name ≡ l.initial.w.out.ghost_name)
