use Prim.Native.Nat.{◌≤◌}
use mathlib.Core.Path.{◌≡◌}
use Rattle.scope.specs.Words.{outward_in}
use Rattle.scope.proofs.Scope.away.Given as goal

abbrev pub invariant-loop-b : goal.invariant-loop-b
invariant-loop-b l = (l.w ≡ l.initial.w) × (l.b ≤ 1024) × (outward_in l.t l.initial.w l.self.entries l.i l.initial.b l.initial.b ≡ outward_in l.t l.initial.w l.self.entries l.i l.b l.b)

abbrev pub decreases-loop-b : goal.decreases-loop-b
decreases-loop-b l = l.b
