use Prim.Native.Nat.{◌-◌, ◌≤◌}
use mathlib.Core.Path.{◌≡◌}
use Rattle.scope.specs.Words.{passes_in}
use Rattle.scope.proofs.Scope.passed.Given as goal

abbrev pub invariant-loop-k : goal.invariant-loop-k
invariant-loop-k l = (l.z ≤ l.end) × (l.end ≤ l.k) × (passes_in l.t l.fn.self.first l.fn.self.settings l.z l.initial.w l.fn.self.loose l.fn.self.loose (l.fn.self.looses - l.fn.self.loose) ≡ passes_in l.t l.fn.self.first l.fn.self.settings l.z l.w l.end l.k (l.fn.self.looses - l.k))
