use Prim.Native.Nat.{◌-◌, ◌≤◌}
use mathlib.Core.Path.{◌≡◌}
use Rattle.scope.specs.Words.{uses_lines}
use Rattle.scope.proofs.Scope.warn_uses.Given as goal

abbrev pub invariant-loop-k : goal.invariant-loop-k
invariant-loop-k l = (l.count ≤ 1024) × (uses_lines l.late l.t l.fn.self.first l.fn.self.settings l.initial.w l.initial.count l.fn.at.from (l.fn.at.to - l.fn.at.from) ≡ uses_lines l.late l.t l.fn.self.first l.fn.self.settings l.w l.count l.k (l.fn.at.to - l.k))
