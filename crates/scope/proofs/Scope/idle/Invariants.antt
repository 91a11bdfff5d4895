use Prim.Native.Nat.{◌-◌, ◌≤◌}
use mathlib.Core.Path.{◌≡◌}
use Rattle.scope.specs.Words.{idles_in}
use Rattle.scope.proofs.Scope.idle.Given as goal

abbrev pub invariant-loop-j : goal.invariant-loop-j
invariant-loop-j l = (l.count ≤ 1024) × (idles_in l.t l.top l.self l.initial.w l.initial.count l.self.first (l.self.settings - l.self.first) ≡ idles_in l.t l.top l.self l.w l.count l.j (l.self.settings - l.j))
