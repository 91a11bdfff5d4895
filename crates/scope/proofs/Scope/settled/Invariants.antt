use Prim.Native.Nat.{◌-◌}
use mathlib.Core.Path.{◌≡◌}
use Rattle.scope.specs.Words.{resets_in, with_entries}
use Rattle.scope.proofs.Scope.settled.Given as goal

abbrev pub invariant-loop-j : goal.invariant-loop-j
invariant-loop-j l = (l.self ≡ with_entries l.self.entries l.initial.self) × (resets_in l.t l.w l.i l.initial.self.entries l.initial.self.first (l.initial.self.settings - l.initial.self.first) ≡ resets_in l.t l.w l.i l.self.entries l.j (l.initial.self.settings - l.j))
