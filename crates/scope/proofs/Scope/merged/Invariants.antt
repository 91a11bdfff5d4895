use Prim.Native.Nat.{◌-◌}
use mathlib.Core.Path.{◌≡◌}
use Rattle.scope.specs.Words.{merges_in, with_entries}
use Rattle.scope.proofs.Scope.merged.Given as goal

abbrev pub invariant-loop-j : goal.invariant-loop-j
invariant-loop-j l = (l.self ≡ with_entries l.self.entries l.initial.self) × (merges_in l.a l.b l.one.entries l.initial.self.entries l.initial.self.first (l.initial.self.settings - l.initial.self.first) ≡ merges_in l.a l.b l.one.entries l.self.entries l.j (l.initial.self.settings - l.j))
