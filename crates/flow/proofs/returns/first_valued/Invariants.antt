use Prim.Native.Nat.{◌-◌}
use mathlib.Core.Path.{◌≡◌}
use Rattle.tree.specs.Forest.{forest_of}
use Rattle.rules.specs.Flow.{everything, returns as returns_in, first_valued}
use Rattle.flow.specs.Returns.{Tidy}
use Rattle.flow.proofs.returns.first_valued.Given as goal

abbrev pub invariant-loop-j : goal.invariant-loop-j
invariant-loop-j l = Tidy l.t l.j l.e × (first_valued (returns_in everything (forest_of l.t l.j l.e)) ≡ first_valued (returns_in everything (forest_of l.t l.i l.e)))

abbrev pub decreases-loop-j : goal.decreases-loop-j
decreases-loop-j l = l.e - l.j
