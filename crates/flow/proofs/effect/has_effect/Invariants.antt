use Prim.Native.Nat.{◌-◌}
use mathlib.Core.Path.{◌≡◌}
use Rattle.tree.specs.Forest.{forest_of}
use Rattle.tree.specs.code.Part.{Part}
use Rattle.rules.specs.Flow.{effect}
use Rattle.flow.specs.Walks.{is_text}
use Rattle.flow.proofs.effect.has_effect.Given as goal

abbrev pub invariant-loop-j : goal.invariant-loop-j
invariant-loop-j l = Part l.t l.j l.e × (effect (is_text l.strings) (forest_of l.t l.i l.e) ≡ effect (is_text l.strings) (forest_of l.t l.j l.e))

abbrev pub decreases-loop-j : goal.decreases-loop-j
decreases-loop-j l = l.e - l.j
