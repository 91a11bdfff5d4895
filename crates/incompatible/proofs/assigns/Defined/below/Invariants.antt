use Prim.Native.Nat.{◌-◌}
use Rattle.tree.specs.code.Part.{Part}
use Rattle.tree.specs.Forest.{forest_of}
use Rattle.rules.specs.Incompatible.{defined_names}
use Rattle.incompatible.specs.Ground.{Low}
use Rattle.incompatible.proofs.Told.{Telling}
use Rattle.incompatible.proofs.assigns.Defined.below.Given as goal

abbrev pub invariant-loop-j : goal.invariant-loop-j
invariant-loop-j l =
    Part l.t l.j l.e × Low l.t l.e
    × Telling l.t l.initial.self l.initial.sheet (defined_names 0 (forest_of l.t l.i l.e)) l.self l.sheet (defined_names 0 (forest_of l.t l.j l.e))

abbrev pub decreases-loop-j : goal.decreases-loop-j
decreases-loop-j l = l.e - l.j
