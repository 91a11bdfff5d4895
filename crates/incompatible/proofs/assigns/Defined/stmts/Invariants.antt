use Prim.Native.Nat.{◌-◌}
use Rattle.tree.specs.code.Part.{Part}
use Rattle.tree.specs.Forest.{forest_of}
use Rattle.rules.specs.Incompatible.{deeds}
use Rattle.incompatible.specs.Ground.{Low}
use Rattle.incompatible.proofs.Told.{Telling}
use Rattle.incompatible.proofs.assigns.Defined.stmts.Given as goal

abbrev pub invariant-loop-i : goal.invariant-loop-i
invariant-loop-i l =
    Part l.t l.i l.n × Low l.t l.n
    × Telling l.t l.initial.self l.initial.sheet (deeds (forest_of l.t 0 l.n)) l.self l.sheet (deeds (forest_of l.t l.i l.n))

abbrev pub decreases-loop-i : goal.decreases-loop-i
decreases-loop-i l = l.n - l.i
