use Rattle.tree.specs.Forest.{forest_of}
use Rattle.tree.specs.code.Part.{Part}
use Rattle.rules.specs.Visit.{each}
use Rattle.rules.specs.Incompatible.{check_at}
use Rattle.answer.proofs.Flat.{Going}
use Rattle.incompatible.specs.Five.{is, five}
use Rattle.incompatible.proofs.types.Types.bad_type_equality.Given as goal

abbrev pub invariant-loop-i : goal.invariant-loop-i
invariant-loop-i l =
    Part l.t l.i l.n
    × Going l.initial.sheet (each (check_at (is l.self.call) (five l.self)) (forest_of l.t 0 l.n)) l.sheet (each (check_at (is l.self.call) (five l.self)) (forest_of l.t l.i l.n))
