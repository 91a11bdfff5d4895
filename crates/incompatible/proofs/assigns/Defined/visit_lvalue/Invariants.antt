use Rattle.tree.specs.Forest.{forest_of}
use Rattle.tree.proofs.Walked.{Walked}
use Rattle.rules.specs.Incompatible.{defined_names}
use Rattle.incompatible.specs.Ground.{Low}
use Rattle.incompatible.proofs.Told.{Telling}
use Rattle.incompatible.proofs.assigns.Defined.visit_lvalue.Given as goal

abbrev pub invariant-loop-j : goal.invariant-loop-j
invariant-loop-j l =
    Walked l.t l.e l.j-iterator (λ j. Low l.t l.e
    × Telling l.t l.initial.self l.initial.sheet (defined_names l.role (forest_of l.t l.i l.e)) l.self l.sheet (defined_names l.role (forest_of l.t j l.e)))
