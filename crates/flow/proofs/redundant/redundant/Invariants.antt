use Rattle.tree.specs.Forest.{forest_of}
use Rattle.tree.specs.code.Part.{Part}
use Rattle.rules.specs.Flow.{redundant_walk}
use Rattle.answer.proofs.Flat.{Going}
use Rattle.flow.proofs.redundant.redundant.Given as goal

abbrev pub invariant-loop-i : goal.invariant-loop-i
invariant-loop-i l = Part l.t l.i l.n × Going l.initial.sheet (redundant_walk (forest_of l.t 1 l.n)) l.sheet (redundant_walk (forest_of l.t l.i l.n))
