use Rattle.tree.specs.Forest.{forest_of}
use Rattle.tree.specs.code.Part.{Part}
use Rattle.rules.specs.Visit.{each}
use Rattle.rules.specs.Dubious.{idle_at}
use Rattle.answer.proofs.Flat.{Going}
use Rattle.dubious.proofs.Walk.identifier_as_statement.Given as goal

abbrev pub invariant-loop-i : goal.invariant-loop-i
invariant-loop-i l =
    Part l.self.t.now l.i l.self.nodes
    × Going l.initial.sheet (each idle_at (forest_of l.self.t.now 0 l.self.nodes)) l.sheet (each idle_at (forest_of l.self.t.now l.i l.self.nodes))
