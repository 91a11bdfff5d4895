use Rattle.tree.specs.Forest.{forest_of}
use Rattle.tree.specs.code.Part.{Part}
use Rattle.tree.specs.code.Numbers.{like_by}
use Rattle.rules.specs.Visit.{each}
use Rattle.rules.specs.Dubious.{dict_at}
use Rattle.answer.proofs.Flat.{Going}
use Rattle.dubious.proofs.Walk.duplicate_dictionary_key.Given as goal

abbrev pub invariant-loop-i : goal.invariant-loop-i
invariant-loop-i l =
    Part l.self.t.now l.i l.self.nodes
    × Going l.initial.sheet (each (dict_at (like_by l.self.numbers.now)) (forest_of l.self.t.now 0 l.self.nodes)) l.sheet (each (dict_at (like_by l.self.numbers.now)) (forest_of l.self.t.now l.i l.self.nodes))
