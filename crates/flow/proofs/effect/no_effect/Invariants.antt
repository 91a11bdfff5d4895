use Prim.Native.Nat.{◌-◌}
use Rattle.tree.specs.Forest.{forest_of}
use Rattle.tree.specs.code.Part.{Part}
use Rattle.rules.specs.Flow.{effect_walk}
use Rattle.answer.proofs.Flat.{Going}
use Rattle.flow.specs.Walks.{is_text}
use Rattle.flow.proofs.effect.no_effect.Given as goal

abbrev pub invariant-loop-i : goal.invariant-loop-i
invariant-loop-i l = Part l.t l.i l.n × Going l.initial.sheet (effect_walk (is_text l.strings) (forest_of l.t 0 l.n)) l.sheet (effect_walk (is_text l.strings) (forest_of l.t l.i l.n))

abbrev pub decreases-loop-i : goal.decreases-loop-i
decreases-loop-i l = l.n - l.i
