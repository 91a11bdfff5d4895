use Prim.Native.Nat.{◌-◌}
use mathlib.Core.Bool.{true}
use Rattle.tree.specs.Forest.{forest_of}
use Rattle.tree.specs.code.Part.{Part}
use Rattle.rules.specs.Flow.{loads}
use Rattle.answer.proofs.Flat.{Going}
use Rattle.flow.specs.Walks.{is_text}
use Rattle.flow.proofs.loads.misplaced_load.Given as goal

abbrev pub invariant-loop-j : goal.invariant-loop-j
invariant-loop-j l = Part l.t l.j l.n × Going l.initial.sheet (loads (is_text l.strings) true (forest_of l.t 0 l.n)).recs l.sheet (loads (is_text l.strings) l.allowed (forest_of l.t l.j l.n)).recs

abbrev pub decreases-loop-j : goal.decreases-loop-j
decreases-loop-j l = l.n - l.j
