use Prim.Native.Nat.{◌-◌}
use Rattle.tree.specs.Forest.{forest_of, node_head, node_spot}
use Rattle.rules.specs.Flow.{everything, returns as returns_in, bare_recs}
use Rattle.answer.proofs.Flat.{Going}
use Rattle.flow.specs.Returns.{Tidy}
use Rattle.flow.proofs.returns.bare_returns.Given as goal

abbrev pub invariant-loop-j : goal.invariant-loop-j
invariant-loop-j l = Tidy l.t l.j l.e × Going l.initial.sheet (bare_recs (node_head l.t l.d.at) (node_spot l.t l.d.name) (node_head l.t l.d.why) (returns_in everything (forest_of l.t l.b l.e))) l.sheet (bare_recs (node_head l.t l.d.at) (node_spot l.t l.d.name) (node_head l.t l.d.why) (returns_in everything (forest_of l.t l.j l.e)))

abbrev pub decreases-loop-j : goal.decreases-loop-j
decreases-loop-j l = l.e - l.j
