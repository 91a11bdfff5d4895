use Rattle.tree.specs.Forest.{node_head}
use Rattle.incompatible.specs.Ledger.{is_several}
use Rattle.incompatible.proofs.Told.{telling_on, telling_end}
use Rattle.incompatible.proofs.Deeds.{going_part, below_step, named_past}
use Rattle.incompatible.proofs.assigns.Defined.below.Goals as goal

pub loop-j-preserved : goal.loop-j-preserved
loop-j-preserved c =
    rw c.below_next-j.ensures (
      (going_part (is_several (node_head c.args.t.now c.loop-j.j)) c.loop-j.invariant.0 c.loop-j-test.true).0,
      c.loop-j.invariant.1,
      telling_on c.loop-j.invariant.2 _ _ c.below_at.ensures (below_step c.loop-j.invariant.0 c.loop-j-test.true),
    )

pub returns : goal.returns
returns c = telling_end c.loop-j.invariant.2 (named_past 0 c.args.t.now c.loop-j.j c.args.e c.loop-j-test.false)
