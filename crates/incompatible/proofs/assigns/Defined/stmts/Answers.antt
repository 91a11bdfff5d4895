use Rattle.tree.specs.Bytes.{kind_at}
use Rattle.incompatible.specs.Ledger.{goes_in, top_of}
use Rattle.incompatible.proofs.Told.{telling_on, telling_end}
use Rattle.incompatible.proofs.Deeds.{going_part, deeds_step, deeds_past}
use Rattle.incompatible.proofs.assigns.Defined.stmts.Goals as goal

pub loop-i-preserved : goal.loop-i-preserved
loop-i-preserved c =
    rw c.next-i.ensures (
      (going_part (goes_in (top_of (kind_at c.args.t.now c.loop-i.i))) c.loop-i.invariant.0 c.loop-i-test.true).0,
      c.loop-i.invariant.1,
      telling_on c.loop-i.invariant.2 _ _ c.stmt.ensures (deeds_step c.loop-i.invariant.0 c.loop-i-test.true),
    )

pub returns : goal.returns
returns c = telling_end c.loop-i.invariant.2 (deeds_past c.args.t.now c.loop-i.i c.args.n c.loop-i-test.false)
