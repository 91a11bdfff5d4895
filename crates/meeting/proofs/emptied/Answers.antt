-- `emptied` meets its contract. Assumes nothing.
use Rattle.meeting.proofs.Steps.{empty_next}
use mathlib.Core.Path.{refl}
use Rattle.meeting.specs.Words.{emptied}
use Rattle.meeting.proofs.emptied.Goals as goal

pub loop-k-init : goal.loop-k-init
unfolding emptied
loop-k-init c = refl

pub loop-k-preserved : goal.loop-k-preserved
loop-k-preserved c = empty_next c.args.w.now c.loop-k.w c.loop-k.k c.loop-k.auto.k c.loop-k.invariant c.store.ensures
