use native.Mathlib.Omega.{arith}
use Rattle.answer.proofs.Flat.{added_none, added_as, added_both}
use Rattle.names.proofs.Telling.{records_none, records_next}
use Rattle.names.proofs.records.Goals as goal

pub loop-k-init : goal.loop-k-init
loop-k-init c = added_as _ (records_none _ _) (added_none _)

pub loop-k-preserved : goal.loop-k-preserved
loop-k-preserved c = added_as _ (records_next _ _ _) (added_both c.loop-k.invariant c.told.ensures)
