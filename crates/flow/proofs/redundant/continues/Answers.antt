use Rattle.answer.proofs.Flat.{added_none, added_as}
use Rattle.flow.proofs.redundant.continues.Goals as goal

pub returns-else-loops : goal.returns-else-loops
returns-else-loops c = added_as _ (rw c.if-loops.false) (added_none _)
