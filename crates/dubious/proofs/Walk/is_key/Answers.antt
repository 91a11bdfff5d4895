use Rattle.answer.proofs.Bits.{eqb_swap}
use Rattle.tree.specs.Forest.{node_head}
use Rattle.std.proofs.Common.{arith}
use Rattle.dubious.proofs.Walk.is_key.Goals as goal

pub returns-then-role_at : goal.returns-then-role_at
unfolding node_head
returns-then-role_at c = grind (arith, eqb_swap)

pub returns-else-role_at : goal.returns-else-role_at
unfolding node_head
returns-else-role_at c = grind (arith, eqb_swap)
