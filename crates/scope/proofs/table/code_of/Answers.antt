use Rattle.scope.proofs.Alike.{code_load, code_argument, code_assign}
use Rattle.scope.proofs.table.code_of.Goals as goal

pub returns-then-k : goal.returns-then-k
returns-then-k c = code_load c.args.k c.if-k.true

pub returns-then-k-2 : goal.returns-then-k-2
returns-then-k-2 c = code_argument c.args.k c.if-k-2.true

pub returns-else-k-2 : goal.returns-else-k-2
returns-else-k-2 c = code_assign c.args.k c.if-k.false c.if-k-2.false
