use mathlib.Core.Path.{sym}
use lib.Seq.{set_out}
use Rattle.scope.proofs.table.store.Goals as goal

pub returns-else-k-w : goal.returns-else-k-w
returns-else-k-w c = sym (set_out c.args.w.now c.args.k c.args.v c.if-k-w.false)
