use mathlib.Core.Path.{◌∙◌}
use Rattle.tree.specs.Bytes.{node_at, last_at}
use Rattle.tree.proofs.Past.{u16_there}
use Rattle.tree.proofs.bytes.last_at.Goals as goal

pub returns : goal.returns
unfolding last_at
returns c = (c.u16_at.ensures.0 ∙ u16_there c.args.t.now (node_at c.args.i) c.start_of.result 14 c.start_of.ensures.0, c.u16_at.ensures.1)
