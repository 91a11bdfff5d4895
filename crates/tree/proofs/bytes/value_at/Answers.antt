use mathlib.Core.Path.{◌∙◌}
use Rattle.tree.specs.Bytes.{node_at, value_at}
use Rattle.tree.proofs.Past.{u16_there}
use Rattle.tree.proofs.bytes.value_at.Goals as goal

pub returns : goal.returns
unfolding value_at
returns c = (c.u16_at.ensures.0 ∙ u16_there c.args.t.now (node_at c.args.i) c.start_of.result 12 c.start_of.ensures.0, c.u16_at.ensures.1)
