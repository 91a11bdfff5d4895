use mathlib.Core.Path.{◌∙◌}
use Rattle.tree.specs.Bytes.{node_at, begin_at}
use Rattle.tree.proofs.Past.{u32_there}
use Rattle.tree.proofs.bytes.begin_at.Goals as goal

pub returns : goal.returns
unfolding begin_at
returns c = (c.u32_at.ensures.0 ∙ u32_there c.args.t.now (node_at c.args.i) c.start_of.result 4 c.start_of.ensures.0, c.u32_at.ensures.1)
