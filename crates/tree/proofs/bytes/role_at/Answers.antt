use mathlib.Core.Path.{◌∙◌}
use Rattle.tree.specs.Bytes.{node_at, role_at}
use Rattle.tree.proofs.Past.{byte_there}
use Rattle.tree.proofs.bytes.role_at.Goals as goal

pub returns : goal.returns
unfolding role_at
returns c = (c.byte_at.ensures.0 ∙ byte_there c.args.t.now (node_at c.args.i) c.start_of.result 1 c.start_of.ensures.0, c.byte_at.ensures.1)
