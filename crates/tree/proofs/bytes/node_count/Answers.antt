use borrow.Author.Rules.{rules}
use Rattle.tree.specs.Bytes.{node_count}
use Rattle.tree.proofs.bytes.node_count.Goals as goal

pub returns : goal.returns
unfolding node_count
returns c = search rules
