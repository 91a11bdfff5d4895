use borrow.Author.Rules.{rules}
use Rattle.tree.specs.Bytes.{value_count}
use Rattle.tree.proofs.bytes.value_count.Goals as goal

pub returns : goal.returns
unfolding value_count
returns c = search rules
