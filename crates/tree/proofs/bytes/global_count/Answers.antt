use borrow.Author.Rules.{rules}
use Rattle.tree.specs.Bytes.{global_count}
use Rattle.tree.proofs.bytes.global_count.Goals as goal

pub returns : goal.returns
unfolding global_count
returns c = search rules
