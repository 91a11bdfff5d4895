use borrow.Author.Rules.{rules}
use Rattle.tree.specs.code.Offsets.{u64_at}
use Rattle.tree.proofs.bytes.u64_at.Goals as goal

pub returns : goal.returns
unfolding u64_at
returns c = search rules
