use borrow.Author.Rules.{rules}
use Rattle.tree.specs.Bytes.{version_of}
use Rattle.tree.proofs.bytes.version_of.Goals as goal

pub returns : goal.returns
unfolding version_of
returns c = search rules
