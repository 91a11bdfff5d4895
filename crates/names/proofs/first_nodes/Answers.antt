use borrow.Author.Tests.{le-ltb}
use Rattle.names.specs.Records.{met_words}
use Rattle.names.proofs.FirstMet.{met_back}
use Rattle.names.proofs.first_nodes.Goals as goal

pub returns-then-r-gt0 : goal.returns-then-r-gt0
returns-then-r-gt0 c = met_back _ _ _ c.args.w.now _ c.if-r-gt0.true c.first_met.ensures

pub returns-else-r-gt0 : goal.returns-else-r-gt0
unfolding met_words
returns-else-r-gt0 c = rw (le-ltb _ _ c.if-r-gt0.false)
