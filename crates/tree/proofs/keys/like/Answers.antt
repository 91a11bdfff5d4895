use Rattle.tree.proofs.KeyNumbers.{like_one, like_two, like_none}
use Rattle.tree.proofs.keys.like.Goals as goal

pub returns-then-a-b : goal.returns-then-a-b
returns-then-a-b c = like_one c.args.numbers.now c.args.a c.args.b c.if-a-b.true

pub returns-then-entry_of : goal.returns-then-entry_of
returns-then-entry_of c =
    like_two c.args.numbers.now c.args.a c.args.b c.if-a-b.false c.entry_of.ensures c.entry_of-else-a-b.ensures c.if-entry_of.true

pub returns-else-entry_of : goal.returns-else-entry_of
returns-else-entry_of c =
    like_none c.args.numbers.now c.args.a c.args.b c.if-a-b.false c.entry_of.ensures c.entry_of-else-a-b.ensures c.if-entry_of.false
