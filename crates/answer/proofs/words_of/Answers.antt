use Rattle.answer.proofs.Returns.{words_done}
use Rattle.answer.proofs.words_of.Goals as goal

pub returns : goal.returns
returns c =
    words_done c.args.t.now c.args.n c.ends_of.ensures c.value_of.ensures c.ends_of-2.ensures c.ends_of-3.ensures c.number_at.ensures c.number_of.ensures
