use Rattle.tree.specs.Forest.{node_head}
use Rattle.answer.specs.Note.{rec_of, span_of, value_of, node_of}
use Rattle.incompatible.proofs.assigns.put_again.Goals as goal

pub returns : goal.returns
unfolding node_head rec_of span_of value_of node_of
returns c = c.put.ensures
