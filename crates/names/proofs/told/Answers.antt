use mathlib.Core.Path.{sym}
use Rattle.tree.specs.Forest.{node_head}
use Rattle.answer.specs.Note.{rec_of, span_of, value_of, node_of}
use Rattle.names.specs.Records.{record_in}
use Rattle.names.proofs.told.Goals as goal

pub returns : goal.returns
unfolding node_head rec_of span_of value_of node_of record_in
returns c = rw (sym c.word_at-at.ensures.0, sym c.word_at-code.ensures.0) c.put.ensures
