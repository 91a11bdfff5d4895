use mathlib.Core.Path.{sym, ◌∙◌}
use Rattle.tree.specs.Forest.{node_head}
use Rattle.answer.specs.Note.{rec_of, span_of, value_of, node_of}
use Rattle.answer.proofs.Flat.{added_none, added_as}
use Rattle.flow.proofs.returns.missing_return.Goals as goal

pub returns-then-not-final_return : goal.returns-then-not-final_return
unfolding rec_of span_of value_of node_of node_head
returns-then-not-final_return c =
    added_as _ (rw (sym (rw c.size_at.ensures.0 at c.final_return.ensures) ∙ c.if-not-final_return.true)) c.put.ensures

pub returns-else-not-final_return : goal.returns-else-not-final_return
returns-else-not-final_return c =
    added_as _ (rw (sym (rw c.size_at.ensures.0 at c.final_return.ensures) ∙ c.if-not-final_return.false)) (added_none _)
