use mathlib.Core.Path.{sym, ◌∙◌}
use Rattle.tree.specs.Forest.{node_head}
use Rattle.answer.specs.Note.{rec_of, span_of, value_of, node_of}
use Rattle.answer.proofs.Flat.{added_none, added_as}
use Rattle.dubious.proofs.Steps.{idle_no, idle_absent, idle_other, idle_here}
use Rattle.dubious.proofs.Walk.stmt.Goals as goal

pub returns-then-kind_at : goal.returns-then-kind_at
returns-then-kind_at c = rw (idle_no c.requires (λ z. c.if-kind_at.true (c.kind_at.ensures.0 ∙ z))) (added_none _)

pub returns-in_default : goal.returns-in_default
returns-in_default c = rw (idle_absent c.requires (rw c.size_at.ensures.0 at c.in_default.ensures)) (added_none _)

pub returns-then-kind_at-2 : goal.returns-then-kind_at-2
unfolding node_head rec_of span_of value_of node_of
returns-then-kind_at-2 c =
    added_as _ (idle_here c.requires c.in-Some.j (rw c.size_at.ensures.0 at c.in-Some.ensures) (sym c.kind_at.ensures.0 ∙ c.if-kind_at.false) (sym c.kind_at-2.ensures.0 ∙ c.if-kind_at-2.true)) c.put.ensures

pub returns-else-kind_at-2 : goal.returns-else-kind_at-2
returns-else-kind_at-2 c =
    rw (idle_other c.requires c.in-Some.j (rw c.size_at.ensures.0 at c.in-Some.ensures) (λ z. c.if-kind_at-2.false (c.kind_at-2.ensures.0 ∙ z))) (added_none _)
