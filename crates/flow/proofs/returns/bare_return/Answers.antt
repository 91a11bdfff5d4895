use mathlib.Core.Path.{sym, ◌∙◌}
use Rattle.tree.specs.Forest.{node_head, node_spot}
use Rattle.answer.specs.Note.{rec_of, span_of, value_of, node_of}
use Rattle.answer.proofs.Flat.{added_none, added_as}
use Rattle.flow.proofs.ReturnsLaws.{bare_no, bare_valued, bare_put}
use Rattle.flow.proofs.returns.bare_return.Goals as goal
use Rattle.flow.proofs.returns.bare_return.Goals.{else-kind_at-via-then-kind_at+else-not-is_valued, else-kind_at-via-else-kind_at}

pub returns-then-not-is_valued : goal.returns-then-not-is_valued
unfolding rec_of span_of value_of node_of node_head
returns-then-not-is_valued c =
    let t = c.args.t.now in
    let d = c.args.d in
    added_as _ (bare_put t c.args.j (node_head t d.at) (node_spot t d.name) (node_head t d.why) (sym c.kind_at.ensures.0 ∙ c.if-kind_at.true) (sym c.is_valued.ensures ∙ c.if-not-is_valued.true)) c.put.ensures

pub returns-else-kind_at : goal.returns-else-kind_at
returns-else-kind_at c =
    let t = c.args.t.now in
    let d = c.args.d in
    elim c.else-kind_at.branch [
      | else-kind_at-via-then-kind_at+else-not-is_valued w ↦ added_as _ (bare_valued t c.args.j (node_head t d.at) (node_spot t d.name) (node_head t d.why) (sym w.is_valued.ensures ∙ w.if-not-is_valued.false)) (added_none _)
      | else-kind_at-via-else-kind_at w ↦ added_as _ (bare_no t c.args.j (node_head t d.at) (node_spot t d.name) (node_head t d.why) (rw c.kind_at.ensures.0 at w.if-kind_at.false)) (added_none _)
    ]
