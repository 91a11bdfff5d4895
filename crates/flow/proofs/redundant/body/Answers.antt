use Rattle.std.proofs.Common.{inl, inr}
use Rattle.answer.proofs.Flat.{added_none, added_as}
use Rattle.flow.proofs.Tails.{body_some, body_other}
use Rattle.flow.proofs.redundant.body.Goals as goal
use Rattle.flow.proofs.redundant.body.Goals.{then-loops-via-then-loops, then-loops-via-else-loops+then-k}

pub returns-then-loops : goal.returns-then-loops
returns-then-loops c =
    let k = c.kind_at-k.ensures.0 in
    let wrote = rw (k, c.size_at.ensures.0) at c.last.ensures in
    elim c.then-loops.branch [
      | then-loops-via-then-loops w ↦ added_as _ (body_some c.args.t.now c.args.i (inl (rw k at w.if-loops.true))) wrote
      | then-loops-via-else-loops+then-k w ↦ added_as _ (body_some c.args.t.now c.args.i (inr (rw k at w.if-k.true))) wrote
    ]

pub returns-else-k : goal.returns-else-k
returns-else-k c =
    let k = c.kind_at-k.ensures.0 in
    added_as _ (body_other c.args.t.now c.args.i (rw k at c.if-loops.false) (rw k at c.if-k.false)) (added_none _)
