use mathlib.Core.Path.{sym, ◌∙◌}
use Rattle.answer.proofs.Flat.{added_none, added_as}
use Rattle.flow.proofs.Steps.{load_no, load_allowed, load_put}
use Rattle.flow.proofs.loads.load.Goals as goal
use Rattle.flow.proofs.loads.load.Goals.{else-kind_at-via-then-kind_at+else-not-allowed, else-kind_at-via-else-kind_at}

pub returns-then-not-allowed : goal.returns-then-not-allowed
returns-then-not-allowed c =
    λ s. added_as _ (load_put s c.args.allowed c.args.t.now c.args.j (sym c.kind_at.ensures.0 ∙ c.if-kind_at.true) c.if-not-allowed.true) c.put_plainly.ensures

pub returns-else-kind_at : goal.returns-else-kind_at
returns-else-kind_at c =
    λ s. elim c.else-kind_at.branch [
      | else-kind_at-via-then-kind_at+else-not-allowed w ↦ added_as _ (load_allowed s c.args.allowed c.args.t.now c.args.j w.if-not-allowed.false) (added_none _)
      | else-kind_at-via-else-kind_at w ↦ added_as _ (load_no s c.args.allowed c.args.t.now c.args.j (rw c.kind_at.ensures.0 at w.if-kind_at.false)) (added_none _)
    ]
