use mathlib.Core.Path.{sym, ◌∙◌}
use Rattle.incompatible.proofs.Deeds.{several_yes, several_other, several_role}
use Rattle.incompatible.proofs.assigns.below_next.Goals as goal
use Rattle.incompatible.proofs.assigns.below_next.Goals.{else-role_at-via-then-role_at+else-kind_at, else-role_at-via-else-role_at}

pub returns-then-kind_at : goal.returns-then-kind_at
returns-then-kind_at c =
    rw (several_yes c.args.t.now c.args.j (sym c.role_at.ensures.0 ∙ c.if-role_at.true) (sym c.kind_at.ensures.0 ∙ c.if-kind_at.true))

pub returns-else-role_at : goal.returns-else-role_at
returns-else-role_at c =
    elim c.else-role_at.branch [
      | else-role_at-via-then-role_at+else-kind_at w ↦ rw (several_other c.args.t.now c.args.j (λ z. w.if-kind_at.false (w.kind_at.ensures.0 ∙ z)), c.size_at.ensures.0)
      | else-role_at-via-else-role_at w ↦ rw (several_role c.args.t.now c.args.j (λ z. w.if-role_at.false (c.role_at.ensures.0 ∙ z)), c.size_at.ensures.0)
    ]
