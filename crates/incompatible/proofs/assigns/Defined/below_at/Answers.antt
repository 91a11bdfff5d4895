use mathlib.Core.Path.{sym, ap, ◌∙◌}
use Rattle.incompatible.proofs.Told.{does_none}
use Rattle.incompatible.proofs.Deeds.{bound, below_other, below_none, below_name}
use Rattle.incompatible.proofs.assigns.Defined.below_at.Goals as goal
use Rattle.incompatible.proofs.assigns.Defined.below_at.Goals.{else-role_at-via-then-role_at+else-binds, else-role_at-via-else-role_at}

pub returns-then-binds : goal.returns-then-binds
returns-then-binds c =
    rw (below_name c.args.t.now c.args.j (sym c.role_at.ensures.0 ∙ c.if-role_at.true) (sym c.if-binds.true ∙ c.binds.ensures ∙ ap bound c.kind_at.ensures.0)) c.ident.ensures

pub returns-else-role_at : goal.returns-else-role_at
returns-else-role_at c =
    elim c.else-role_at.branch [
      | else-role_at-via-then-role_at+else-binds w ↦
          rw (below_none c.args.t.now c.args.j (sym c.role_at.ensures.0 ∙ w.if-role_at.true) (sym w.if-binds.false ∙ w.binds.ensures ∙ ap bound w.kind_at.ensures.0)) (does_none _ _ _)
      | else-role_at-via-else-role_at w ↦ rw (below_other c.args.t.now c.args.j (λ z. w.if-role_at.false (c.role_at.ensures.0 ∙ z))) (does_none _ _ _)
    ]
