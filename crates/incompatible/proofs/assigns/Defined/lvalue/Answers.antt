use mathlib.Core.Path.{sym, ap, ◌∙◌}
use Rattle.incompatible.specs.Ground.{inside}
use Rattle.incompatible.proofs.Told.{does_none}
use Rattle.incompatible.proofs.Deeds.{bound, role_other, role_none, role_several, role_one}
use Rattle.incompatible.proofs.assigns.Defined.lvalue.Goals as goal

pub returns-then-role_at-role : goal.returns-then-role_at-role
returns-then-role_at-role c =
    rw (role_other c.args.t.now c.args.role c.args.j (inside c.args.t.now c.args.j) (λ z. c.if-role_at-role.true (c.role_at.ensures.0 ∙ z))) (does_none _ _ _)

pub returns-then-kind : goal.returns-then-kind
returns-then-kind c =
    rw (role_several c.args.t.now c.args.role c.args.j (inside c.args.t.now c.args.j) (sym c.role_at.ensures.0 ∙ c.if-role_at-role.false) (sym c.kind_at-kind.ensures.0 ∙ c.if-kind.true)) (rw c.size_at.ensures.0 at c.below.ensures)

pub returns-then-binds : goal.returns-then-binds
returns-then-binds c =
    rw (role_one c.args.t.now c.args.role c.args.j (inside c.args.t.now c.args.j) (sym c.role_at.ensures.0 ∙ c.if-role_at-role.false) (sym c.if-binds.true ∙ c.binds.ensures ∙ ap bound c.kind_at-kind.ensures.0)) c.ident.ensures

pub returns-else-binds : goal.returns-else-binds
returns-else-binds c =
    rw (role_none c.args.t.now c.args.role c.args.j (inside c.args.t.now c.args.j) (sym c.role_at.ensures.0 ∙ c.if-role_at-role.false) (λ z. c.if-kind.false (c.kind_at-kind.ensures.0 ∙ z)) (sym c.if-binds.false ∙ c.binds.ensures ∙ ap bound c.kind_at-kind.ensures.0)) (does_none _ _ _)
