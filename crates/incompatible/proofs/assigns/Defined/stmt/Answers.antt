use mathlib.Core.Path.{sym, ◌∙◌}
use Rattle.incompatible.specs.Ground.{inside}
use Rattle.incompatible.proofs.Told.{does_none}
use Rattle.incompatible.proofs.Deeds.{stmt_assign, stmt_modify, stmt_def, stmt_load, stmt_other}
use Rattle.incompatible.proofs.assigns.Defined.stmt.Goals as goal

pub returns-then-kind : goal.returns-then-kind
returns-then-kind c =
    rw (stmt_assign c.args.t.now c.args.i (inside c.args.t.now c.args.i) (sym c.kind_at-kind.ensures.0 ∙ c.if-kind.true)) (rw c.size_at.ensures.0 at c.assign.ensures)

pub returns-then-kind-2 : goal.returns-then-kind-2
returns-then-kind-2 c =
    rw (stmt_modify c.args.t.now c.args.i (inside c.args.t.now c.args.i) (sym c.kind_at-kind.ensures.0 ∙ c.if-kind-2.true)) (rw c.size_at.ensures.0 at c.visit_lvalue.ensures)

pub returns-then-kind-3 : goal.returns-then-kind-3
returns-then-kind-3 c =
    rw (stmt_def c.args.t.now c.args.i (inside c.args.t.now c.args.i) (sym c.kind_at-kind.ensures.0 ∙ c.if-kind-3.true)) (rw c.size_at.ensures.0 at c.visit_lvalue-then-kind-3.ensures)

pub returns-then-kind-4 : goal.returns-then-kind-4
returns-then-kind-4 c =
    rw (stmt_load c.args.t.now c.args.i (inside c.args.t.now c.args.i) (sym c.kind_at-kind.ensures.0 ∙ c.if-kind-4.true)) (rw c.size_at.ensures.0 at c.visit_lvalue-then-kind-4.ensures)

pub returns-else-kind-4 : goal.returns-else-kind-4
returns-else-kind-4 c =
    let e = c.kind_at-kind.ensures.0 in
    rw (stmt_other c.args.t.now c.args.i (inside c.args.t.now c.args.i) (λ z. c.if-kind.false (e ∙ z)) (λ z. c.if-kind-2.false (e ∙ z)) (λ z. c.if-kind-3.false (e ∙ z)) (λ z. c.if-kind-4.false (e ∙ z))) (does_none _ _ _)
