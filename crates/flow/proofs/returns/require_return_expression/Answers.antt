use mathlib.Core.Path.{sym, ◌∙◌}
use lib.Dec.{eqb}
use Rattle.std.proofs.lemmas.Bool.{eq-eqb, ne_eqb}
use Rattle.flow.proofs.ReturnsLaws.{type_absent, type_none, type_other, type_more}
use Rattle.flow.proofs.returns.require_return_expression.Goals as goal
use Rattle.flow.proofs.returns.require_return_expression.Goals.{else-kind_at-via-then-kind_at+else-value_at-none, else-kind_at-via-else-kind_at}

pub returns-in_err-j : goal.returns-in_err-j
returns-in_err-j c = rw c.from_residual.ensures (type_absent (λ v. eqb v c.args.none) c.requires.0 c.requires.1 c.in_err-j.ensures)

pub returns-then-value_at-none : goal.returns-then-value_at-none
returns-then-value_at-none c =
    type_none (λ v. eqb v c.args.none) c.requires.0 c.requires.1 c.in_ok-j.ensures (sym c.kind_at.ensures.0 ∙ c.if-kind_at.true) (eq-eqb _ _ (sym c.value_at.ensures.0 ∙ c.if-value_at-none.true))

pub returns : goal.returns
returns c =
    elim c.else-kind_at.branch [
      | else-kind_at-via-then-kind_at+else-value_at-none w ↦ type_other (λ v. eqb v c.args.none) c.requires.0 c.requires.1 c.in_ok-j.ensures (ne_eqb _ _ (rw w.value_at.ensures.0 at w.if-value_at-none.false))
      | else-kind_at-via-else-kind_at w ↦ type_more (λ v. eqb v c.args.none) c.requires.0 c.requires.1 c.in_ok-j.ensures (rw c.kind_at.ensures.0 at w.if-kind_at.false)
    ]
