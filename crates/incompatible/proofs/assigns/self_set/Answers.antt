use mathlib.Core.Path.{sym, ◌∙◌}
use Rattle.incompatible.proofs.Deeds.{self_no_target, self_no_value, self_other, self_value, self_apart, self_found}
use Rattle.incompatible.proofs.assigns.self_set.Goals as goal
use Rattle.incompatible.proofs.assigns.self_set.Goals.{else-kind_at-via-then-kind_at+then-kind_at-2+else-value_at, else-kind_at-via-then-kind_at+else-kind_at-2, else-kind_at-via-else-kind_at}

pub returns-in_err-x : goal.returns-in_err-x
returns-in_err-x c = rw c.from_residual.ensures (self_no_target c.requires.0 c.requires.1 c.in_err-x.ensures)

pub returns-in_err-y : goal.returns-in_err-y
returns-in_err-y c = rw c.from_residual-in_err-y.ensures (self_no_value c.requires.0 c.requires.1 c.in_err-y.ensures)

pub returns-then-value_at : goal.returns-then-value_at
returns-then-value_at c =
    self_found c.requires.0 c.requires.1 c.in_ok-x.ensures c.in_ok-y.ensures (sym c.kind_at.ensures.0 ∙ c.if-kind_at.true) (sym c.kind_at-then-kind_at.ensures.0 ∙ c.if-kind_at-2.true)
    (sym c.value_at.ensures.0 ∙ c.if-value_at.true ∙ c.value_at-then-kind_at-2.ensures.0)

pub returns-else-kind_at : goal.returns-else-kind_at
returns-else-kind_at c =
    let p = c.requires.0 in
    let le = c.requires.1 in
    elim c.else-kind_at.branch [
      | else-kind_at-via-then-kind_at+then-kind_at-2+else-value_at w ↦
          self_apart p le c.in_ok-x.ensures c.in_ok-y.ensures (λ z. w.if-value_at.false (w.value_at.ensures.0 ∙ z ∙ sym w.value_at-then-kind_at-2.ensures.0))
      | else-kind_at-via-then-kind_at+else-kind_at-2 w ↦ self_value p le c.in_ok-x.ensures c.in_ok-y.ensures (λ z. w.if-kind_at-2.false (w.kind_at-then-kind_at.ensures.0 ∙ z))
      | else-kind_at-via-else-kind_at w ↦ self_other p le c.in_ok-x.ensures c.in_ok-y.ensures (λ z. w.if-kind_at.false (c.kind_at.ensures.0 ∙ z))
    ]
