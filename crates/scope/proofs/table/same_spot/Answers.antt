use mathlib.Core.Path.{sym, ◌∙◌}
use borrow.Author.Tests.{both_ways, eqb-true, eqb-false, ne_eqb}
use Rattle.scope.proofs.Alike.{value_differs, begin_differs, end_decides}
use Rattle.scope.proofs.table.same_spot.Goals.{then-value_at, else-value_at}
use Rattle.scope.proofs.table.same_spot.Goals as goal

pub returns-then-begin_at : goal.returns-then-begin_at
returns-then-begin_at c =
    elim c.if-value_at.branch [
      | then-value_at w ↦
          let e = eqb-true _ _ (sym w.value-is ∙ c.if-begin_at.true) in
          rw (c.end_at.ensures.0, c.end_at-then-begin_at.ensures.0) (end_decides c.args.t.now c.args.a c.args.b (sym c.value_at.ensures.0 ∙ w.if-value_at.true ∙ c.value_at-2.ensures.0) (sym w.begin_at.ensures.0 ∙ e ∙ w.begin_at-then-value_at.ensures.0))
      | else-value_at w ↦ absurd (both_ways _ (w.value-is ∙ ne_eqb _ _ w.if-value_at.false) c.if-begin_at.true)
    ]

pub returns-else-begin_at : goal.returns-else-begin_at
returns-else-begin_at c =
    c.if-begin_at.false ∙ elim c.if-value_at.branch [
      | then-value_at w ↦
          begin_differs c.args.t.now c.args.a c.args.b (sym c.value_at.ensures.0 ∙ w.if-value_at.true ∙ c.value_at-2.ensures.0) (λ e. eqb-false _ _ (sym w.value-is ∙ c.if-begin_at.false) (w.begin_at.ensures.0 ∙ e ∙ sym w.begin_at-then-value_at.ensures.0))
      | else-value_at w ↦
          value_differs c.args.t.now c.args.a c.args.b (λ e. w.if-value_at.false (c.value_at.ensures.0 ∙ e ∙ sym c.value_at-2.ensures.0))
    ]
