use native.Mathlib.Omega.{arith}
use mathlib.Core.Path.{◌≡◌, sym, ap, ◌∙◌}
use mathlib.Core.Bool.{true, false}
use borrow.Author.Tests.{both_ways, ltb-true, ltb-false}
use Rattle.tree.specs.Bytes.{value_at}
use Rattle.tree.specs.Table.{is_global}
use Rattle.scope.specs.Words.{Lines, warn_lines}
use Rattle.scope.proofs.Steps.{unknown_set, unknown_given, unknown_so}
use Rattle.scope.proofs.unknown_one.Goals.{then-has, else-has}
use Rattle.scope.proofs.unknown_one.Goals as goal

pub returns-then-is_global : goal.returns-then-is_global
returns-then-is_global c =
    elim c.if-has.branch [
      | then-has w ↦
          let e = unknown_set c.args.t.now c.args.at.from c.args.at.to c.args.w.now c.args.n c.args.i (ltb-true _ _ (sym c.has.ensures ∙ w.if-has.true)) in
          (ap (λ (l : Lines). l.count) e, ap (λ (l : Lines). l.words) e, omega arith)
      | else-has w ↦
          let g : is_global c.args.t.now (value_at c.args.t.now c.args.i) ≡ true = rw (← w.value_at.ensures.0) (sym w.is_global.ensures ∙ sym w.value-is ∙ c.if-is_global.true) in
          let e = unknown_given c.args.t.now c.args.at.from c.args.at.to c.args.w.now c.args.n c.args.i (ltb-false _ _ (sym c.has.ensures ∙ w.if-has.false)) g in
          (ap (λ (l : Lines). l.count) e, ap (λ (l : Lines). l.words) e, omega arith)
    ]

pub returns-else-is_global : goal.returns-else-is_global
unfolding warn_lines
returns-else-is_global c =
    elim c.if-has.branch [
      | then-has w ↦ absurd (both_ways _ c.if-is_global.false (w.value-is ∙ w.if-has.true))
      | else-has w ↦
          let g : is_global c.args.t.now (value_at c.args.t.now c.args.i) ≡ false = rw (← w.value_at.ensures.0) (sym w.is_global.ensures ∙ sym w.value-is ∙ c.if-is_global.false) in
          let e = unknown_so c.args.t.now c.args.at.from c.args.at.to c.args.w.now c.args.n c.args.i (ltb-false _ _ (sym c.has.ensures ∙ w.if-has.false)) g in
          (c.warn.ensures.0 ∙ ap (λ (l : Lines). l.count) e, c.warn.ensures.1 ∙ ap (λ (l : Lines). l.words) e, c.warn.ensures.2)
    ]
