use mathlib.Core.Path.{◌≡◌, sym, ◌∙◌}
use mathlib.Core.Bool.{true, false}
use lib.Dec.{eqb}
use borrow.Author.Tests.{both_ways, eq-eqb, ne_eqb}
use Rattle.scope.specs.State.{used_in}
use Rattle.scope.specs.Words.{is_in, spared_in}
use Rattle.scope.specs.declared.table.Like.TheVariants.{Name}
use Rattle.scope.proofs.spared.Goals.{then-word_at-eq1, else-word_at-eq1}
use Rattle.scope.proofs.spared.Goals as goal

pub returns-then-has : goal.returns-then-has
unfolding spared_in
returns-then-has c =
    c.if-has.true ∙ elim c.if-word_at-eq1.branch [
      | then-word_at-eq1 w ↦
          let q : eqb (used_in c.args.w.now c.args.p) 1 ≡ true = eq-eqb (used_in c.args.w.now c.args.p) 1 (sym c.word_at.ensures.0 ∙ w.if-word_at-eq1.true) in rw q
      | else-word_at-eq1 w ↦
          let q : eqb (used_in c.args.w.now c.args.p) 1 ≡ false = ne_eqb (used_in c.args.w.now c.args.p) 1 (λ z. w.if-word_at-eq1.false (c.word_at.ensures.0 ∙ z)) in
          let h : is_in c.args.t.now c.args.w.now Name c.args.at.from c.args.at.to c.args.i ≡ true = sym w.has.ensures ∙ sym w.value-is ∙ c.if-has.true in rw (q, h)
    ]

pub returns-else-has : goal.returns-else-has
unfolding spared_in
returns-else-has c =
    elim c.if-word_at-eq1.branch [
      | then-word_at-eq1 w ↦ absurd (both_ways _ c.if-has.false (w.value-is ∙ eq-eqb _ _ w.if-word_at-eq1.true))
      | else-word_at-eq1 w ↦
          let q : eqb (used_in c.args.w.now c.args.p) 1 ≡ false = ne_eqb (used_in c.args.w.now c.args.p) 1 (λ z. w.if-word_at-eq1.false (c.word_at.ensures.0 ∙ z)) in
          let h : is_in c.args.t.now c.args.w.now Name c.args.at.from c.args.at.to c.args.i ≡ false = sym w.has.ensures ∙ sym w.value-is ∙ c.if-has.false in
          rw (q, h) c.spared_at.ensures
    ]
