use native.Mathlib.Omega.{arith}
use mathlib.Core.Path.{ap, sym, ◌∙◌}
use borrow.Author.Tests.{ltb-true, ltb-false}
use Rattle.scope.specs.Words.{Lines, warn_lines}
use Rattle.scope.proofs.Steps.{late_so, late_not}
use Rattle.scope.proofs.late_one.Goals as goal

pub returns-then-has : goal.returns-then-has
unfolding warn_lines
returns-then-has c =
    let e = late_so c.args.t.now c.args.at.from c.args.at.to c.args.w.now c.args.n c.args.i (ltb-true _ _ (sym c.has.ensures ∙ c.if-has.true)) in
    (c.warn.ensures.0 ∙ ap (λ (l : Lines). l.count) e, c.warn.ensures.1 ∙ ap (λ (l : Lines). l.words) e, c.warn.ensures.2)

pub returns-else-has : goal.returns-else-has
returns-else-has c =
    let e = late_not c.args.t.now c.args.at.from c.args.at.to c.args.w.now c.args.n c.args.i (ltb-false _ _ (sym c.has.ensures ∙ c.if-has.false)) in
    (ap (λ (l : Lines). l.count) e, ap (λ (l : Lines). l.words) e, omega arith)
