use native.Mathlib.Omega.{arith}
use mathlib.Core.Path.{ap, sym, ◌∙◌}
use borrow.Author.Tests.{ltb-true, ltb-false}
use Rattle.scope.specs.Words.{Lines}
use Rattle.scope.proofs.Steps.{pass_not, pass_so}
use Rattle.scope.proofs.passed_one.Goals as goal

pub returns-then-has : goal.returns-then-has
returns-then-has c =
    let e = pass_not c.args.t.now c.args.at.from c.args.at.to c.args.list.from c.args.w.now c.args.list.to c.args.i (ltb-true _ _ (sym c.has.ensures ∙ c.if-has.true)) in
    (ap (λ (l : Lines). l.count) e, ap (λ (l : Lines). l.words) e, omega arith, omega arith)

pub returns-else-has : goal.returns-else-has
returns-else-has c =
    let e = pass_so c.args.t.now c.args.at.from c.args.at.to c.args.list.from c.args.w.now c.args.list.to c.args.i (ltb-false _ _ (sym c.has.ensures ∙ c.if-has.false)) in
    (c.join_list.ensures.0 ∙ ap (λ (l : Lines). l.count) e, c.join_list.ensures.1 ∙ ap (λ (l : Lines). l.words) e, c.join_list.ensures.2, c.join_list.ensures.3)
