use native.Mathlib.Omega.{arith}
use mathlib.Core.Path.{sym, ◌∙◌}
use borrow.Author.Tests.{ltb-true, ltb-false}
use Rattle.scope.proofs.Steps.{join_there, join_new, join_full}
use Rattle.scope.proofs.table.join_list.Goals.{then-has-via-then-has, then-has-via-else-has+then-end-at}
use Rattle.scope.proofs.table.join_list.Goals as goal

pub returns-then-has : goal.returns-then-has
returns-then-has c =
    elim c.then-has.branch [
      | then-has-via-then-has w ↦
          let j = join_there c.args.t.now c.args.w.now c.args.at.from c.args.at.to c.args.end c.args.i (ltb-true _ _ (sym c.has.ensures ∙ w.if-has.true)) in
          (j.0, j.1, omega arith, omega arith)
      | then-has-via-else-has+then-end-at w ↦
          let j = join_full c.args.t.now c.args.w.now c.args.at.from c.args.at.to c.args.end c.args.i (ltb-false _ _ (sym c.has.ensures ∙ w.if-has.false)) w.if-end-at.true in
          (j.0, j.1, omega arith, omega arith)
    ]

pub returns : goal.returns
returns c =
    let j = join_new c.args.t.now c.args.w.now c.args.at.from c.args.at.to c.args.end c.args.i (ltb-false _ _ (sym c.has.ensures ∙ c.if-has.false)) c.if-end-at.false in
    (j.0, rw c.store.ensures j.1, omega arith, omega arith)
