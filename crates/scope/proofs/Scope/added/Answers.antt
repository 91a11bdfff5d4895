use mathlib.Core.Path.{sym, ◌∙◌}
use borrow.Author.Tests.{ltb-true, ltb-false}
use Rattle.scope.proofs.Steps.{added_there, added_new, added_full}
use Rattle.scope.proofs.Scope.added.Goals.{then-has-via-then-has, then-has-via-else-has+then-self-ge1024}
use Rattle.scope.proofs.Scope.added.Goals as goal

pub returns-then-has : goal.returns-then-has
returns-then-has c =
    let h = rw (c.own.ensures.0, c.own.ensures.1) at c.has.ensures in
    elim c.then-has.branch [
      | then-has-via-then-has w ↦ added_there c.args.t.now c.args.w.now c.args.self c.args.i (ltb-true _ _ (sym h ∙ w.if-has.true))
      | then-has-via-else-has+then-self-ge1024 w ↦
          added_full c.args.t.now c.args.w.now c.args.self c.args.i (ltb-false _ _ (sym h ∙ w.if-has.false)) w.if-self-ge1024.true
    ]

pub returns : goal.returns
returns c =
    let h = rw (c.own.ensures.0, c.own.ensures.1) at c.has.ensures in
    let j = added_new c.args.t.now c.args.w.now c.args.self c.args.i (ltb-false _ _ (sym h ∙ c.if-has.false)) c.if-self-ge1024.false in
    (j.0, rw (c.store-3.ensures, c.store-2.ensures, c.store.ensures) j.1)
