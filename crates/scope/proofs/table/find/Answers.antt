use mathlib.Core.Path.{◌≡◌}
use mathlib.Core.Bool.{true, false}
use borrow.Author.Tests.{tests}
use borrow.Author.Rules.{rules}
use Rattle.std.proofs.lemmas.Iterator.{first_from_Range}
use Rattle.scope.specs.State.{node_in}
use Rattle.scope.specs.Words.{alike_at}
use Rattle.scope.proofs.Find.{found_first}
use Rattle.scope.proofs.table.find.Goals as goal

pub returns-clause-place : goal.returns-clause-place
returns-clause-place c =
    let t = c.args.t.now in
    let w = c.args.w.now in
    found_first t w c.args.how c.args.i c.args.at.from c.args.at.to c.find.result c.args.at.in_order
    (first_from_Range _ _ _ c.find.result (λ k. alike_at t c.args.how c.args.i (node_in w k) ≡ true) (λ k. alike_at t c.args.how c.args.i (node_in w k) ≡ false) c.find.ensures.ran (λ x q k. search (rules, tests)) (λ x q k. search (rules, tests)))
