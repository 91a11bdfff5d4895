-- What is called, from the joined call and what is told of its answer. Assumes nothing.
use Prim.Native.Nat.{ℕ, ◌+◌}
use native.Mathlib.Omega.{arith}
use mathlib.Core.List.{List, ◌∷◌}
use mathlib.Core.Path.{ap, ◌∙◌}
use lib.ListN.{length-take}
use Rattle.rules.specs.Joined.{codes}
use Rattle.lint_c.specs.Face.{laid}
use Rattle.lint_c.proofs.Laws.{laid_so, report_words, told}
use Rattle.lint_c.proofs.call.Goals as goal

pub slice_bounds-lay-end : goal.slice_bounds-lay-end
slice_bounds-lay-end c =
    omega (arith, length-take (codes + 1) c.words_of-words.result, c.words_of-words.ensures.1)

pub returns : goal.returns
returns c =
    let a = c.args in
    let l = c.lint-a in
    let w = c.words_of-words in
    let e = report_words c.place_of.result 0 l.result.tally w.result w.ensures.1 w.ensures.0 in
    told a.mode a.t.now a.work.now a.out.now a.report.now l.result l.new.work l.new.out c.lay.new.room
    c.number_of.result l.ensures c.number_of.ensures
    (laid_so _ a.report.now c.lay.new.room c.lay.ensures
    ∙ ap (λ (r : List ℕ). laid r a.report.now) e
    ∙ ap (λ (x : ℕ). laid (x ∷ l.result.tally) a.report.now) c.place_of.ensures)
