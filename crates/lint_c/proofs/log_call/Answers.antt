-- What is called, from the log's call and what is told of its answer. Assumes nothing.
use Prim.Native.Nat.{ℕ}
use mathlib.Core.List.{List, [], ◌∷◌, ◌++◌}
use mathlib.Core.Path.{ap, ◌∙◌}
use Rattle.lint_c.specs.Face.{number_of, place_of, laid, as_listed}
use Rattle.lint_c.proofs.Laws.{laid_so, logged}
use Rattle.lint_c.proofs.log_call.Goals as goal

pub returns : goal.returns
returns c =
    let a = c.args in
    let s = c.sarif-a in
    let o = c.as_listed-listed.ensures in
    let w = c.words_of in
    let p = c.place_of.ensures ∙ ap place_of o in
    logged a.mode a.t.now a.work.now a.out.now a.output.now a.report.now s.result s.new.work s.new.answer s.new.output
    c.lay.new.room c.number_of.result s.ensures (c.number_of.ensures ∙ ap number_of o)
    (laid_so _ a.report.now c.lay.new.room c.lay.ensures
    ∙ ap (λ (r : List ℕ). laid r a.report.now) w.ensures.0
    ∙ ap (λ (x : ℕ). laid ((x ∷ s.result.tally) ++ (c.bytes_of.result ∷ [])) a.report.now) p
    ∙ ap (λ (x : ℕ). laid ((place_of (as_listed s.result.outcome) ∷ s.result.tally) ++ (x ∷ [])) a.report.now) c.bytes_of.ensures)
