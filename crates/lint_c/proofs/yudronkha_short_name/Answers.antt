-- The code's own name, laid over the room. Assumes nothing.
use Prim.Native.Nat.{ℕ}
use mathlib.Core.Path.{ap, ◌∙◌}
use mathlib.Core.List.{List}
use lib.ListN.{length}
use Rattle.lint_c.specs.Face.{laid}
use Rattle.lint_c.proofs.Laws.{laid_so}
use Rattle.lint_c.proofs.yudronkha_short_name.Goals as goal

pub returns : goal.returns
returns c =
    let e = c.short_name-whole.ensures ∙ c.code_of.ensures.1 in
    let n = laid_so c.short_name-whole.result.now c.args.name.now c.lay.new.room c.lay.ensures
    ∙ ap (λ (w : List ℕ). laid w c.args.name.now) e in
    λ i. record { number = length (e i); name = n i }
