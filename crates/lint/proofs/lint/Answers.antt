-- A file refused by 1 to 9. Assumes nothing.
use Rattle.std.specs.Prelude.{Err}
use mathlib.Core.Path.{sym, ap, ◌∙◌}
use Rattle.rules.specs.Joined.{lint_list, no_tally}
use Rattle.answer.proofs.Whole.{unfit_with_work}
use Rattle.lint.proofs.lint.Goals as goal

pub returns-in-Err : goal.returns-in-Err
returns-in-Err c =
    unfit_with_work c.args.t.now _ (lint_list c.args.mode c.args.t.now) c.args.work.now c.args.out.now no_tally c.refused.result
    (sym c.in-Err.ensures) (c.refused.ensures.0 ∙ ap Err c.into.ensures) c.refused.ensures.1
