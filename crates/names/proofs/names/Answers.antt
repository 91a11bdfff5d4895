use Rattle.std.specs.Prelude.{Err}
use mathlib.Core.Path.{sym, ap, ◌∙◌}
use Rattle.rules.specs.Names.{names_list}
use Rattle.answer.proofs.Whole.{unfit_with_work}
use Rattle.names.proofs.names.Goals as goal

pub returns-in-Err : goal.returns-in-Err
returns-in-Err c =
    unfit_with_work _ _ (names_list c.args.t.now) _ _ _ _ (sym c.judge.ensures ∙ c.in-Err.is) (c.refused.ensures.0 ∙ ap Err c.into.ensures) c.refused.ensures.1
