use Rattle.std.specs.Prelude.{Err}
use mathlib.Core.Path.{sym, ap, ◌∙◌}
use Rattle.rules.specs.Incompatible.{incompatible_list}
use Rattle.answer.proofs.Whole.{unfit_done}
use Rattle.incompatible.proofs.incompatible.Goals as goal

pub returns-in-Err : goal.returns-in-Err
returns-in-Err c =
    let t = c.args.t.now in
    unfit_done t c.in-Err.why (incompatible_list t) c.args.out.now c.args.tally c.refused.result
    (sym c.judge.ensures ∙ c.in-Err.is) (c.refused.ensures.0 ∙ ap Err c.into.ensures) c.refused.ensures.1
