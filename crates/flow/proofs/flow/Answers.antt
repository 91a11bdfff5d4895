use Rattle.std.specs.Prelude.{Err}
use mathlib.Core.Path.{sym, ap, ◌∙◌}
use Rattle.rules.specs.Flow.{flow_list}
use Rattle.answer.proofs.Whole.{unfit_done}
use Rattle.flow.proofs.flow.Goals as goal

pub returns-in-Err : goal.returns-in-Err
returns-in-Err c =
    unfit_done c.args.t.now c.in-Err.why (flow_list c.args.t.now) c.args.out.now c.args.tally c.refused.result (sym c.in-Err.ensures) (c.refused.ensures.0 ∙ ap Err c.into.ensures) c.refused.ensures.1
