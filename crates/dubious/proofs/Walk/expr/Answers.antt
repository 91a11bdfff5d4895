use mathlib.Core.Path.{sym, ◌∙◌}
use Rattle.answer.proofs.Flat.{added_none}
use Rattle.dubious.proofs.Steps.{dict_no, dict_yes}
use Rattle.dubious.proofs.Walk.expr.Goals as goal

pub returns-then-kind_at : goal.returns-then-kind_at
returns-then-kind_at c =
    rw (dict_yes c.args.self.now.numbers.now c.args.self.now.t.now c.args.i (sym c.kind_at.ensures.0 ∙ c.if-kind_at.true), sym c.size_at.ensures.0) c.dict.ensures

pub returns-else-kind_at : goal.returns-else-kind_at
returns-else-kind_at c =
    rw (dict_no c.args.self.now.numbers.now c.args.self.now.t.now c.args.i (λ z. c.if-kind_at.false (c.kind_at.ensures.0 ∙ z))) (added_none _)
