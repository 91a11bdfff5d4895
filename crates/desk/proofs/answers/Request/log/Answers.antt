-- The list is the rules', and its log can be written. Assumes nothing.
use Rattle.desk.proofs.Handed.{lists}
use Rattle.desk.proofs.answers.Request.log.Goals as goal

pub invariant_of-log-clause-lists : goal.invariant_of-log-clause-lists
invariant_of-log-clause-lists g c =
    let a = c.args in
    let made = c.lint-outcome in
    lists a.self.now.choices.bits a.self.now.t.now a.work.now a.answer.now c.mode.result c.mode.ensures
    made.result made.new.out made.new.work made.ensures c.in-Ok.n c.in-Ok.is
