use Rattle.incompatible.proofs.Deeds.{assign_repeat, assign_named}
use Rattle.incompatible.proofs.assigns.Defined.assign.Goals as goal

pub returns-in-Some : goal.returns-in-Some
returns-in-Some c = rw (assign_repeat c.args.t.now c.args.i c.args.e c.in-Some.x c.in-Some.ensures) c.repeat.ensures

pub returns-in-None : goal.returns-in-None
returns-in-None c = rw (assign_named c.args.t.now c.args.i c.args.e c.in-None.ensures) c.visit_lvalue.ensures
