use Rattle.scope.specs.Words.{standing_in}
use Rattle.scope.specs.declared.table.Like.TheVariants.{Name}
use Rattle.scope.proofs.Find.{found_some, found_none}
use Rattle.scope.proofs.Scope.standing.Goals as goal

pub returns-in-Some : goal.returns-in-Some
unfolding standing_in
returns-in-Some c =
    let f = found_some c.args.t.now c.args.w.now Name c.args.i c.args.at.from c.args.at.to c.in-Some.p c.in-Some.ensures.place in
    rw (f.0, f.1)

pub returns-in-None : goal.returns-in-None
unfolding standing_in
returns-in-None c =
    let f = found_none c.args.t.now c.args.w.now Name c.args.i c.args.at.from c.args.at.to c.in-None.ensures.place in
    rw f
