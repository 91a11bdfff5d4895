use Rattle.scope.proofs.Steps.{taken_cants}
use Rattle.scope.proofs.Scope.outside.Goals as goal

pub cannot-requires : goal.cannot-requires
cannot-requires c =
    let k = taken_cants c.args.t.now c.args.w.now c.args.self c.args.at.from c.args.at.to c.args.i c.args.k 6144 c.requires.1.cant c.requires.1.cants in
    rw c.taken.ensures.0 (k.0, k.1, c.requires.2)

pub returns : goal.returns
returns c =
    (rw (← c.taken.ensures.0, ← c.taken.ensures.1) c.cannot.ensures.0, rw (← c.taken.ensures.0, ← c.taken.ensures.1) c.cannot.ensures.1)
