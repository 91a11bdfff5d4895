use native.Mathlib.Omega.{arith}
use mathlib.Core.Path.{sym}
use Rattle.tree.proofs.Laws.{later}
use Rattle.answer.proofs.Flat.{going_on, going_end, added_as}
use Rattle.flow.proofs.Tails.{redundant_next, redundant_past, below_all}
use Rattle.flow.proofs.redundant.redundant.Goals as goal

pub loop-i-preserved : goal.loop-i-preserved
loop-i-preserved c =
    (later c.loop-i.invariant.0 (omega arith), going_on c.loop-i.invariant.1 _ _ c.body.ensures (redundant_next c.loop-i.invariant.0 c.loop-i-test.true))

pub returns : goal.returns
returns c =
    added_as _ (sym (below_all c.requires.0 c.requires.1)) (going_end c.loop-i.invariant.1 (redundant_past c.args.t.now c.loop-i.i c.args.n c.loop-i-test.false))
