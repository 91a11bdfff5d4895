use native.Mathlib.Omega.{arith}
use lib.Dec.{eqb}
use Rattle.answer.proofs.Flat.{going_on, going_end}
use Rattle.flow.proofs.ReturnsLaws.{tidy_later, walk_next, walk_past}
use Rattle.flow.proofs.returns.stmt.Goals as goal

pub loop-i-preserved : goal.loop-i-preserved
loop-i-preserved c =
    (tidy_later c.loop-i.invariant.0 (omega arith), going_on c.loop-i.invariant.1 _ _ c.check_stmt.ensures (walk_next (λ v. eqb v c.args.fail) (λ v. eqb v c.args.none) c.loop-i.invariant.0.part c.loop-i-test.true))

pub returns : goal.returns
returns c =
    going_end c.loop-i.invariant.1 (walk_past (λ v. eqb v c.args.fail) (λ v. eqb v c.args.none) c.args.t.now c.loop-i.i c.args.n c.loop-i-test.false)
