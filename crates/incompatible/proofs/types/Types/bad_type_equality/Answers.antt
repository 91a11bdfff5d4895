use native.Mathlib.Omega.{arith}
use Rattle.tree.proofs.Laws.{later}
use Rattle.rules.specs.Incompatible.{check_at}
use Rattle.answer.proofs.Flat.{going_on, going_end}
use Rattle.answer.proofs.Each.{each_next, each_past}
use Rattle.incompatible.specs.Five.{is, five}
use Rattle.incompatible.proofs.types.Types.bad_type_equality.Goals as goal

pub loop-i-preserved : goal.loop-i-preserved
loop-i-preserved c =
    (later c.loop-i.invariant.0 (omega arith), going_on c.loop-i.invariant.1 _ _ c.match_bad_type_equality.ensures (each_next (check_at (is c.args.self.now.call) (five c.args.self.now)) c.loop-i.invariant.0 c.loop-i-test.true))

pub returns : goal.returns
returns c =
    going_end c.loop-i.invariant.1 (each_past (check_at (is c.args.self.now.call) (five c.args.self.now)) c.args.t.now c.loop-i.i c.args.n c.loop-i-test.false)
