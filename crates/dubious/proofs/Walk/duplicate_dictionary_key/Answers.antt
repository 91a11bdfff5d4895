use native.Mathlib.Omega.{arith}
use Rattle.tree.proofs.Laws.{later}
use Rattle.tree.specs.code.Numbers.{like_by}
use Rattle.rules.specs.Dubious.{dict_at}
use Rattle.answer.proofs.Flat.{going_on, going_end}
use Rattle.answer.proofs.Each.{each_next, each_past}
use Rattle.dubious.proofs.Walk.duplicate_dictionary_key.Goals as goal

pub loop-i-preserved : goal.loop-i-preserved
loop-i-preserved c =
    (later c.loop-i.invariant.0 (omega arith), going_on c.loop-i.invariant.1 _ _ c.expr.ensures (each_next (dict_at (like_by c.args.self.now.numbers.now)) c.loop-i.invariant.0 c.loop-i-test.true))

pub returns : goal.returns
returns c =
    going_end c.loop-i.invariant.1 (each_past (dict_at (like_by c.args.self.now.numbers.now)) c.args.self.now.t.now c.loop-i.i c.args.self.now.nodes c.loop-i-test.false)
