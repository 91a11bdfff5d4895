use native.Mathlib.Omega.{arith}
use Rattle.tree.proofs.Laws.{later}
use Rattle.rules.specs.Dubious.{idle_at}
use Rattle.answer.proofs.Flat.{going_on, going_end}
use Rattle.answer.proofs.Each.{each_next, each_past}
use Rattle.dubious.proofs.Walk.identifier_as_statement.Goals as goal

pub loop-i-preserved : goal.loop-i-preserved
loop-i-preserved c =
    (later c.loop-i.invariant.0 (omega arith), going_on c.loop-i.invariant.1 _ _ c.stmt.ensures (each_next idle_at c.loop-i.invariant.0 c.loop-i-test.true))

pub returns : goal.returns
returns c =
    going_end c.loop-i.invariant.1 (each_past idle_at c.args.self.now.t.now c.loop-i.i c.args.self.now.nodes c.loop-i-test.false)
