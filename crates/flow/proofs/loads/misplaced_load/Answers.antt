use native.Mathlib.Omega.{arith}
use Rattle.tree.proofs.Laws.{sized, later}
use Rattle.answer.proofs.Flat.{going_on, going_end}
use Rattle.flow.specs.Walks.{is_text}
use Rattle.flow.proofs.Steps.{loads_past, loads_next, into_after}
use Rattle.flow.proofs.loads.misplaced_load.Goals as goal

pub loop-j-preserved : goal.loop-j-preserved
loop-j-preserved c =
    rw (c.next-j.ensures, c.allows-allowed.ensures) (later c.loop-j.invariant.0 (omega (arith, into_after 8 c.args.t.now c.loop-j.j (sized c.loop-j.invariant.0 c.loop-j-test.true))), going_on c.loop-j.invariant.1 _ _ (c.load.ensures c.args.strings.now) (loads_next c.args.strings.now c.loop-j.allowed c.loop-j.invariant.0 c.loop-j-test.true))

pub returns : goal.returns
returns c =
    going_end c.loop-j.invariant.1 (loads_past (is_text c.args.strings.now) c.loop-j.allowed c.args.t.now c.loop-j.j c.args.n c.loop-j-test.false)
