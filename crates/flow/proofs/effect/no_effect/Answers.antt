use native.Mathlib.Omega.{arith}
use Rattle.tree.proofs.Laws.{sized, later}
use Rattle.answer.proofs.Flat.{going, going_on, going_end}
use Rattle.flow.proofs.TidyLaws.{tidy_valid}
use Rattle.flow.proofs.Steps.{whole_at, stated_valid, idle_past, idle_next, past_after}
use Rattle.flow.proofs.effect.no_effect.Goals as goal

pub loop-i-init : goal.loop-i-init
loop-i-init c = ((tidy_valid c.requires).part, going _ _)

pub idle-requires : goal.idle-requires
idle-requires c =
    (whole_at c.loop-i.invariant.0 c.loop-i-test.true, stated_valid c.requires c.loop-i.i c.loop-i-test.true)

pub loop-i-preserved : goal.loop-i-preserved
loop-i-preserved c =
    rw c.next-i.ensures (later c.loop-i.invariant.0 (omega (arith, past_after 5 c.args.t.now c.loop-i.i (sized c.loop-i.invariant.0 c.loop-i-test.true))), going_on c.loop-i.invariant.1 _ _ c.idle.ensures (idle_next c.args.strings.now c.loop-i.invariant.0 c.loop-i-test.true))

pub returns : goal.returns
returns c =
    going_end c.loop-i.invariant.1 (idle_past c.args.strings.now c.args.t.now c.loop-i.i c.args.n c.loop-i-test.false)
