-- `meet` meets its contract. Assumes nothing.
use Rattle.meeting.proofs.Steps.{meet_first, meet_next, meet_ended, meet_done}
use Rattle.meeting.proofs.meet.Goals as goal

pub loop-init : goal.loop-init
loop-init c =
    (c.place_at-place.ensures.low, meet_first c.args.t.now c.args.n c.args.i c.args.w.now c.place_at-place.result c.bucket.ensures.0 c.place_at-place.ensures.tells)

pub returns-in_default : goal.returns-in_default
returns-in_default c =
    meet_ended c.args.t.now c.args.n c.args.i c.loop.w _ c.loop.place c.loop.invariant.1 c.in_default.is

pub loop-preserved : goal.loop-preserved
loop-preserved c =
    (c.place_at-place-in-loop.ensures.low, meet_next c.args.t.now c.args.n c.args.i c.loop.w c.loop.counter c.in-Some.k c.place_at-place-in-loop.result c.loop.invariant.1 c.loop-test.true c.in-Some.is c.touch.ensures c.place_at-place-in-loop.ensures.tells)

pub returns : goal.returns
returns c = meet_done c.args.t.now c.args.n c.args.i c.loop.w c.loop.counter _ c.loop.invariant.1 c.loop-test.false
