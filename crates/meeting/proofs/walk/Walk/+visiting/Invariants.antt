use Prim.Native.Nat.{◌+◌, ◌*◌, ◌-◌, ◌≤◌}
use mathlib.Core.List.{map}
use lib.ListN.{drop}
use Rattle.tree.specs.Bytes.{size_at}
use Rattle.tree.specs.Forest.{forest_of}
use Rattle.tree.proofs.Walked.{Walked as Walks}
use Rattle.meeting.specs.Asked.{asked_as, run, at}
use Rattle.meeting.specs.Meant.{meant, number}
use Rattle.meeting.proofs.Walking.{Walking}
use Rattle.meeting.proofs.walk.Walk.+visiting.Given as goal

abbrev pub invariant-node-loop-ask : goal.invariant-node-loop-ask
invariant-node-loop-ask l =
    let t = l.initial.self.t.now in
    Walking l.initial.self l.self (at (run (map number l.plan)) t l.c) (at (run (map number (drop l.ask-index l.plan))) t l.c)

abbrev pub invariant-visit-loop-c : goal.invariant-visit-loop-c
invariant-visit-loop-c l =
    let t = l.initial.self.t.now in
    Walks t l.e l.c-iterator (λ c. (l.i ≤ c) × Walking l.initial.self l.self (asked_as (meant l.fn.first) (forest_of t l.i l.e)) (asked_as (meant l.ask) (forest_of t c l.e)))

abbrev pub decreases-below : goal.decreases-below
decreases-below l = 16 * size_at l.self.now.t.now l.c + 6

abbrev pub decreases-node : goal.decreases-node
decreases-node l = 16 * size_at l.self.now.t.now l.c + 7

abbrev pub decreases-step : goal.decreases-step
decreases-step l = 16 * size_at l.self.now.t.now l.c + 8

abbrev pub decreases-visit : goal.decreases-visit
decreases-visit l = 16 * (l.e - l.i) + 9
