use native.Mathlib.Omega.{arith}
use Prim.Native.Nat.{◌+◌, ℕ}
use mathlib.Core.Path.{refl, sym, ap, ◌∙◌}
use mathlib.Core.Bool.{true, false}
use Rattle.std.proofs.lemmas.Bool.{both_ways}
use Rattle.tree.proofs.Laws.{sized, ended, first}
use Rattle.tree.proofs.Walked.{walk_start, walk_at, walk_on, walk_end}
use Rattle.answer.proofs.Flat.{going, going_on, going_end, added_none, added_as}
use Rattle.flow.specs.Walks.{is_name}
use Rattle.flow.proofs.Steps.{below}
use Rattle.flow.proofs.Reaching.{walked_as, walked_still, walked_two, here_list, here_sides, here_fails, here_stops, each_walked, list_again, each_next, each_past, list_stopped, list_done, side_there, side_absent, side_whole, side_low, side_ends, unreached_some}
use Rattle.flow.proofs.reach.+reaching.Goals as goal

pub each-loop-j-init : goal.each-loop-j-init
each-loop-j-init t c =
    walk_start c.into_iter-j-iterator.ensures.into_iter_gives c.siblings-j-items.ensures c.requires.0 (omega arith, going _ _)

pub each-reachable-requires : goal.each-reachable-requires
each-reachable-requires t c =
    let h = walk_at c.loop-j.invariant c.in-Some.ensures.steps.0 in
    (omega (arith, c.decreases, h.1, h.2.0, ended h.0 h.1), record { part = first h.0 h.1; some = sized h.0 h.1 })

pub each-loop-j-preserved : goal.each-loop-j-preserved
each-loop-j-preserved t c =
    walk_on c.loop-j.invariant c.in-Some.ensures.steps.0 (λ p lt h. (omega (arith, h.0), going_on h.1 _ _ c.reachable.ensures.written (each_next (is_name c.args.fail) p lt)))

pub each-returns : goal.each-returns
each-returns t c =
    let h = walk_end c.loop-j.invariant c.in-None.ensures.steps.0 in
    going_end h.1.1 (each_past (is_name c.args.fail) c.args.t.now c.loop-j.j-iterator.at c.args.e h.0)

pub in_list-loop-j-init : goal.in_list-loop-j-init
in_list-loop-j-init t c =
    walk_start c.into_iter-j-iterator.ensures.into_iter_gives c.siblings-j-items.ensures c.requires.0 (omega arith, going _ _, refl)

pub in_list-reachable-aborts-requires : goal.in_list-reachable-aborts-requires
in_list-reachable-aborts-requires t c =
    let h = walk_at c.loop-j.invariant c.in-Some.ensures.steps.0 in
    (omega (arith, c.decreases, h.1, h.2.0, ended h.0 h.1), record { part = first h.0 h.1; some = sized h.0 h.1 })

pub in_list-loop-j-preserved : goal.in_list-loop-j-preserved
in_list-loop-j-preserved t c =
    walk_on c.loop-j.invariant c.in-Some.ensures.steps.0 (λ p lt h.
    let x = list_again (is_name c.args.fail) p lt c.loop-j.aborts c.if-aborts.false h.1 h.2 c.reachable-aborts.ensures in (omega (arith, h.0), x.0, x.1))

pub in_list-returns-then-aborts : goal.in_list-returns-then-aborts
in_list-returns-then-aborts t c =
    let h = walk_at c.loop-j.invariant c.in-Some.ensures.steps.0 in
    let w = added_as _ (unreached_some c.args.t.now c.in-Some.j c.args.e h.0 h.1) c.put_plainly.ensures in
    rw c.if-aborts.true at (list_stopped (is_name c.args.fail) c.args.t.now c.args.i c.in-Some.j c.args.e c.loop-j.aborts c.if-aborts.true h.2.1 h.2.2 w)

pub in_list-returns : goal.in_list-returns
in_list-returns t c =
    let h = walk_end c.loop-j.invariant c.in-None.ensures.steps.0 in
    list_done (is_name c.args.fail) c.args.t.now c.args.i c.loop-j.j-iterator.at c.args.e c.loop-j.aborts h.0 h.1.1 h.1.2

pub reachable-returns-then-k : goal.reachable-returns-then-k
reachable-returns-then-k t c =
    walked_as c.in_list.ensures (here_list (is_name c.args.fail) c.args.t.now c.args.i (ap (λ (x : ℕ). c.args.i + x) c.size_at.ensures.0) (sym c.kind_at-k.ensures.0 ∙ c.if-k.true))

pub reachable-returns-then-k-2 : goal.reachable-returns-then-k-2
reachable-returns-then-k-2 t c =
    walked_as c.sides.ensures (here_sides (is_name c.args.fail) c.args.t.now c.args.i (ap (λ (x : ℕ). c.args.i + x) c.size_at.ensures.0) (sym c.kind_at-k.ensures.0 ∙ c.if-k-2.true))

pub reachable-returns-then-k-3 : goal.reachable-returns-then-k-3
reachable-returns-then-k-3 t c =
    walked_as (walked_still _ c.is_fail.result) (here_fails (is_name c.args.fail) c.args.t.now c.args.i (ap (λ (x : ℕ). c.args.i + x) c.size_at.ensures.0) (sym c.kind_at-k.ensures.0 ∙ c.if-k-3.true) (c.is_fail.ensures (rw c.size_at.ensures.0 (below c.requires))))

pub reachable-returns-then-stops : goal.reachable-returns-then-stops
reachable-returns-then-stops t c =
    walked_as (walked_still _ true) (here_stops (is_name c.args.fail) c.args.t.now c.args.i c.kind_at-k.ensures.0 (sym c.stops.ensures ∙ c.if-stops.true))

pub reachable-returns-else-stops : goal.reachable-returns-else-stops
reachable-returns-else-stops t c =
    let k = c.kind_at-k.ensures.0 in
    each_walked (is_name c.args.fail) c.args.t.now c.args.i (ap (λ (x : ℕ). c.args.i + x) c.size_at.ensures.0) k (sym c.stops.ensures ∙ c.if-stops.false) (λ z. c.if-k-3.false (k ∙ z)) (λ z. c.if-k.false (k ∙ z)) (λ z. c.if-k-2.false (k ∙ z)) c.each.ensures

pub side-reachable-requires : goal.side-reachable-requires
side-reachable-requires t c =
    let r = c.args.role in
    (omega (arith, c.decreases, side_low r c.requires.0 c.requires.1 c.in-Some.ensures, side_ends r c.requires.0 c.requires.1 c.in-Some.ensures), side_whole r c.requires.0 c.requires.1 c.in-Some.ensures)

pub side-returns-in-Some : goal.side-returns-in-Some
side-returns-in-Some t c =
    walked_as c.reachable.ensures (side_there (is_name c.args.fail) c.args.role c.requires.0 c.requires.1 c.in-Some.ensures)

pub side-returns-in-None : goal.side-returns-in-None
side-returns-in-None t c =
    walked_as (walked_still _ false) (side_absent (is_name c.args.fail) c.args.role c.requires.0 c.in-None.ensures)

pub sides-returns-then-first : goal.sides-returns-then-first
sides-returns-then-first t c = rw c.if-first.true at (walked_two c.side-first.ensures c.side-second.ensures)

pub sides-returns-else-first : goal.sides-returns-else-first
sides-returns-else-first t c = rw c.if-first.false (rw c.if-first.false at (walked_two c.side-first.ensures c.side-second.ensures))
