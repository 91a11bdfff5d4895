use Prim.Native.Nat.{◌+◌, ◌*◌, ◌-◌, ◌≤◌}
use mathlib.Core.Path.{◌≡◌}
use Rattle.tree.specs.Bytes.{size_at}
use Rattle.tree.specs.Forest.{forest_of}
use Rattle.tree.proofs.Walked.{Walked as Walks}
use Rattle.rules.specs.Flow.{reached, in_list as in_a_list, one_by_one as each_one}
use Rattle.answer.proofs.Flat.{Going}
use Rattle.flow.specs.Walks.{is_name, left}
use Rattle.flow.proofs.reach.+reaching.Given as goal

abbrev pub invariant-each-loop-j : goal.invariant-each-loop-j
invariant-each-loop-j l =
    Walks l.t l.e l.j-iterator (λ j. (l.i ≤ j) × Going l.initial.sheet (reached (is_name l.fail) each_one (forest_of l.t l.i l.e)).recs l.sheet (reached (is_name l.fail) each_one (forest_of l.t j l.e)).recs)

abbrev pub invariant-in_list-loop-j : goal.invariant-in_list-loop-j
invariant-in_list-loop-j l =
    Walks l.t l.e l.j-iterator (λ j. (l.i ≤ j) × Going l.initial.sheet (reached (is_name l.fail) in_a_list (forest_of l.t l.i l.e)).recs l.sheet (left (is_name l.fail) l.aborts (forest_of l.t j l.e)).recs
    × ((left (is_name l.fail) l.aborts (forest_of l.t j l.e)).stops ≡ (reached (is_name l.fail) in_a_list (forest_of l.t l.i l.e)).stops))

abbrev pub decreases-each : goal.decreases-each
decreases-each l = 4 * (l.e - l.i) + 1

abbrev pub decreases-in_list : goal.decreases-in_list
decreases-in_list l = 4 * (l.e - l.i) + 1

abbrev pub decreases-reachable : goal.decreases-reachable
decreases-reachable l = 4 * size_at l.t.now l.i

abbrev pub decreases-side : goal.decreases-side
decreases-side l = 4 * (l.e - l.i) + 1

abbrev pub decreases-sides : goal.decreases-sides
decreases-sides l = 4 * (l.e - l.i) + 2
