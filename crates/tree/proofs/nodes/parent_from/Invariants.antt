use Rattle.std.proofs.Common.{◌≡◌, ◌+◌, ◌-◌, ◌≤◌, ◌<◌}
use Rattle.tree.specs.Nodes.{parent_of, parent_in}
use Rattle.tree.proofs.nodes.parent_from.Given as goal

abbrev pub invariant-loop-p : goal.invariant-loop-p
invariant-loop-p l = (l.p ≤ l.i - 1) × (0 < l.i → parent_in l.t l.i (l.p + 1) ≡ parent_of l.t l.i)

abbrev pub decreases-loop-p : goal.decreases-loop-p
decreases-loop-p l = l.p
