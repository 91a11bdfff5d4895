use Rattle.std.proofs.Common.{◌≤◌}
use Rattle.tree.specs.Search.{lowest}
use Rattle.tree.specs.code.Kids.{bad7}
use Rattle.tree.proofs.children.check_children.Given as goal

abbrev pub invariant-loop-i : goal.invariant-loop-i
invariant-loop-i l = l.i ≤ lowest l.n (bad7 l.t l.n)
