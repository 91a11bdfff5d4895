use Rattle.std.proofs.Common.{◌≡◌, ◌≤◌, ◌<◌, ℕ, length, get_or}
use Rattle.tree.specs.Search.{lowest}
use Rattle.tree.specs.Nodes.{depth_of, too_deep}
use Rattle.tree.proofs.nodes.File.check_depths.Given as goal

abbrev pub invariant-loop-i : goal.invariant-loop-i
invariant-loop-i l =
    (length l.depth ≡ 1024) × ((k : ℕ) → k < l.i → get_or l.depth k 0 ≡ depth_of l.self.t.now k) × (l.i ≤ lowest l.self.says.nodes (too_deep l.self.t.now))
