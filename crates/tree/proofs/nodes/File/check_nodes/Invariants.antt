use Rattle.std.proofs.Common.{◌≤◌}
use Rattle.tree.specs.Search.{lowest}
use Rattle.tree.specs.code.Stages.{bad6}
use Rattle.tree.proofs.nodes.File.check_nodes.Given as goal

abbrev pub invariant-loop-i : goal.invariant-loop-i
invariant-loop-i l = l.i ≤ lowest l.self.says.nodes (bad6 l.self.t.now l.self.says.nodes l.self.says.values)
