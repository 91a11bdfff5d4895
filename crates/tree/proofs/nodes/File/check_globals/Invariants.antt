use Rattle.std.proofs.Common.{◌≡◌, ◌-◌, ◌≤◌, ◌<◌}
use Rattle.tree.specs.Search.{lowest}
use Rattle.tree.specs.code.Stages.{bad9, global_at}
use Rattle.tree.proofs.nodes.File.check_globals.Given as goal

abbrev pub invariant-loop-i : goal.invariant-loop-i
invariant-loop-i l =
    (0 < l.i → l.before ≡ global_at l.self.t.now l.self.says.nodes l.self.says.values (l.i - 1)) × (l.i ≤ lowest l.count (bad9 l.self.t.now l.self.says.nodes l.self.says.values))
