use Rattle.std.proofs.Common.{◌≡◌, ◌+◌, ◌*◌, ◌≤◌}
use Rattle.tree.specs.Search.{lowest}
use Rattle.tree.specs.Values.{offset}
use Rattle.tree.specs.code.Stages.{not_name}
use Rattle.tree.proofs.values.count_names.Given as goal

abbrev pub invariant-loop-i : goal.invariant-loop-i
invariant-loop-i l = (l.at ≤ 16395 + 65538 * l.i) × (l.at ≡ offset l.t l.n l.i) × (l.i ≤ lowest l.nv (not_name l.t l.n))
