use Rattle.std.proofs.Common.{◌≡◌, ◌+◌, ◌-◌, ◌*◌, ◌≤◌, ◌<◌}
use Rattle.tree.specs.Search.{lowest}
use Rattle.tree.specs.Values.{offset}
use Rattle.tree.specs.code.Stages.{bad5}
use Rattle.tree.proofs.values.check_values.Given as goal

abbrev pub invariant-loop-i : goal.invariant-loop-i
invariant-loop-i l =
    (l.before ≤ l.at) × (l.at ≤ 16395 + 65538 * l.i) × (l.at ≡ offset l.t l.n l.i) × (0 < l.i → l.before ≡ offset l.t l.n (l.i - 1)) × (l.i ≤ lowest l.nv (bad5 l.t l.n))
