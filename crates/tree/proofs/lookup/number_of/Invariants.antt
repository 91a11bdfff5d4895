use Rattle.std.proofs.Common.{◌≡◌, ◌+◌, ◌*◌, ◌≤◌}
use Rattle.tree.specs.Bytes.{node_count, value_count}
use Rattle.tree.specs.Search.{lowest}
use Rattle.tree.specs.Values.{offset}
use Rattle.tree.specs.Table.{table_of, spells}
use Rattle.tree.proofs.lookup.number_of.Given as goal

abbrev pub invariant-loop-v : goal.invariant-loop-v
invariant-loop-v l =
    (l.at ≤ 1048571 + 65538 * l.v) × (l.at ≡ offset l.t (node_count l.t) l.v) × (l.v ≤ lowest (value_count l.t) (spells (table_of l.t) l.name))
