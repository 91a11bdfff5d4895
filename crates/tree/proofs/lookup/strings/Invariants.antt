use Rattle.std.proofs.Common.{◌≡◌, ◌+◌, ◌*◌, ◌≤◌, ◌<◌, ℕ, length, get_or, false}
use Rattle.tree.specs.Bytes.{node_count}
use Rattle.tree.specs.Values.{offset}
use Rattle.tree.specs.Table.{table_of, a_string}
use Rattle.tree.proofs.lookup.strings.Given as goal

abbrev pub invariant-loop-v : goal.invariant-loop-v
invariant-loop-v l =
    (length l.table ≡ 512) × (l.at ≤ 1048571 + 65538 * l.v) × (l.at ≡ offset l.t (node_count l.t) l.v) × ((k : ℕ) → k < l.v → get_or l.table k false ≡ a_string (table_of l.t) k)
