use Rattle.std.proofs.Common.{◌≡◌, ◌+◌, ◌*◌, ◌≤◌, ◌<◌, ℕ, length, get_or}
use lib.Dec.{ltb}
use Rattle.tree.specs.Bytes.{node_count, pick}
use Rattle.tree.specs.Values.{offset}
use Rattle.tree.proofs.lookup.starts.Given as goal

abbrev pub invariant-loop-v : goal.invariant-loop-v
invariant-loop-v l =
    (length l.table ≡ 512) × (l.at ≤ 1048571 + 65538 * l.v) × (l.at ≡ offset l.t (node_count l.t) l.v) × ((k : ℕ) → k < 512 → get_or l.table k 0 ≡ pick (ltb k l.v) (offset l.t (node_count l.t) k) 0)
