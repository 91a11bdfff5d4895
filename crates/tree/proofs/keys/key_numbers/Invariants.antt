use Prim.Native.Nat.{ℕ, ◌<◌}
use mathlib.Core.Path.{◌≡◌}
use lib.Dec.{ltb}
use lib.ListN.{length, get_or}
use Rattle.tree.specs.Bytes.{pick}
use Rattle.tree.specs.Table.{table_of}
use Rattle.tree.specs.code.Numbers.{key_number}
use Rattle.tree.proofs.keys.key_numbers.Given as goal

abbrev pub invariant-loop-v : goal.invariant-loop-v
invariant-loop-v l = (length l.keys ≡ 512) × ((k : ℕ) → k < 512 → get_or l.keys k 0 ≡ pick (ltb k l.v) (key_number l.mode (table_of l.t) k) k)
