use Prim.Native.Nat.{ℕ, ◌<◌}
use mathlib.Core.Path.{◌≡◌}
use lib.ListN.{length, get_or}
use Rattle.tree.proofs.keys.own_numbers.Given as goal

abbrev pub invariant-loop-v : goal.invariant-loop-v
invariant-loop-v l = (length l.keys ≡ 512) × ((k : ℕ) → k < l.v → get_or l.keys k 0 ≡ k)
