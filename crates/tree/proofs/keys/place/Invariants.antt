use Prim.Native.Nat.{ℕ, ◌+◌, ◌≤◌}
use mathlib.Core.Path.{◌≡◌}
use Rattle.tree.specs.Table.{table_of}
use Rattle.tree.specs.code.Halving.{halve, halved}
use Rattle.tree.specs.code.Numbers.{short_of, valued}
use Rattle.tree.proofs.keys.place.Given as goal

abbrev pub invariant-loop-left : goal.invariant-loop-left
invariant-loop-left l = (l.lo + l.left ≤ l.n) × ((k : ℕ) × (l.left ≤ k) × (halve k l.lo l.left (short_of (table_of l.t) (valued l.w)) ≡ halved l.n (short_of (table_of l.t) (valued l.w))))

abbrev pub decreases-loop-left : goal.decreases-loop-left
decreases-loop-left l = l.left
