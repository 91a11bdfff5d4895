use Prim.Native.Nat.{◌+◌, ◌*◌, ◌-◌}
use Rattle.tree.specs.Bytes.{size_at}
use Rattle.flow.proofs.redundant.+checking.Given as goal

abbrev pub decreases-check : goal.decreases-check
decreases-check l = 3 * size_at l.t.now l.i

abbrev pub decreases-last : goal.decreases-last
decreases-last l = 3 * (l.e - l.i) + 1

abbrev pub decreases-sides : goal.decreases-sides
decreases-sides l = 3 * (l.e - l.i) + 2
