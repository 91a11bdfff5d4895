use Rattle.std.proofs.Common.{◌≡◌, length}
use Rattle.tree.specs.code.Stages.{Parents}
use Rattle.tree.proofs.nodes.parents.Given as goal

abbrev pub invariant-loop-i : goal.invariant-loop-i
invariant-loop-i l = (length l.par ≡ 1024) × Parents l.t l.i l.par
