use mathlib.Core.Path.{◌≡◌}
use Rattle.tree.specs.code.Find.{child_of}
use Rattle.tree.proofs.Walked.{Along}
use Rattle.tree.proofs.children.child_of.Given as goal

abbrev pub invariant-loop-i : goal.invariant-loop-i
invariant-loop-i l = Along l.t l.e l.i-iterator (λ i. child_of l.t l.role i l.e ≡ child_of l.t l.role l.from l.e)
