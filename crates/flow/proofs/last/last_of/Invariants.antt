use Rattle.tree.proofs.Walked.{Walked}
use Rattle.flow.proofs.LastLaws.{Looked}
use Rattle.flow.proofs.last.last_of.Given as goal

abbrev pub invariant-loop-j : goal.invariant-loop-j
invariant-loop-j l = Walked l.t l.e l.j-iterator (Looked l.t l.role l.i l.e l.last)
