use lib.Dec.{eqb}
use Rattle.tree.proofs.Walked.{Along}
use Rattle.rules.specs.Order.{fail_named}
use Rattle.fail.proofs.Laws.{Gone}
use Rattle.fail.proofs.names_fail.Given as goal

abbrev pub invariant-loop-j : goal.invariant-loop-j
invariant-loop-j l = Along l.t l.e l.j-iterator (Gone (fail_named (λ v. eqb v l.fail)) l.t l.i l.e)
