use lib.Dec.{eqb}
use Rattle.tree.proofs.Walked.{Along}
use Rattle.rules.specs.Order.{fail_called}
use Rattle.fail.proofs.Laws.{Gone}
use Rattle.fail.proofs.is_fail.Given as goal

abbrev pub invariant-loop-j : goal.invariant-loop-j
invariant-loop-j l = Along l.t l.e l.rest (Gone (fail_called (λ v. eqb v l.fail)) l.t l.i l.e)
