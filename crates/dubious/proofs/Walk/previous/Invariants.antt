use Rattle.tree.proofs.Walked.{Walked}
use Rattle.dubious.proofs.Steps.{Scanned}
use Rattle.dubious.proofs.Walk.previous.Given as goal

abbrev pub invariant-loop-m : goal.invariant-loop-m
invariant-loop-m l = Walked l.self.t.now l.j l.m-iterator (Scanned l.self.numbers.now l.self.t.now l.j l.i l.old)
