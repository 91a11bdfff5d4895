use lib.ListN.{drop}
use Rattle.page.proofs.Going.{Adding}
use Rattle.page.proofs.Writer.one_by_one.Given as goal

abbrev pub invariant-loop-b : goal.invariant-loop-b
invariant-loop-b l = Adding l.initial.self l.self l.b-index (drop l.b-index l.s) l.s
