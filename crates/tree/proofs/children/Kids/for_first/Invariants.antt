use mathlib.Core.Path.{◌≡◌}
use Rattle.tree.specs.code.Kids.{kids_from, kids_for_first}
use Rattle.tree.proofs.Walked.{Along}
use Rattle.tree.proofs.children.Kids.for_first.Given as goal

abbrev pub invariant-loop-c : goal.invariant-loop-c
invariant-loop-c l =
    Along l.self.t.now l.self.end l.c-iterator (λ c. kids_for_first l.self.t.now (kids_from l.self.t.now c l.self.end) ≡ kids_for_first l.self.t.now (kids_from l.self.t.now l.self.from l.self.end))
