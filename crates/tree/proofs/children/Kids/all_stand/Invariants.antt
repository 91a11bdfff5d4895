use mathlib.Core.Path.{◌≡◌}
use Rattle.tree.specs.code.Kids.{kids_from, kids_stand}
use Rattle.tree.proofs.Walked.{Along}
use Rattle.tree.proofs.children.Kids.all_stand.Given as goal

abbrev pub invariant-loop-c : goal.invariant-loop-c
invariant-loop-c l =
    Along l.self.t.now l.self.end l.c-iterator (λ c. kids_stand l.self.t.now l.k (kids_from l.self.t.now c l.self.end) ≡ kids_stand l.self.t.now l.k (kids_from l.self.t.now l.self.from l.self.end))
