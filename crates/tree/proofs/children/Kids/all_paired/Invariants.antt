use Rattle.std.proofs.Common.{◌≡◌, ◌⊎◌}
use Rattle.tree.specs.code.Kids.{kids_from, paired}
use Rattle.tree.proofs.Walked.{Along}
use Rattle.tree.proofs.children.Kids.all_paired.Given as goal

abbrev pub invariant-loop-c : goal.invariant-loop-c
invariant-loop-c l =
    Along l.self.t.now l.self.end l.c-iterator (λ c. ((l.due ≡ 8) ⊎ (l.due ≡ 4)) × (paired l.self.t.now l.due (kids_from l.self.t.now c l.self.end) ≡ paired l.self.t.now 8 (kids_from l.self.t.now l.self.from l.self.end)))
