use Prim.Native.Nat.{◌+◌, ◌≤◌}
use mathlib.Core.Path.{◌≡◌}
use Rattle.tree.specs.code.Kids.{kids_from, of_role}
use Rattle.tree.proofs.Walked.{Along}
use Rattle.tree.proofs.children.Kids.of_role.Given as goal

abbrev pub invariant-loop-c : goal.invariant-loop-c
invariant-loop-c l =
    Along l.self.t.now l.self.end l.c-iterator (λ c. (l.m ≤ c) × (l.m + of_role l.self.t.now l.r (kids_from l.self.t.now c l.self.end) ≡ of_role l.self.t.now l.r (kids_from l.self.t.now l.self.from l.self.end)))
