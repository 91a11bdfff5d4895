use Prim.Native.Nat.{◌≤◌}
use Rattle.tree.specs.code.Part.{Part}
use Rattle.tree.proofs.Walked.{Walked}
use Rattle.answer.proofs.Flat.{Going}
use Rattle.dubious.proofs.Steps.{from_key}
use Rattle.dubious.proofs.Walk.dict.Given as goal

abbrev pub invariant-loop-j : goal.invariant-loop-j
invariant-loop-j l =
    Walked l.self.t.now l.e l.j-iterator (λ j. Part l.self.t.now l.i j × (l.i ≤ j) × (j ≤ l.e)
    × Going l.initial.sheet (from_key l.self.numbers.now l.self.t.now l.i l.i l.e) l.sheet (from_key l.self.numbers.now l.self.t.now l.i j l.e))
