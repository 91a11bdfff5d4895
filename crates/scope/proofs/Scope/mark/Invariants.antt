use mathlib.Core.Path.{◌≡◌}
use Rattle.scope.specs.Words.{marks_of}
use Rattle.scope.proofs.Scope.mark.Given as goal

abbrev pub invariant-loop-j : goal.invariant-loop-j
invariant-loop-j l = marks_of l.t l.self.entries l.i l.initial.w l.fn.at.from l.fn.at.to ≡ marks_of l.t l.self.entries l.i l.w l.j l.fn.at.to
