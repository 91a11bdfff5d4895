use Prim.Native.Nat.{◌-◌}
use mathlib.Core.Path.{◌≡◌}
use Rattle.meeting.specs.Words.{emptied}
use Rattle.meeting.proofs.emptied.Given as goal

abbrev pub invariant-loop-k : goal.invariant-loop-k
invariant-loop-k l = l.w ≡ emptied l.initial.w (l.k - 2048)
