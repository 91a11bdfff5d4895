use mathlib.Core.Path.{◌≡◌}
use Rattle.meeting.specs.Words.{linked}
use Rattle.meeting.proofs.linked.Given as goal

abbrev pub invariant-loop-k : goal.invariant-loop-k
invariant-loop-k l = l.w ≡ linked l.t l.initial.w l.k
