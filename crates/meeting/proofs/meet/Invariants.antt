use Prim.Native.Nat.{◌-◌, ◌<◌}
use mathlib.Core.Path.{◌≡◌}
use Rattle.std.proofs.Common.{IfSome}
use Rattle.meeting.specs.Words.{along, meet_words, word_of}
use Rattle.meeting.proofs.meet.Given as goal

abbrev pub invariant-loop : goal.invariant-loop
invariant-loop l = IfSome l.place (λ p. p < 65535) × (meet_words l.t l.n l.initial.w l.i ≡ along (l.n - l.counter) l.t l.w (word_of l.place) l.i)
