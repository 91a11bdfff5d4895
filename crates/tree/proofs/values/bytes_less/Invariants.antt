use Rattle.std.proofs.Common.{◌≡◌, ◌+◌, ◌-◌}
use Rattle.tree.specs.code.Offsets.{bytes_less}
use Rattle.tree.proofs.values.bytes_less.Given as goal

abbrev pub invariant-loop-i : goal.invariant-loop-i
invariant-loop-i l = bytes_less (l.k - l.i) l.t (l.a + l.i) (l.b + l.i) ≡ bytes_less l.k l.t l.a l.b
