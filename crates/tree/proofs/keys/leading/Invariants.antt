use Prim.Native.Nat.{◌+◌, ◌-◌, ◌<◌}
use mathlib.Core.Path.{◌≡◌}
use Rattle.tree.specs.Bytes.{bytes_from}
use Rattle.tree.specs.Values.{magnitude, onward}
use Rattle.tree.proofs.keys.leading.Given as goal

abbrev pub invariant-loop-i : goal.invariant-loop-i
invariant-loop-i l = (l.a < 1152921504606847232) × (onward l.a (bytes_from (l.k - l.i) l.t (l.o + l.i)) ≡ magnitude (bytes_from l.k l.t l.o))
