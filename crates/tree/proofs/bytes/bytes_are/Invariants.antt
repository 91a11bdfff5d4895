use Rattle.std.proofs.Common.{◌≡◌, ◌+◌, ◌-◌, length}
use Rattle.std.proofs.Math.ListN.{drop}
use Rattle.tree.specs.Bytes.{same_bytes, bytes_from}
use Rattle.tree.proofs.bytes.bytes_are.Given as goal

abbrev pub invariant-loop-i : goal.invariant-loop-i
invariant-loop-i l = same_bytes (bytes_from (length l.name - l.i) l.t (l.o + l.i)) (drop l.i l.name) ≡ same_bytes (bytes_from (length l.name) l.t l.o) l.name
