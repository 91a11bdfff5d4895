use Rattle.std.proofs.Common.{◌≡◌, ◌+◌, ◌*◌, ◌≤◌}
use Rattle.tree.specs.Values.{offset}
use Rattle.tree.proofs.values.offset_of.Given as goal

abbrev pub invariant-loop-i : goal.invariant-loop-i
invariant-loop-i l = (l.at ≤ 11 + 16 * l.n + 65538 * l._i) × (l.at ≡ offset l.t l.n l._i)
