use Rattle.std.proofs.Common.{◌≡◌, ◌+◌, ◌-◌, ◌*◌}
use Rattle.tree.specs.Table.{listed_from, is_global}
use Rattle.tree.proofs.lookup.is_global.Given as goal

abbrev pub invariant-loop-i : goal.invariant-loop-i
invariant-loop-i l = listed_from (l.count - l.i) l.t (l.from + 2 * l.i) l.v ≡ is_global l.t l.v
