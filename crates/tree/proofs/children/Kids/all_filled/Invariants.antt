use Rattle.std.proofs.Common.{◌≡◌, true}
use Rattle.tree.specs.code.Kids.{kids_from, kids_filled}
use Rattle.tree.proofs.children.Kids.all_filled.Given as goal

abbrev pub invariant-loop-r : goal.invariant-loop-r
invariant-loop-r l = kids_filled l.r l.self.t.now l.k (kids_from l.self.t.now l.self.from l.self.end) ≡ true
