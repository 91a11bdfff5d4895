use mathlib.Core.Path.{◌≡◌}
use lib.ListN.{take}
use Rattle.sarif_log.specs.Log.{nonzeros}
use Rattle.sarif_log.proofs.index_of.Given as goal

abbrev pub invariant-loop-count : goal.invariant-loop-count
invariant-loop-count l = l.index ≡ nonzeros (take l.count-index l.earlier)
