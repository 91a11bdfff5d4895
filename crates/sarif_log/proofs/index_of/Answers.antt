use native.Mathlib.Omega.{arith}
use mathlib.Core.Path.{◌∙◌}
use lib.ListN.{take, get_or, length-take}
use Rattle.sarif_log.proofs.Turns.{nonzeros_most, counts_on, index_met}
use borrow.Author.Tests.{lt-ltb, le-ltb}
use Rattle.sarif_log.proofs.index_of.Goals as goal
use Rattle.sarif_log.proofs.index_of.Goals.{then-count-ne0, else-count-ne0}

pub overflow_add-index : goal.overflow_add-index
overflow_add-index c =
    let l = c.loop-count in
    let y = c.args.tally.now in
    let e = take c.min-before.result y in
    omega (arith, l.invariant, nonzeros_most e l.count-index, length-take c.min-before.result y)

pub loop-count-preserved : goal.loop-count-preserved
loop-count-preserved c =
    let l = c.loop-count in
    let e = take c.min-before.result c.args.tally.now in
    elim c.if-count-ne0.branch [
      | then-count-ne0 w ↦ counts_on e l.count-index l.index _ (omega arith) l.invariant (w.index-is ∙ rw (lt-ltb 0 (get_or e l.count-index 0) (omega arith)))
      | else-count-ne0 w ↦ counts_on e l.count-index l.index _ (omega arith) l.invariant (w.index-is ∙ rw (le-ltb 0 (get_or e l.count-index 0) (omega arith)) (omega arith))
    ]

pub returns : goal.returns
returns c =
    index_met c.args.tally.now c.args.code c.min-before.result c.loop-count.count-index c.loop-count.index (omega arith) (rw c.saturating_sub.ensures at c.min-before.ensures) c.loop-count-test.false c.loop-count.invariant
