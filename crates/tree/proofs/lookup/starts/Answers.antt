use native.Mathlib.Omega.{arith}
use Prim.Native.Nat.{ℕ}
use mathlib.Core.Path.{◌∙◌}
use lib.ListN.{length-set, length-replicate}
use borrow.Author.Tests.{le-ltb}
use Rattle.tree.specs.Bytes.{node_count}
use Rattle.tree.specs.Values.{offset}
use Rattle.tree.proofs.Tables.{filled_more, zeros_none}
use Rattle.tree.proofs.ValueLaws.{offset_start, offset_step}
use Rattle.tree.proofs.lookup.starts.Goals as goal

pub loop-v-init : goal.loop-v-init
loop-v-init c =
    let t = c.args.t.now in
    (length-replicate {A = ℕ} 512 0, omega (arith, c.node_count.ensures.1), rw (offset_start t (node_count t)) (omega (arith, c.node_count.ensures.0)), λ k h. rw (le-ltb k 0 (omega arith)) (zeros_none 512 k))

pub loop-v-preserved : goal.loop-v-preserved
loop-v-preserved c =
    let l = c.loop-v in
    let t = c.args.t.now in
    let i = l.invariant in
    (length-set l.table l.v l.at ∙ i.0, omega (arith, c.u16_at.ensures.1, i.1), offset_step t (node_count t) l.v l.at c.u16_at.result i.2 c.u16_at.ensures.0, filled_more 512 (λ k. offset t (node_count t) k) (λ k. 0) l.table l.v l.at (omega (arith, i.0, c.few_values-v-end.ensures)) i.2 i.3)
