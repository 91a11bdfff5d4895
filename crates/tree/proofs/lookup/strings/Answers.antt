use native.Mathlib.Omega.{arith}
use mathlib.Core.Path.{◌∙◌}
use mathlib.Core.Bool.{Bool, false}
use lib.ListN.{length-set, length-replicate}
use Rattle.tree.specs.Bytes.{node_count}
use Rattle.tree.specs.Table.{table_of, a_string}
use Rattle.tree.proofs.Tables.{entry_more}
use Rattle.tree.proofs.ValueLaws.{offset_start, offset_step}
use Rattle.tree.proofs.lookup.strings.Goals as goal

pub loop-v-init : goal.loop-v-init
loop-v-init c =
    let t = c.args.t.now in
    (length-replicate {A = Bool} 512 false, omega (arith, c.node_count.ensures.1), rw (offset_start t (node_count t)) (omega (arith, c.node_count.ensures.0)), λ k h. absurd (omega arith))

pub loop-v-preserved : goal.loop-v-preserved
loop-v-preserved c =
    let l = c.loop-v in
    let t = c.args.t.now in
    let i = l.invariant in
    (length-set l.table l.v c.string_at.result ∙ i.0, omega (arith, c.u16_at.ensures.1, i.1), offset_step t (node_count t) l.v l.at c.u16_at.result i.2 c.u16_at.ensures.0, entry_more false (a_string (table_of t)) l.table l.v c.string_at.result (omega (arith, i.0)) c.string_at.ensures i.3)
