use native.Mathlib.Omega.{arith}
use Prim.Native.Nat.{◌<◌}
use mathlib.Core.Path.{◌≡◌, sym, ◌∙◌}
use mathlib.Core.Bool.{true, false}
use Rattle.tree.specs.Bytes.{node_count, value_count}
use Rattle.tree.specs.Table.{table_of, spells}
use Rattle.tree.specs.code.Numbers.{number_named}
use Rattle.tree.proofs.Search.{clear_here, clear_more, lowest_le}
use Rattle.tree.proofs.TableLaws.{at_table, below_found, below_none}
use Rattle.tree.proofs.ValueLaws.{offset_start, offset_step}
use Rattle.tree.proofs.lookup.number_of.Goals as goal

pub loop-v-init : goal.loop-v-init
loop-v-init c =
    (omega (arith, c.node_count.ensures.1), rw (offset_start c.args.t.now (node_count c.args.t.now)) (omega (arith, c.node_count.ensures.0)), omega arith)

pub returns-then-spelled_at : goal.returns-then-spelled_at
unfolding number_named
returns-then-spelled_at c =
    let t = c.args.t.now in
    let f = spells (table_of t) c.args.name.now in
    let v = c.loop-v.v in
    let h : v < value_count t = omega (arith, c.value_count-v-end.ensures.0, c.loop-v-test.true) in
    let z : f v ≡ true = rw (at_table t v h, ← c.loop-v.invariant.1) (sym c.spelled_at.ensures ∙ c.if-spelled_at.true) in
    sym (below_found (value_count t) v 65536 f (clear_here (value_count t) v f h c.loop-v.invariant.2 z) h)

pub loop-v-preserved : goal.loop-v-preserved
loop-v-preserved c =
    let t = c.args.t.now in
    let f = spells (table_of t) c.args.name.now in
    let v = c.loop-v.v in
    let h : v < value_count t = omega (arith, c.value_count-v-end.ensures.0, c.loop-v-test.true) in
    let z : f v ≡ false = rw (at_table t v h, ← c.loop-v.invariant.1) (sym c.spelled_at.ensures ∙ c.if-spelled_at.false) in
    (omega (arith, c.u16_at.ensures.1), offset_step t (node_count t) v c.loop-v.at c.u16_at.result c.loop-v.invariant.1 c.u16_at.ensures.0, clear_more (value_count t) v f h c.loop-v.invariant.2 z)

pub returns : goal.returns
unfolding number_named
returns c =
    let t = c.args.t.now in
    let f = spells (table_of t) c.args.name.now in
    let l = lowest_le (value_count t) f in
    sym (below_none (value_count t) 65536 f (omega (arith, l, c.loop-v.invariant.2, c.value_count-v-end.ensures.0, c.loop-v-test.false)))
