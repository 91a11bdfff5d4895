use borrow.Author.Tests.{le-ltb}
use Prim.Native.Nat.{◌<◌}
use native.Mathlib.Omega.{arith}
use Rattle.tree.specs.Bytes.{value_count}
use Rattle.tree.proofs.TableLaws.{at_table, at_past}
use Rattle.tree.proofs.lookup.string_at.Goals as goal

pub returns-then-v-value_count : goal.returns-then-v-value_count
returns-then-v-value_count c =
    let t = c.args.t.now in
    let h : c.args.v < value_count t = omega (arith, c.value_count.ensures.0, c.if-v-value_count.true) in
    rw (at_table t c.args.v h, ← c.requires.1, ← c.byte_at.ensures.0)

pub returns-else-v-value_count : goal.returns-else-v-value_count
returns-else-v-value_count c =
    rw (le-ltb c.args.v c.value_count.result c.if-v-value_count.false) (simp (at_past c.args.t.now c.args.v (omega (arith, c.value_count.ensures.0, c.if-v-value_count.false))))
