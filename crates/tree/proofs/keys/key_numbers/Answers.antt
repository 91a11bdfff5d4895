use native.Mathlib.Omega.{arith}
use mathlib.Core.Path.{◌∙◌}
use borrow.Author.Tests.{le-ltb}
use lib.ListN.{length-set}
use Rattle.tree.specs.Bytes.{value_count}
use Rattle.tree.specs.Table.{table_of}
use Rattle.tree.specs.code.Numbers.{key_number}
use Rattle.tree.proofs.KeyNumbers.{key_past_own}
use Rattle.tree.proofs.Tables.{filled_more, filled_all}
use Rattle.tree.proofs.keys.key_numbers.Goals as goal

pub loop-v-init : goal.loop-v-init
loop-v-init c = let own = c.own_numbers-keys.ensures in (own.long, λ k h. rw (le-ltb k 0 (omega arith)) (own.at_each k h))

pub loop-v-preserved : goal.loop-v-preserved
loop-v-preserved c =
    let l = c.loop-v in
    (length-set l.keys l.v c.key_at.result ∙ l.invariant.0, filled_more 512 (key_number c.args.mode (table_of c.args.t.now)) (λ k. k) l.keys l.v c.key_at.result (omega (arith, l.invariant.0, c.few_values-v-end.ensures)) c.key_at.ensures.0 l.invariant.1)

pub returns : goal.returns
returns c =
    let t = c.args.t.now in
    let m = c.args.mode in
    let l = c.loop-v in
    let few = c.few_values-v-end.ensures in
    λ k h. filled_all 512 (value_count t) (key_number m (table_of t)) (λ k. k) l.keys l.v (omega (arith, few)) (omega (arith, few)) l.invariant.1 k h ∙ key_past_own t m k
