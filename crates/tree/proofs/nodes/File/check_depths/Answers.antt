use borrow.Author.Tests.{lt-ltb, le-ltb, ltb-false}
use Prim.Native.Nat.{◌+◌}
use native.Mathlib.Omega.{arith}
use mathlib.Core.Path.{◌≡◌, refl, sym, ◌∙◌}
use mathlib.Core.Bool.{false}
use lib.ListN.{get_or, length-set}
use Rattle.tree.specs.declared.Refusal.TheVariants.{Depth}
use Rattle.tree.specs.Nodes.{parent_of, depth_of, too_deep}
use Rattle.tree.proofs.Search.{clear_more, lowest_at, lowest_clear}
use Rattle.tree.proofs.Above.{parent_below, depth_zero, depth_next}
use Rattle.tree.proofs.Tables.{table_more}
use Rattle.tree.proofs.nodes.File.check_depths.Goals as goal

pub loop-i-init : goal.loop-i-init
unfolding too_deep
loop-i-init c =
    let z : too_deep c.args.self.now.t.now 0 ≡ false = rw (depth_zero c.args.self.now.t.now) in
    let m = clear_more c.args.self.now.says.nodes 0 (too_deep c.args.self.now.t.now) (omega arith) (omega arith) z in
    (refl, (λ k h. let q : k ≡ 0 = omega arith in rw q (sym (depth_zero c.args.self.now.t.now))), omega (arith, m))

pub bounds-depth-from : goal.bounds-depth-from
bounds-depth-from c =
    let e : c.from.result ≡ parent_of c.args.self.now.t.now c.loop-i.i = c.from.ensures ∙ c.args.self.now.each_parent c.loop-i.i (omega arith) in
    let b = parent_below c.args.self.now.t.now c.loop-i.i (omega arith) in
    omega arith

pub overflow_add-d : goal.overflow_add-d
unfolding too_deep
overflow_add-d c =
    let e : c.from.result ≡ parent_of c.args.self.now.t.now c.loop-i.i = c.from.ensures ∙ c.args.self.now.each_parent c.loop-i.i (omega arith) in
    let b = parent_below c.args.self.now.t.now c.loop-i.i (omega arith) in
    let d = c.loop-i.invariant.1 c.from.result (omega arith) in
    let l = ltb-false 48 (depth_of c.args.self.now.t.now c.from.result) (lowest_clear c.args.self.now.says.nodes (too_deep c.args.self.now.t.now) c.from.result (omega (arith, c.loop-i.invariant.2))) in
    record { fits = omega (arith, d, l) }

pub returns-then-d-gt48 : goal.returns-then-d-gt48
unfolding too_deep
returns-then-d-gt48 c =
    let e : c.from.result ≡ parent_of c.args.self.now.t.now c.loop-i.i = c.from.ensures ∙ c.args.self.now.each_parent c.loop-i.i (omega arith) in
    let b = parent_below c.args.self.now.t.now c.loop-i.i (omega arith) in
    let d : get_or c.loop-i.depth c.from.result 0 ≡ depth_of c.args.self.now.t.now (parent_of c.args.self.now.t.now c.loop-i.i) = rw e (c.loop-i.invariant.1 (parent_of c.args.self.now.t.now c.loop-i.i) (omega arith)) in
    let x = depth_next c.args.self.now.t.now c.loop-i.i (omega arith) in
    lowest_at Depth c.args.self.now.says.nodes c.loop-i.i (too_deep c.args.self.now.t.now) (omega arith) c.loop-i.invariant.2 (lt-ltb 48 (depth_of c.args.self.now.t.now c.loop-i.i) (omega (arith, c.if-d-gt48.true, d, x)))

pub loop-i-preserved : goal.loop-i-preserved
unfolding too_deep
loop-i-preserved c =
    let e : c.from.result ≡ parent_of c.args.self.now.t.now c.loop-i.i = c.from.ensures ∙ c.args.self.now.each_parent c.loop-i.i (omega arith) in
    let b = parent_below c.args.self.now.t.now c.loop-i.i (omega arith) in
    let d : get_or c.loop-i.depth c.from.result 0 ≡ depth_of c.args.self.now.t.now (parent_of c.args.self.now.t.now c.loop-i.i) = rw e (c.loop-i.invariant.1 (parent_of c.args.self.now.t.now c.loop-i.i) (omega arith)) in
    let x = depth_next c.args.self.now.t.now c.loop-i.i (omega arith) in
    let v : get_or c.loop-i.depth c.from.result 0 + 1 ≡ depth_of c.args.self.now.t.now c.loop-i.i = omega (arith, d, x) in (
      length-set c.loop-i.depth c.loop-i.i _ ∙ c.loop-i.invariant.0,
      table_more (depth_of c.args.self.now.t.now) c.loop-i.depth c.loop-i.i _ (omega (arith, c.loop-i.invariant.0)) v c.loop-i.invariant.1,
      clear_more c.args.self.now.says.nodes c.loop-i.i (too_deep c.args.self.now.t.now) (omega arith) c.loop-i.invariant.2 (le-ltb 48 (depth_of c.args.self.now.t.now c.loop-i.i) (omega (arith, c.if-d-gt48.false, v))),
    )
