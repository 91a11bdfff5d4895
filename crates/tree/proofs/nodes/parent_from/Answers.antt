use native.Mathlib.Omega.{arith}
use mathlib.Core.Path.{◌≡◌, sym, ◌∙◌}
use Rattle.tree.specs.Nodes.{parent_of}
use Rattle.tree.proofs.Above.{parent_below, jump, found, from_root, from_last}
use Rattle.tree.proofs.nodes.parent_from.Goals as goal

pub loop-p-init : goal.loop-p-init
loop-p-init c =
    (omega (arith, c.saturating_sub-p.ensures), λ h. rw c.saturating_sub-p.ensures (from_last c.args.t.now c.args.i h))

pub loop-p-smaller : goal.loop-p-smaller
loop-p-smaller c =
    let e : c.from-p.result ≡ parent_of c.args.t.now c.loop-p.p = c.from-p.ensures ∙ c.requires.1 c.loop-p.p (omega arith) in
    let b = parent_below c.args.t.now c.loop-p.p (omega arith) in
    omega arith

pub loop-p-preserved : goal.loop-p-preserved
loop-p-preserved c =
    let e : c.from-p.result ≡ parent_of c.args.t.now c.loop-p.p = c.from-p.ensures ∙ c.requires.1 c.loop-p.p (omega arith) in
    let b = parent_below c.args.t.now c.loop-p.p (omega arith) in
    let j = jump c.args.t.now c.args.i c.loop-p.p (omega arith) (omega arith) (rw c.size_at.ensures.0 at c.if-p-size_at.true) in
    (omega arith, λ h. rw e (j ∙ c.loop-p.invariant.1 h))

pub returns-else-p-size_at : goal.returns-else-p-size_at
returns-else-p-size_at c =
    let f = found c.args.t.now c.args.i c.loop-p.p (rw c.size_at.ensures.0 at c.if-p-size_at.false) in
    (sym f ∙ c.loop-p.invariant.1 (omega arith), omega arith)

pub returns-after-loop-p : goal.returns-after-loop-p
returns-after-loop-p c =
    let q : c.loop-p.p ≡ 0 = omega arith in
    (rw q (from_root c.args.t.now c.args.i (rw q at c.loop-p.invariant.1)), omega arith)
