use borrow.Author.Tests.{eq-eqb, ne_eqb}
use native.Mathlib.Omega.{arith}
use mathlib.Core.Path.{◌≡◌, sym}
use mathlib.Core.Bool.{true, false}
use Rattle.tree.specs.code.Stages.{names_of, not_name}
use Rattle.tree.proofs.Search.{clear_here, clear_more, lowest_le}
use Rattle.tree.proofs.ValueLaws.{offset_start, offset_step}
use Rattle.tree.proofs.values.count_names.Goals as goal

pub loop-i-init : goal.loop-i-init
loop-i-init c = (omega arith, sym (offset_start c.args.t.now c.args.n), omega arith)

pub returns-then-byte_at : goal.returns-then-byte_at
unfolding names_of
returns-then-byte_at c =
    let i = c.loop-i.invariant in
    let z : not_name c.args.t.now c.args.n c.loop-i.i ≡ true = rw (← i.1, ← c.byte_at.ensures.0) (simp (ne_eqb _ _ c.if-byte_at.true)) in
    sym (clear_here c.args.nv c.loop-i.i (not_name c.args.t.now c.args.n) (omega arith) i.2 z)

pub loop-i-preserved : goal.loop-i-preserved
loop-i-preserved c =
    let i = c.loop-i.invariant in
    let z : not_name c.args.t.now c.args.n c.loop-i.i ≡ false = rw (← i.1, ← c.byte_at.ensures.0) (simp (eq-eqb _ _ c.if-byte_at.false)) in
    (omega (arith, c.u16_at.ensures.1), offset_step c.args.t.now c.args.n c.loop-i.i c.loop-i.at c.u16_at.result i.1 c.u16_at.ensures.0, clear_more c.args.nv c.loop-i.i (not_name c.args.t.now c.args.n) (omega arith) i.2 z)

pub returns : goal.returns
unfolding names_of
returns c = let l = lowest_le c.args.nv (not_name c.args.t.now c.args.n) in omega arith
