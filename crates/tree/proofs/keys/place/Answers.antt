-- The invariant: halving what is left finds what halving all finds.
use Prim.Native.Nat.{ℕ, ◌+◌, ◌-◌, ◌/◌}
use native.Mathlib.Omega.{arith}
use mathlib.Core.Path.{◌≡◌, sym, ap, ◌∙◌}
use Rattle.tree.specs.Table.{table_of}
use Rattle.tree.specs.code.Halving.{halve}
use Rattle.tree.specs.code.Numbers.{short_of, valued}
use Rattle.tree.proofs.Fields.{offset_low}
use Rattle.tree.proofs.Halving.{halve_up, halve_down, halve_end}
use Rattle.tree.proofs.TableLaws.{start_at}
use Rattle.tree.proofs.KeyNumbers.{short_here}
use Rattle.tree.proofs.Sides.{lt_below}
use Rattle.tree.proofs.keys.place.Goals as goal

pub value_side-requires : goal.value_side-requires
value_side-requires c =
    let t = c.args.t.now in
    let u = c.loop-left.lo + c.loop-left.left / 2 in
    let e = start_at t c.args.starts.now c.requires.0 u (omega arith) (omega arith) in
    let l = offset_low t (λ j. omega (arith, c.type_inv.t j)) u in
    (omega (arith, e, l), c.requires.3)

pub loop-left-preserved-then-is_lt : goal.loop-left-preserved-then-is_lt
loop-left-preserved-then-is_lt c =
    let t = c.args.t.now in
    let w = c.args.w in
    let l = c.loop-left in
    let h = l.left / 2 in
    let e = short_here t c.args.starts.now c.requires.0 (l.lo + h) (omega arith) (omega arith) (valued w) c.value_side.ensures (c.is_lt.ensures ∙ lt_below c.value_side.result) ∙ c.if-is_lt.true in
    let p : l.lo + (h + 1) ≡ l.lo + h + 1 = omega arith in
    let q : l.left - (h + 1) ≡ l.left - h - 1 = omega arith in
    (omega arith, (l.invariant.1.0 - 1, omega arith, rw (p, q) (halve_up l.invariant.1.0 l.lo l.left (short_of (table_of t) (valued w)) (omega arith) l.invariant.1.1 e ∙ l.invariant.1.2)))

pub loop-left-preserved : goal.loop-left-preserved
loop-left-preserved c =
    let t = c.args.t.now in
    let w = c.args.w in
    let l = c.loop-left in
    let e = short_here t c.args.starts.now c.requires.0 (l.lo + l.left / 2) (omega arith) (omega arith) (valued w) c.value_side.ensures (c.is_lt.ensures ∙ lt_below c.value_side.result) ∙ c.if-is_lt.false in
    (omega arith, (l.invariant.1.0 - 1, omega arith, halve_down l.invariant.1.0 l.lo l.left (short_of (table_of t) (valued w)) (omega arith) l.invariant.1.1 e ∙ l.invariant.1.2))

pub returns : goal.returns
returns c =
    let t = c.args.t.now in
    let f = short_of (table_of t) (valued c.args.w) in
    let k = c.loop-left.invariant.1.0 in
    let z : c.loop-left.left ≡ 0 = omega arith in
    (sym (halve_end k c.loop-left.lo f) ∙ (ap (λ (x : ℕ). halve k c.loop-left.lo x f) (sym z) ∙ c.loop-left.invariant.1.2), omega arith)
