use borrow.Author.Tests.{le-ltb}
use Prim.Native.Nat.{◌+◌, ◌-◌}
use native.Mathlib.Omega.{arith}
use mathlib.Core.Path.{◌≡◌, sym, ◌∙◌}
use mathlib.Core.Bool.{true, false}
use Rattle.tree.specs.Values.{offset}
use Rattle.tree.specs.declared.Refusal.TheVariants.{Value}
use Rattle.tree.specs.code.Stages.{bad5}
use Rattle.tree.specs.code.Offsets.{formed_at}
use Rattle.tree.proofs.Search.{clash, clear_more, lowest_at, not_so, not_this}
use Rattle.tree.proofs.Names.{five_form, five_order, five_ok, five_first}
use Rattle.tree.proofs.ValueLaws.{offset_start, offset_step}
use Rattle.tree.proofs.values.check_values.Goals as goal
use Rattle.tree.proofs.values.check_values.Goals.{then-not-formed_at-via-then-not-formed_at, then-not-formed_at-via-else-not-formed_at+then-not-in_order, then-i-gt0, else-i-gt0}

pub loop-i-init : goal.loop-i-init
loop-i-init c =
    (omega arith, omega arith, sym (offset_start c.args.t.now c.args.n), (λ h. absurd (omega arith)), omega arith)

pub returns-then-not-formed_at : goal.returns-then-not-formed_at
returns-then-not-formed_at c =
    let t = c.args.t.now in
    let n = c.args.n in
    let i = c.loop-i.i in
    let f = c.loop-i.invariant.2 in
    let z : bad5 t n i ≡ true = elim c.then-not-formed_at.branch [
      | then-not-formed_at-via-then-not-formed_at w ↦ five_form t n i (rw f at (sym c.formed_at.ensures ∙ w.if-not-formed_at.true))
      | then-not-formed_at-via-else-not-formed_at+then-not-in_order w ↦ elim w.if-i-gt0.branch [
        | then-i-gt0 v ↦
            five_order t n i (rw f at (sym c.formed_at.ensures ∙ w.if-not-formed_at.false)) v.if-i-gt0.true
            (rw (c.loop-i.invariant.3 v.if-i-gt0.true, f) at (sym v.in_order.ensures ∙ not_this _ (sym v.value-is ∙ w.if-not-in_order.true)))
        | else-i-gt0 v ↦ clash (sym v.value-is ∙ w.if-not-in_order.true) (le-ltb 0 i v.if-i-gt0.false)
      ]
    ] in
    lowest_at Value c.args.nv i (bad5 t n) (omega arith) c.loop-i.invariant.4 z

pub loop-i-preserved : goal.loop-i-preserved
loop-i-preserved c =
    let t = c.args.t.now in
    let n = c.args.n in
    let i = c.loop-i.i in
    let f = c.loop-i.invariant.2 in
    let q : i + 1 - 1 ≡ i = omega arith in
    let z : formed_at t (offset t n i) ≡ true = rw f at (sym c.formed_at.ensures ∙ c.if-not-formed_at.false) in
    let y : bad5 t n i ≡ false = elim c.if-i-gt0.branch [
      | then-i-gt0 v ↦ five_ok t n i z (rw (c.loop-i.invariant.3 v.if-i-gt0.true, f) at (sym v.in_order.ensures ∙ not_so _ (sym v.value-is ∙ c.if-not-in_order.false)))
      | else-i-gt0 v ↦ five_first t n i z v.if-i-gt0.false
    ] in
    (omega arith, omega (arith, c.u16_at.ensures.1), offset_step t n i c.loop-i.at c.u16_at.result f c.u16_at.ensures.0, (λ h. rw q f), clear_more c.args.nv i (bad5 t n) (omega arith) c.loop-i.invariant.4 y)
