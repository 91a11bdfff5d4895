use native.Mathlib.Omega.{arith}
use Prim.Native.Nat.{ℕ}
use mathlib.Core.Logic.{inl, inr}
use mathlib.Core.Path.{sym, ap, ◌∙◌}
use Rattle.std.proofs.Math.Option.{Option, some}
use Rattle.tree.proofs.WholeLaws.{whole_small, whole_none, whole_pointed, whole_large}
use Rattle.tree.proofs.floats.float_of.Goals as goal

pub returns-then-field-lt1023 : goal.returns-then-field-lt1023
returns-then-field-lt1023 c =
    elim c.then-field-lt1023.either [
      | inl h ↦ (sym (whole_small c.args.b c.if-b-eq0.false h), tt)
      | inr h ↦ (sym (whole_none c.args.b h.1), tt)
    ]

pub returns-then-field-le1075 : goal.returns-then-field-le1075
returns-then-field-le1075 c =
    (c.pointed.ensures.0 ∙ sym (whole_pointed c.args.b (omega (arith, c.if-field-lt1023.false)) (omega (arith, c.if-field-le1075.true))), c.pointed.ensures.1)

pub returns-else-field-le1075 : goal.returns-else-field-le1075
returns-else-field-le1075 c =
    (ap {B = Option ℕ} some c.shifted.ensures.0 ∙ sym (whole_large c.args.b (omega (arith, c.if-field-le1075.false)) (omega (arith, c.if-field-gt2046.false))), c.shifted.ensures.1)
