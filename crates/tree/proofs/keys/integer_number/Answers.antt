use native.Mathlib.Omega.{arith}
use mathlib.Core.Path.{◌∙◌}
use Rattle.tree.specs.Table.{table_of}
use Rattle.tree.specs.code.Numbers.{valued}
use Rattle.tree.proofs.Fields.{offset_low}
use Rattle.tree.proofs.TableLaws.{start_at}
use Rattle.tree.proofs.KeyNumbers.{level_here, lead_here, lead_away}
use Rattle.tree.proofs.Sides.{eq_level}
use Rattle.tree.proofs.keys.integer_number.Goals as goal

pub value_side-requires : goal.value_side-requires
value_side-requires c =
    let t = c.args.t.now in
    let p = c.place-p in
    let e = start_at t c.args.starts.now c.requires.0 p.result (omega (arith, p.ensures.1)) (omega (arith, p.ensures.1)) in
    let l = offset_low t (λ j. omega (arith, c.type_inv.t j)) p.result in
    (omega (arith, e, l, p.ensures.1), c.requires.3)

pub returns-then-is_eq : goal.returns-then-is_eq
returns-then-is_eq c =
    let t = c.args.t.now in
    let p = c.place-p in
    let e = level_here t c.args.starts.now c.requires.0 p.result (omega (arith, p.ensures.1)) (omega (arith, p.ensures.1)) (valued c.args.w) c.value_side.ensures (c.is_eq.ensures ∙ eq_level c.value_side.result) ∙ c.if-is_eq.true in
    (lead_here (table_of t) c.args.v (valued c.args.w) p.result p.ensures.0 e, omega (arith, p.ensures.1))

pub returns-else-is_eq : goal.returns-else-is_eq
returns-else-is_eq c =
    let t = c.args.t.now in
    let p = c.place-p in
    let e = level_here t c.args.starts.now c.requires.0 p.result (omega (arith, p.ensures.1)) (omega (arith, p.ensures.1)) (valued c.args.w) c.value_side.ensures (c.is_eq.ensures ∙ eq_level c.value_side.result) ∙ c.if-is_eq.false in
    (lead_away (table_of t) c.args.v (valued c.args.w) p.result p.ensures.0 e, omega (arith, p.ensures.1))
