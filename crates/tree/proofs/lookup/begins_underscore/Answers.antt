use borrow.Author.Tests.{eq-eqb, ne_eqb}
use Prim.Native.Nat.{ℕ, ◌+◌, ◌<◌}
use native.Mathlib.Omega.{arith}
use mathlib.Core.Path.{◌≡◌, sym, ap, ◌∙◌}
use mathlib.Core.List.{List}
use mathlib.Core.Bool.{Bool, ◌&&◌}
use lib.Dec.{eqb, leb}
use lib.ListN.{get_or}
use Rattle.tree.specs.Bytes.{u16_at, node_count, value_count}
use Rattle.tree.specs.Values.{offset}
use Rattle.tree.specs.Table.{table_of, underscored}
use Rattle.tree.proofs.TableLaws.{at_past, underscore_there}
use Rattle.tree.proofs.lookup.begins_underscore.Goals as goal
use Rattle.tree.proofs.lookup.begins_underscore.Goals.{then-byte_at, else-byte_at}

-- by whether it is a name that is not empty
by_name : (t : List ℕ) (v o : ℕ) (x : Bool) → v < value_count t → o ≡ offset t (node_count t) v
    → x ≡ (eqb (get_or t o 0) 0 && leb 1 (u16_at t (o + 1))) → underscored (table_of t) v ≡ (x && eqb (get_or t (o + 3) 0) 95)
by_name t v o x h e q = underscore_there t v o h e ∙ ap (λ (y : Bool). y && eqb (get_or t (o + 3) 0) 95) (sym q)

pub returns-then-value_count-v : goal.returns-then-value_count-v
returns-then-value_count-v c = simp (at_past c.args.t.now c.args.v (omega (arith, c.value_count.ensures.0, c.if-value_count-v.true)))

pub returns-then-u16_at-ge1 : goal.returns-then-u16_at-ge1
returns-then-u16_at-ge1 c =
    let t = c.args.t.now in
    let o = c.offset_of-o.result in
    let e : o ≡ offset t (node_count t) c.args.v = rw c.node_count.ensures.0 at c.offset_of-o.ensures.0 in
    let q : c.if-byte_at.value ≡ (eqb (get_or t o 0) 0 && leb 1 (u16_at t (o + 1))) = elim c.if-byte_at.branch [
      | then-byte_at w ↦ rw (← c.byte_at.ensures.0, eq-eqb _ _ w.if-byte_at.true, ← w.u16_at.ensures.0) w.value-is
      | else-byte_at w ↦ rw (← c.byte_at.ensures.0, ne_eqb _ _ w.if-byte_at.false) (w.value-is ∙ ne_eqb _ _ w.if-byte_at.false)
    ] in
    let b = by_name t c.args.v o c.if-byte_at.value (omega (arith, c.value_count.ensures.0, c.if-value_count-v.false)) e q in
    rw (c.byte_at-then-u16_at-ge1.ensures.0, c.from.ensures) (sym (rw c.if-u16_at-ge1.true at b))

pub returns-else-u16_at-ge1 : goal.returns-else-u16_at-ge1
returns-else-u16_at-ge1 c =
    let t = c.args.t.now in
    let o = c.offset_of-o.result in
    let e : o ≡ offset t (node_count t) c.args.v = rw c.node_count.ensures.0 at c.offset_of-o.ensures.0 in
    let q : c.if-byte_at.value ≡ (eqb (get_or t o 0) 0 && leb 1 (u16_at t (o + 1))) = elim c.if-byte_at.branch [
      | then-byte_at w ↦ rw (← c.byte_at.ensures.0, eq-eqb _ _ w.if-byte_at.true, ← w.u16_at.ensures.0) w.value-is
      | else-byte_at w ↦ rw (← c.byte_at.ensures.0, ne_eqb _ _ w.if-byte_at.false) (w.value-is ∙ ne_eqb _ _ w.if-byte_at.false)
    ] in
    let b = by_name t c.args.v o c.if-byte_at.value (omega (arith, c.value_count.ensures.0, c.if-value_count-v.false)) e q in
    c.if-u16_at-ge1.false ∙ sym (rw c.if-u16_at-ge1.false at b)
