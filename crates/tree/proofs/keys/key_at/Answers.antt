use Prim.Native.Nat.{ℕ}
use native.Mathlib.Omega.{arith}
use mathlib.Core.Path.{sym, ap, ◌∙◌}
use lib.ListN.{get_or}
use Rattle.tree.specs.Keys.{whole, counted}
use Rattle.tree.specs.Table.{table_of}
use Rattle.tree.specs.code.Numbers.{lead}
use Rattle.tree.proofs.Fields.{offset_low}
use Rattle.tree.proofs.TableLaws.{start_at}
use Rattle.tree.proofs.KeyNumbers.{key_other, key_length, key_float}
use Rattle.tree.proofs.keys.key_at.Goals as goal
use Rattle.tree.proofs.keys.key_at.Goals.{else-byte_at-via-then-byte_at+else-u16_at-eq8, else-byte_at-via-else-byte_at}

pub u64_at-requires : goal.u64_at-requires
u64_at-requires c =
    let e = start_at c.args.t.now c.args.starts.now c.requires.0 c.args.v c.requires.1 c.requires.2 in
    let l = offset_low c.args.t.now (λ j. omega (arith, c.type_inv.t j)) c.args.v in
    omega (arith, e, l)

pub returns-then-u16_at-eq8 : goal.returns-then-u16_at-eq8
returns-then-u16_at-eq8 c =
    (c.float_key.ensures.0 ∙ (ap (λ (x : ℕ). lead (table_of c.args.t.now) c.args.v (counted c.args.mode (whole x))) c.u64_at.ensures ∙ sym (key_float c.args.t.now c.args.mode c.args.v (get_or c.args.starts.now c.args.v 0) c.requires.2 (start_at c.args.t.now c.args.starts.now c.requires.0 c.args.v c.requires.1 c.requires.2) (sym c.byte_at.ensures.0 ∙ c.if-byte_at.true) (sym c.u16_at.ensures.0 ∙ c.if-u16_at-eq8.true))), c.float_key.ensures.1)

pub returns-else-byte_at : goal.returns-else-byte_at
returns-else-byte_at c =
    let o = get_or c.args.starts.now c.args.v 0 in
    let s = start_at c.args.t.now c.args.starts.now c.requires.0 c.args.v c.requires.1 c.requires.2 in
    elim c.else-byte_at.branch [
      | else-byte_at-via-then-byte_at+else-u16_at-eq8 w ↦
          (sym (key_length c.args.t.now c.args.mode c.args.v o c.requires.2 s (sym c.byte_at.ensures.0 ∙ w.if-byte_at.true) (λ q. w.if-u16_at-eq8.false (w.u16_at.ensures.0 ∙ q))), omega arith)
      | else-byte_at-via-else-byte_at w ↦ (sym (key_other c.args.t.now c.args.mode c.args.v o c.requires.2 s (λ q. w.if-byte_at.false (c.byte_at.ensures.0 ∙ q))), omega arith)
    ]
