use borrow.Author.Tests.{eq-eqb, eqb-false, ne_eqb}
use Prim.Native.Nat.{◌+◌}
use mathlib.Core.Path.{◌≡◌, sym, ◌∙◌}
use mathlib.Core.Bool.{false}
use Rattle.tree.specs.Bytes.{bytes_from, u16_at}
use Rattle.tree.specs.Values.{value_from}
use Rattle.tree.specs.Table.{named_so}
use Rattle.tree.proofs.Link.{length_from}
use Rattle.tree.proofs.TableLaws.{unlike_length}
use Rattle.tree.proofs.lookup.spelled_at.Goals as goal
use Rattle.tree.proofs.lookup.spelled_at.Goals.{then-byte_at, else-byte_at}

pub returns-else-u16_at-name : goal.returns-else-u16_at-name
returns-else-u16_at-name c =
    let t = c.args.t.now in
    let o = c.args.o in
    let name = c.args.name.now in
    let z : false ≡ named_so name (value_from t o) = elim c.if-byte_at.branch [
      | then-byte_at w ↦
          let d = eqb-false _ _ (sym w.value-is ∙ c.if-u16_at-name.false) in
          let u = unlike_length (bytes_from (u16_at t (o + 1)) t (o + 3)) name (λ q. d (w.u16_at.ensures.0 ∙ sym (length_from (u16_at t (o + 1)) t (o + 3)) ∙ q)) in
          simp (sym c.byte_at.ensures.0, eq-eqb _ _ w.if-byte_at.true, u)
      | else-byte_at w ↦ simp (sym c.byte_at.ensures.0, ne_eqb _ _ w.if-byte_at.false)
    ] in
    c.if-u16_at-name.false ∙ z
