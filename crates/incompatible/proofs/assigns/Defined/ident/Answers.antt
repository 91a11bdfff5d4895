use native.Mathlib.Omega.{arith}
use mathlib.Core.Path.{◌≡◌, refl}
use lib.ListN.{length}
use borrow.Author.Rules.{rules}
use Rattle.incompatible.proofs.Told.{ident_new, ident_again}
use Rattle.incompatible.proofs.assigns.Defined.ident.Goals as goal

pub returns-in-None : goal.returns-in-None
returns-in-None c =
    let l : length c.args.self.now.names ≡ 512 = search rules in
    ident_new c.args.t.now c.args.self.now c.args.sheet.now c.args.i c.value_at-v.result c.value_at-v.ensures.0 _ _
    (omega (arith, c.requires.0, c.value_at-v.ensures.0)) refl refl (search rules) refl refl

pub returns-in-Some : goal.returns-in-Some
returns-in-Some c =
    ident_again c.args.t.now c.args.self.now c.args.sheet.now c.args.i c.value_at-v.result c.value_at-v.ensures.0 c.in-Some.first c.in-Some.is (rw c.from.ensures at c.put_again.ensures)
