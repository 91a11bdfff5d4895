use native.Mathlib.Omega.{arith}
use mathlib.Core.Path.{◌≡◌, refl}
use lib.ListN.{length}
use borrow.Author.Rules.{rules}
use Rattle.incompatible.proofs.Told.{repeat_free, repeat_not, free_none, free_some}
use Rattle.incompatible.proofs.assigns.Defined.repeat.Goals as goal
use Rattle.incompatible.proofs.assigns.Defined.repeat.Goals.{in_default-via-in-Some+else-may_repeat, in_default-via-in_default}

pub returns-in-Some : goal.returns-in-Some
returns-in-Some c =
    let l : length c.args.self.now.names ≡ 512 = search rules in
    repeat_free c.args.t.now c.args.self.now c.args.sheet.now c.args.x c.value_at-v.result c.value_at-v.ensures.0 _ _
    (omega (arith, c.requires.0, c.value_at-v.ensures.0)) refl refl c.in-Some.first c.in-Some.is c.if-may_repeat.ensures refl refl

pub returns-in_default : goal.returns-in_default
returns-in_default c =
    repeat_not c.args.t.now c.args.self.now c.args.sheet.now c.args.x c.value_at-v.result c.value_at-v.ensures.0 c.requires.2
    (elim c.in_default.branch [
      | in_default-via-in-Some+else-may_repeat w ↦ free_some c.args.t.now c.args.self.now c.value_at-v.result w.in-Some.first w.in-Some.is w.if-may_repeat.ensures
      | in_default-via-in_default w ↦ free_none c.args.t.now c.args.self.now c.value_at-v.result (search rules)
    ])
    c.ident.ensures
