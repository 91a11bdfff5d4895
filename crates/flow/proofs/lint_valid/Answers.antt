use mathlib.Core.Path.{refl, sym, ap, subst, ◌∙◌}
use mathlib.Core.List.{List}
use native.Mathlib.Omega.{arith}
use Prim.Native.Nat.{◌≤◌}
use lib.ListN.{length}
use Rattle.rules.specs.Record.{Rec}
use Rattle.rules.specs.Calls.{done}
use Rattle.flow.proofs.ListIs.{list_is, list_few}
use Rattle.flow.proofs.lint_valid.Goals as goal

pub answered-requires : goal.answered-requires
answered-requires c =
    let l = list_is c.args.t.now c.args.f c.requires (λ k. omega (arith, c.type_inv.t k)) c.number_of.result c.number_of-2.result c.strings.result c.number_of.ensures c.number_of-2.ensures c.strings.ensures in
    (record { facts = c.args.f; valid = c.requires; nodes = refl }, subst (λ (rs : List Rec). length rs ≤ 18446744073709551615) l (list_few c.args.t.now c.args.f c.requires))

pub returns : goal.returns
returns c =
    let l = list_is c.args.t.now c.args.f c.requires (λ k. omega (arith, c.type_inv.t k)) c.number_of.result c.number_of-2.result c.strings.result c.number_of.ensures c.number_of-2.ensures c.strings.ensures in
    c.answered.ensures.answers c.args.t.now c.args.f c.requires ∙ ap (λ (rs : List Rec). done rs c.args.t.now c.args.out.now c.args.tally) (sym l)
