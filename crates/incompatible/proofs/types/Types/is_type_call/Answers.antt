use mathlib.Core.Path.{sym, ◌∙◌}
use borrow.Author.Tests.{ne_eqb}
use Rattle.incompatible.proofs.Checks.{below_c, call_absent, calls_is, calls_other, call_yes, call_no}
use Rattle.incompatible.proofs.types.Types.is_type_call.Goals as goal
use Rattle.incompatible.proofs.types.Types.is_type_call.Goals.{then-kind_at, else-kind_at}

pub returns-in_default : goal.returns-in_default
returns-in_default c = call_absent c.args.self.now.call c.requires.0 c.requires.1 c.in_default.ensures

pub calls_type-requires : goal.calls_type-requires
calls_type-requires c = rw c.size_at.ensures.0 (below_c 1 c.requires.0 c.requires.1 c.in-Some.ensures)

pub one_argument-requires : goal.one_argument-requires
one_argument-requires c = rw c.size_at.ensures.0 (below_c 1 c.requires.0 c.requires.1 c.in-Some.ensures)

pub returns-then-calls_type : goal.returns-then-calls_type
returns-then-calls_type c =
    let is_j = c.in-Some.ensures in
    call_yes c.args.self.now.call c.requires.0 c.requires.1 is_j
    (elim c.if-kind_at.branch [
      | then-kind_at w ↦ w.value-is ∙ calls_is c.args.self.now.call c.requires.0 c.requires.1 is_j (sym c.kind_at.ensures.0 ∙ w.if-kind_at.true) (rw c.size_at.ensures.0 at w.calls_type.ensures)
      | else-kind_at w ↦ w.value-is ∙ ne_eqb _ _ w.if-kind_at.false ∙ calls_other c.args.self.now.call c.requires.0 c.requires.1 is_j (λ z. w.if-kind_at.false (c.kind_at.ensures.0 ∙ z))
    ])
    c.if-calls_type.true (rw c.size_at.ensures.0 at c.one_argument.ensures)

pub returns-else-calls_type : goal.returns-else-calls_type
returns-else-calls_type c =
    let is_j = c.in-Some.ensures in
    call_no c.args.self.now.call c.requires.0 c.requires.1 is_j
    (elim c.if-kind_at.branch [
      | then-kind_at w ↦ w.value-is ∙ calls_is c.args.self.now.call c.requires.0 c.requires.1 is_j (sym c.kind_at.ensures.0 ∙ w.if-kind_at.true) (rw c.size_at.ensures.0 at w.calls_type.ensures)
      | else-kind_at w ↦ w.value-is ∙ ne_eqb _ _ w.if-kind_at.false ∙ calls_other c.args.self.now.call c.requires.0 c.requires.1 is_j (λ z. w.if-kind_at.false (c.kind_at.ensures.0 ∙ z))
    ])
    c.if-calls_type.false
