use mathlib.Core.Path.{sym, ◌∙◌}
use borrow.Author.Tests.{ne_eqb}
use Rattle.incompatible.specs.Five.{is}
use Rattle.incompatible.proofs.Checks.{ident_absent, ident_other, ident_is}
use Rattle.incompatible.proofs.types.Types.calls_type.Goals as goal

pub returns-in_default : goal.returns-in_default
returns-in_default c = sym (ident_absent 7 c.requires.0 c.requires.1 c.in_default.ensures (is c.args.self.now.call))

pub returns-then-kind_at : goal.returns-then-kind_at
returns-then-kind_at c =
    rw (ident_is 7 c.requires.0 c.requires.1 c.in-Some.ensures (is c.args.self.now.call) (sym c.kind_at.ensures.0 ∙ c.if-kind_at.true), c.value_at.ensures.0)

pub returns-else-kind_at : goal.returns-else-kind_at
returns-else-kind_at c =
    ne_eqb _ _ c.if-kind_at.false
    ∙ sym (ident_other 7 c.requires.0 c.requires.1 c.in-Some.ensures (is c.args.self.now.call) (λ z. c.if-kind_at.false (c.kind_at.ensures.0 ∙ z)))
