use mathlib.Core.Path.{sym, ap, ◌∙◌}
use Rattle.incompatible.specs.Five.{five}
use Rattle.incompatible.proofs.Checks.{ident_absent, ident_other, ident_is, spot_is}
use Rattle.incompatible.proofs.types.Types.lookup_type.Goals as goal
use Rattle.incompatible.proofs.types.Types.lookup_type.Goals.{else-kind_at-via-then-kind_at+else-names_type, else-kind_at-via-else-kind_at}

pub returns-in_err-j : goal.returns-in_err-j
returns-in_err-j c =
    rw c.from_residual.ensures (ident_absent 2 c.requires.0 c.requires.1 c.in_err-j.ensures (five c.args.self.now))

pub returns-then-names_type : goal.returns-then-names_type
returns-then-names_type c =
    let q = five c.args.self.now in (
      ident_is 2 c.requires.0 c.requires.1 c.in_ok-j.ensures q (sym c.kind_at.ensures.0 ∙ c.if-kind_at.true) ∙ sym (ap q c.value_at.ensures.0) ∙ sym c.if-names_type.ensures,
      spot_is 2 c.requires.0 c.requires.1 c.in_ok-j.ensures,
    )

pub returns-else-kind_at : goal.returns-else-kind_at
returns-else-kind_at c =
    let q = five c.args.self.now in
    elim c.else-kind_at.branch [
      | else-kind_at-via-then-kind_at+else-names_type w ↦
          ident_is 2 c.requires.0 c.requires.1 c.in_ok-j.ensures q (sym c.kind_at.ensures.0 ∙ w.if-kind_at.true) ∙ sym (ap q w.value_at.ensures.0) ∙ sym w.if-names_type.ensures
      | else-kind_at-via-else-kind_at w ↦
          ident_other 2 c.requires.0 c.requires.1 c.in_ok-j.ensures q (λ z. w.if-kind_at.false (c.kind_at.ensures.0 ∙ z))
    ]
