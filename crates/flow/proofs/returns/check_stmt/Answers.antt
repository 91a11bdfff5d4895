use Rattle.std.specs.Prelude.{None}
use Rattle.std.proofs.Common.{rules}
use mathlib.Core.Path.{◌≡◌, sym, ◌∙◌}
use lib.Dec.{eqb}
use Rattle.answer.proofs.Flat.{added_none, added_as}
use Rattle.flow.proofs.ReturnsLaws.{stmt_no, stmt_none, stmt_def}
use Rattle.flow.proofs.returns.check_stmt.Goals as goal
use Rattle.flow.proofs.returns.check_stmt.Goals.{else-kind_at-via-else-kind_at, else-kind_at-via-then-kind_at+in-None-1}

pub returns-in-Some : goal.returns-in-Some
returns-in-Some c =
    added_as _ (stmt_def (λ v. eqb v c.args.fail) (λ v. eqb v c.args.none) c.args.t.now c.args.i (sym c.kind_at.ensures.0 ∙ c.if-kind_at.true) c.in-Some.why c.in-Some.ensures) (c.check_for.ensures (λ v. eqb v c.args.none))

pub returns-else-kind_at : goal.returns-else-kind_at
returns-else-kind_at c =
    elim c.else-kind_at.branch [
      | else-kind_at-via-else-kind_at w ↦ added_as _ (stmt_no (λ v. eqb v c.args.fail) (λ v. eqb v c.args.none) c.args.t.now c.args.i (rw c.kind_at.ensures.0 at w.if-kind_at.false)) (added_none _)
      | else-kind_at-via-then-kind_at+in-None-1 w ↦ let none : w.reason.result ≡ None = search rules in added_as _ (stmt_none (λ v. eqb v c.args.fail) (λ v. eqb v c.args.none) c.args.t.now c.args.i (sym c.kind_at.ensures.0 ∙ w.if-kind_at.true) (rw none at w.reason.ensures)) (added_none _)
    ]
