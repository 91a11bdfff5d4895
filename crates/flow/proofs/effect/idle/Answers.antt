use Rattle.std.specs.Prelude.{None}
use Rattle.std.proofs.Common.{rules}
use native.Mathlib.Omega.{arith}
use mathlib.Core.Path.{◌≡◌, sym, ◌∙◌}
use Rattle.tree.proofs.FirstChild.{child_none}
use Rattle.answer.proofs.Flat.{added_none, added_as}
use Rattle.flow.proofs.Steps.{idle_no, idle_acts, idle_put}
use Rattle.flow.proofs.effect.idle.Goals as goal
use Rattle.flow.proofs.effect.idle.Goals.{else-kind_at-via-else-kind_at, else-kind_at-via-then-kind_at+else-not-has_effect, else-kind_at-via-then-kind_at+then-not-has_effect+in-None-1}

pub returns-in-Some : goal.returns-in-Some
returns-in-Some c =
    added_as _ (idle_put c.args.strings.now c.args.t.now c.args.i c.requires.0 (sym c.kind_at.ensures.0 ∙ c.if-kind_at.true) (c.has_effect.ensures ∙ rw c.size_at.ensures.0) c.if-not-has_effect.true _ (rw c.size_at.ensures.0 at c.in-Some.ensures)) c.put_plainly.ensures

pub returns-else-kind_at : goal.returns-else-kind_at
returns-else-kind_at c =
    elim c.else-kind_at.branch [
      | else-kind_at-via-else-kind_at w ↦ added_as _ (idle_no c.args.strings.now c.args.t.now c.args.i (rw c.kind_at.ensures.0 at w.if-kind_at.false)) (added_none _)
      | else-kind_at-via-then-kind_at+else-not-has_effect w ↦ added_as _ (idle_acts c.args.strings.now c.args.t.now c.args.i (sym c.kind_at.ensures.0 ∙ w.if-kind_at.true) (w.has_effect.ensures ∙ rw c.size_at.ensures.0) w.if-not-has_effect.false) (added_none _)
      | else-kind_at-via-then-kind_at+then-not-has_effect+in-None-1 w ↦ (let none : w.child_of.result ≡ None = search rules in
          let past = child_none c.args.t.now 4 _ _ (rw c.size_at.ensures.0 at (sym none ∙ w.child_of.ensures)) in
          absurd (omega (arith, past, c.requires.1 (sym c.kind_at.ensures.0 ∙ w.if-kind_at.true))))
    ]
