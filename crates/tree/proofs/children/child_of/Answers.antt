use native.Mathlib.Omega.{arith}
use mathlib.Core.Path.{refl, sym, ◌∙◌}
use Rattle.tree.proofs.FirstChild.{is_first, is_none}
use Rattle.tree.proofs.Seek.{seek_past, seek_here, seek_on}
use Rattle.tree.proofs.Walked.{along_start, along_at, along_on, along_end}
use Rattle.tree.proofs.children.child_of.Goals as goal

pub loop-i-init : goal.loop-i-init
loop-i-init c = along_start c.into_iter-i-iterator.ensures.into_iter_gives c.siblings-i-items.ensures refl

pub returns-then-role_at-role : goal.returns-then-role_at-role
returns-then-role_at-role c =
    let h = along_at c.loop-i.invariant c.in-Some.ensures.steps.0 in
    is_first c.args.t.now c.args.role c.args.from c.args.e c.in-Some.i (sym (seek_here c.args.t.now c.args.role c.in-Some.i c.args.e h.0 (sym c.role_at.ensures.0 ∙ c.if-role_at-role.true)) ∙ h.1) h.0

pub loop-i-preserved : goal.loop-i-preserved
loop-i-preserved c =
    along_on c.loop-i.invariant c.in-Some.ensures.steps.0 (λ x h. sym (seek_on c.args.t.now c.args.role x (λ q. c.if-role_at-role.false (c.role_at.ensures.0 ∙ q))) ∙ h)

pub returns : goal.returns
returns c =
    let h = along_end c.loop-i.invariant c.in-None.ensures.steps.0 in
    let e = seek_past c.args.t.now c.args.role c.loop-i.i-iterator.at c.args.e h.0 in
    is_none c.args.t.now c.args.role c.args.from c.args.e (omega (arith, e, h.1))
