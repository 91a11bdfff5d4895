use mathlib.Core.Path.{refl, sym, ◌∙◌}
use Rattle.tree.proofs.Kids.{kids_on, for_yes, for_no, for_end}
use Rattle.tree.proofs.Walked.{along_start, along_at, along_on, along_end}
use Rattle.tree.proofs.children.Kids.for_first.Goals as goal

pub loop-c-init : goal.loop-c-init
loop-c-init c = along_start c.into_iter-c-iterator.ensures.into_iter_gives c.siblings-c-items.ensures refl

pub returns-then-role_at : goal.returns-then-role_at
returns-then-role_at c =
    let h = along_at c.loop-c.invariant c.in-Some.ensures.steps.0 in
    rw c.kind_at.ensures.0 (sym (for_yes (c.args.self.now.t.now) 0 c.in-Some.c (c.args.self.now.end) c.args.self.now.sized h.0 (sym c.role_at.ensures.0 ∙ c.if-role_at.true)) ∙ h.1)

pub loop-c-preserved : goal.loop-c-preserved
loop-c-preserved c =
    along_on c.loop-c.invariant c.in-Some.ensures.steps.0 (λ x h.
    rw (kids_on c.args.self.now.sized x) (for_no (c.args.self.now.t.now) 0 c.in-Some.c (c.args.self.now.end) c.args.self.now.sized x.within (λ q. c.if-role_at.false (c.role_at.ensures.0 ∙ q)) ∙ h))

pub returns : goal.returns
returns c =
    let h = along_end c.loop-c.invariant c.in-None.ensures.steps.0 in
    sym (for_end (c.args.self.now.t.now) 0 c.loop-c.c-iterator.at (c.args.self.now.end) h.0) ∙ h.1
