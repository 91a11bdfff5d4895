use native.Mathlib.Omega.{arith}
use mathlib.Core.Path.{sym, ◌∙◌}
use Rattle.tree.proofs.Kids.{kids_on, role_yes, role_no, role_end}
use Rattle.tree.proofs.Walked.{along_start, along_at, along_on, along_end}
use Rattle.tree.proofs.children.Kids.of_role.Goals as goal

pub loop-c-init : goal.loop-c-init
loop-c-init c = along_start c.into_iter-c-iterator.ensures.into_iter_gives c.siblings-c-items.ensures (omega arith, omega arith)

pub loop-c-preserved-then-role_at-r : goal.loop-c-preserved-then-role_at-r
loop-c-preserved-then-role_at-r c =
    along_on c.loop-c.invariant c.in-Some.ensures.steps.0 (λ x h.
    let y = role_yes (c.args.self.now.t.now) (c.args.r) c.in-Some.c (c.args.self.now.end) c.args.self.now.sized x.within (sym c.role_at.ensures.0 ∙ c.if-role_at-r.true) in
    (omega (arith, h.0, x.further), rw (kids_on c.args.self.now.sized x) (omega (arith, y, h.1))))

pub loop-c-preserved : goal.loop-c-preserved
loop-c-preserved c =
    along_on c.loop-c.invariant c.in-Some.ensures.steps.0 (λ x h.
    let y = role_no (c.args.self.now.t.now) (c.args.r) c.in-Some.c (c.args.self.now.end) c.args.self.now.sized x.within (λ q. c.if-role_at-r.false (c.role_at.ensures.0 ∙ q)) in
    (omega (arith, h.0, x.further), rw (kids_on c.args.self.now.sized x) (omega (arith, y, h.1))))

pub returns : goal.returns
returns c =
    let h = along_end c.loop-c.invariant c.in-None.ensures.steps.0 in
    let y = role_end (c.args.self.now.t.now) (c.args.r) c.loop-c.c-iterator.at (c.args.self.now.end) h.0 in omega (arith, y, h.1.1)
