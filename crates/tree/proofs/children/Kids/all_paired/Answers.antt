use Prim.Native.Nat.{◌-◌}
use native.Mathlib.Omega.{arith}
use mathlib.Core.Path.{◌≡◌, refl, sym, ◌∙◌}
use mathlib.Core.Logic.{inl, inr}
use Rattle.tree.proofs.Kids.{kids_on, pair_no, pair_yes, pair_end}
use Rattle.tree.proofs.Walked.{along_start, along_at, along_on, along_end}
use Rattle.tree.proofs.children.Kids.all_paired.Goals as goal

pub loop-c-init : goal.loop-c-init
loop-c-init c = along_start c.into_iter-c-iterator.ensures.into_iter_gives c.siblings-c-items.ensures (inl refl, refl)

pub returns-then-role_at-due : goal.returns-then-role_at-due
returns-then-role_at-due c =
    let h = along_at c.loop-c.invariant c.in-Some.ensures.steps.0 in
    sym (pair_no c.args.self.now.t.now c.loop-c.due c.in-Some.c c.args.self.now.end c.args.self.now.sized h.0 (λ q. c.if-role_at-due.true (c.role_at.ensures.0 ∙ q))) ∙ h.1.1

pub loop-c-preserved : goal.loop-c-preserved
loop-c-preserved c =
    along_on c.loop-c.invariant c.in-Some.ensures.steps.0 (λ x h.
    let y = pair_yes c.args.self.now.t.now c.loop-c.due c.in-Some.c c.args.self.now.end c.args.self.now.sized x.within (sym c.role_at.ensures.0 ∙ c.if-role_at-due.false) ∙ h.1 in
    let s : 8 ≡ 12 - c.loop-c.due = elim h.0 [ inl p ↦ absurd (c.if-due-key.false p) | inr p ↦ omega (arith, p) ] in
    (inl refl, rw (kids_on c.args.self.now.sized x) (rw (sym s) at y)))

pub loop-c-preserved-then-due-key : goal.loop-c-preserved-then-due-key
loop-c-preserved-then-due-key c =
    along_on c.loop-c.invariant c.in-Some.ensures.steps.0 (λ x h.
    let y = pair_yes c.args.self.now.t.now c.loop-c.due c.in-Some.c c.args.self.now.end c.args.self.now.sized x.within (sym c.role_at.ensures.0 ∙ c.if-role_at-due.false) ∙ h.1 in
    let s : 4 ≡ 12 - c.loop-c.due = omega (arith, c.if-due-key.true) in
    (inr refl, rw (kids_on c.args.self.now.sized x) (rw (sym s) at y)))

pub returns : goal.returns
returns c =
    let h = along_end c.loop-c.invariant c.in-None.ensures.steps.0 in
    sym (pair_end c.args.self.now.t.now c.loop-c.due c.loop-c.c-iterator.at c.args.self.now.end h.0) ∙ h.1.1
