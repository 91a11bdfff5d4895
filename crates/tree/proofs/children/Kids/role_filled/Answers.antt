use mathlib.Core.Path.{◌≡◌, sym, ap, ◌∙◌}
use Prim.Native.Nat.{ℕ}
use lib.ListN.{get_or}
use borrow.Author.Tests.{lt-leb, le-leb}
use Rattle.tree.specs.Children.{slot_of}
use Rattle.tree.specs.code.Kids.{kids_from}
use Rattle.tree.specs.code.Packed.{least_list, most_list}
use Rattle.tree.proofs.Slots.{least_at, most_at}
use Rattle.tree.proofs.Filled.{filled_nothing}
use Rattle.tree.proofs.children.Kids.role_filled.Goals as goal

pub returns-then-d-eq0 : goal.returns-then-d-eq0
returns-then-d-eq0 c =
    λ k q s. filled_nothing c.args.self.now.t.now k (kids_from c.args.self.now.t.now c.args.self.now.from c.args.self.now.end) s c.args.r (q ∙ c.if-d-eq0.true)

pub returns-then-form-m : goal.returns-then-form-m
returns-then-form-m c =
    λ k q s.
    let l : c.form_of-form.result.least ≡ (slot_of k c.args.r).least = c.form_of-form.ensures.least ∙ (sym (ap (λ (x : ℕ). get_or least_list x 0) q) ∙ least_at k c.args.r) in
    let m : c.form_of-form.result.most ≡ (slot_of k c.args.r).most = c.form_of-form.ensures.most ∙ (sym (ap (λ (x : ℕ). get_or most_list x 0) q) ∙ most_at k c.args.r) in
    rw (← l, ← m, ← c.of_role-m.ensures) (simp (le-leb _ _ c.if-form-m.true))

pub returns-else-form-m : goal.returns-else-form-m
returns-else-form-m c =
    λ k q s.
    let l : c.form_of-form.result.least ≡ (slot_of k c.args.r).least = c.form_of-form.ensures.least ∙ (sym (ap (λ (x : ℕ). get_or least_list x 0) q) ∙ least_at k c.args.r) in
    rw (← l, ← c.of_role-m.ensures) (simp (lt-leb _ _ c.if-form-m.false))
