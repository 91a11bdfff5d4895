use mathlib.Core.Path.{◌≡◌, refl, sym, ◌∙◌}
use Rattle.tree.specs.Bytes.{kind_at, role_at}
use Rattle.tree.specs.Children.{in_class, slot_of}
use Rattle.tree.proofs.Kids.{kids_on, stand_yes, stand_no, stand_end}
use Rattle.tree.proofs.Walked.{along_start, along_at, along_on, along_end}
use Rattle.tree.proofs.children.Kids.all_stand.Goals as goal

pub loop-c-init : goal.loop-c-init
loop-c-init c = along_start c.into_iter-c-iterator.ensures.into_iter_gives c.siblings-c-items.ensures refl

pub returns-then-not-stands : goal.returns-then-not-stands
returns-then-not-stands c =
    let g : c.stands.result ≡ in_class (slot_of (c.args.k) (role_at (c.args.self.now.t.now) c.in-Some.c)).class (kind_at (c.args.self.now.t.now) c.in-Some.c) = c.stands.ensures ∙ (cc (c.slot_class.ensures, c.kind_at.ensures.0, c.role_at.ensures.0)) in
    let h = along_at c.loop-c.invariant c.in-Some.ensures.steps.0 in
    sym (stand_no (c.args.self.now.t.now) (c.args.k) c.in-Some.c (c.args.self.now.end) c.args.self.now.sized h.0 (sym g ∙ c.if-not-stands.true)) ∙ h.1

pub loop-c-preserved : goal.loop-c-preserved
loop-c-preserved c =
    let g : c.stands.result ≡ in_class (slot_of (c.args.k) (role_at (c.args.self.now.t.now) c.in-Some.c)).class (kind_at (c.args.self.now.t.now) c.in-Some.c) = c.stands.ensures ∙ (cc (c.slot_class.ensures, c.kind_at.ensures.0, c.role_at.ensures.0)) in
    along_on c.loop-c.invariant c.in-Some.ensures.steps.0 (λ x h.
    rw (kids_on c.args.self.now.sized x) (stand_yes (c.args.self.now.t.now) (c.args.k) c.in-Some.c (c.args.self.now.end) c.args.self.now.sized x.within (sym g ∙ c.if-not-stands.false) ∙ h))

pub returns : goal.returns
returns c =
    let h = along_end c.loop-c.invariant c.in-None.ensures.steps.0 in
    sym (stand_end (c.args.self.now.t.now) (c.args.k) c.loop-c.c-iterator.at (c.args.self.now.end) h.0) ∙ h.1
