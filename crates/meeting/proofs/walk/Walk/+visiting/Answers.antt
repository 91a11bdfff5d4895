-- `visit`, `step`, `node` and `below` call one another; each meets its contract. The measure goes by how many nodes are below. Assumes nothing.
use native.Mathlib.Omega.{arith}
use mathlib.Core.Path.{refl}
use Prim.Native.Nat.{ℕ}
use mathlib.Core.Path.{◌≡◌, ◌∙◌}
use mathlib.Core.List.{List}
use lib.ListN.{get_or}
use Rattle.tree.specs.Bytes.{size_at}
use Rattle.tree.specs.declared.kinds.Role.TheVariants.{Item}
use Rattle.meeting.specs.declared.walk.Ask.TheVariants.{Of}
use Rattle.tree.proofs.Laws.{ended}
use Rattle.tree.proofs.Walked.{walk_start, walk_at, walk_on, walk_end}
use Rattle.meeting.specs.Asked.{below, step, at}
use Rattle.meeting.specs.Meant.{meant, number}
use Rattle.meeting.proofs.Walking.{whole_at, few, walk_starts, walk_goes, walk_ends, walk_none, walk_same, below_self, below_other, plan_next, plan_done, step_wanted, step_unwanted, visit_next, visit_done}
use Rattle.meeting.proofs.walk.Walk.+visiting.Goals as goal

pub below-returns-in-Itself : goal.below-returns-in-Itself
below-returns-in-Itself t c =
    record {
      file = refl;
      places = refl;
      reference = refl;
      words = below_self c.args.self.now.t.now c.args.self.now.places c.args.self.now.w.now c.args.ask c.args.c c.in-Itself.is (few c.requires) c.meet.ensures;
    }

pub below-returns-in_default : goal.below-returns-in_default
below-returns-in_default t c = walk_same (below_other c.args.self.now.t.now c.args.ask c.args.c c.in_default.not-Itself c.size_at.ensures.0) c.visit.ensures

pub step-returns-then-wants : goal.step-returns-then-wants
step-returns-then-wants t c =
    walk_same (step_wanted c.args.self.now.t.now (meant c.args.ask) c.args.c _ c.role_at.ensures.0 c.wants.ensures c.if-wants.true c.kind_at.ensures.0 c.plan.ensures) c.node.ensures

pub step-returns-else-wants : goal.step-returns-else-wants
step-returns-else-wants t c =
    walk_none _ (step_unwanted c.args.self.now.t.now (meant c.args.ask) c.args.c c.role_at.ensures.0 c.wants.ensures c.if-wants.false)

pub node-loop-ask-init : goal.node-loop-ask-init
node-loop-ask-init t c = walk_starts _ _

pub node-below-requires : goal.node-below-requires
node-below-requires t c = rw c.loop-ask.invariant.file (omega (arith, c.decreases), c.requires)

pub node-loop-ask-preserved : goal.node-loop-ask-preserved
node-loop-ask-preserved t c =
    let a = get_or c.args.plan.now c.loop-ask.ask-index (Of Item) in
    walk_goes c.below.new.self (λ (u : List ℕ). at (below (number a)) u c.args.c) _ c.loop-ask.invariant
    (plan_next c.args.self.now.t.now c.args.plan.now c.args.c c.loop-ask.ask-index (Of Item) c.loop-ask-test.true) c.below.ensures

pub node-returns : goal.node-returns
node-returns t c =
    walk_ends c.loop-ask.invariant (plan_done c.args.self.now.t.now c.args.plan.now c.args.c c.loop-ask.ask-index c.loop-ask-test.false)

pub visit-loop-c-init : goal.visit-loop-c-init
visit-loop-c-init t c =
    walk_start c.into_iter-c-iterator.ensures.into_iter_gives c.siblings-c-items.ensures c.requires (omega arith, walk_starts _ _)

pub visit-step-requires : goal.visit-step-requires
visit-step-requires t c =
    let h = walk_at c.loop-c.invariant c.in-Some.ensures.steps.0 in
    rw h.2.1.file (omega (arith, c.decreases, ended h.0 h.1, h.2.0), whole_at h.0 h.1)

pub visit-loop-c-preserved : goal.visit-loop-c-preserved
visit-loop-c-preserved t c =
    walk_on c.loop-c.invariant c.in-Some.ensures.steps.0 (λ p lt h.
    let f : c.step.new.self.t.now ≡ c.args.self.now.t.now = c.step.ensures.file ∙ h.1.file in
    (omega (arith, h.0), walk_goes c.step.new.self (λ (u : List ℕ). at (step (meant c.loop-c.ask)) u c.in-Some.c) _ h.1 (visit_next c.args.self.now.t.now (meant c.loop-c.ask) (meant c.after-ask.result) p lt (rw f at c.role_at.ensures.0) c.after-ask.ensures refl) c.step.ensures))

pub visit-returns : goal.visit-returns
visit-returns t c =
    let h = walk_end c.loop-c.invariant c.in-None.ensures.steps.0 in
    walk_ends h.1.1 (visit_done c.args.self.now.t.now (meant c.loop-c.ask) c.loop-c.c-iterator.at c.args.e h.0)
