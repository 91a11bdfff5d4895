-- The cycle of calls of the walk: what each member leaves is answered in a file of its own. Assumes nothing.
use Prim.Native.Nat.{◌<◌, ◌+◌, ◌≤◌}
use native.Mathlib.Omega.{arith}
use Rattle.names.proofs.Going.{then, goes_fits, goes_as, enter_fits, scopes_to, leave_asks, skips, back_fits, sides_to, stop_to, goes_to, turns_to}
use Rattle.names.proofs.Rows.{node_zero, below_ends, below_node, regroup, clause_none, clause_there, kid_as, kids_as, down_as, fail_as, cond_true, cond_false, clauses_on, clauses_last, below_rest, node_more, loop_once, loop_twice, return_node, pick_true, pick_false, visit_on, visit_last}
use Rattle.tree.specs.Bytes.{size_at}
use mathlib.Core.Path.{sym, ◌∙◌, refl}
use mathlib.Core.Logic.{inl, inr}
use Rattle.names.proofs.Parts.{node_statements, node_load, nine_on, eleven_off, node_few, bound_there, bound_none, first_below, node_if, node_if_else, ten_left, node_def, node_expression, node_identifier, node_list, node_dict, node_other, node_assign, node_lambda, node_in_part, node_for, node_modify, over_there, over_none, node_break, node_continue, node_statement}
use Rattle.names.proofs.Held.{methods}
use Rattle.tree.specs.Forest.{node_head}
use Rattle.rules.specs.Order.{breaks, broken_by, fails}
use Rattle.scope.specs.declared.Abort.TheVariants.{Function, Loop}
use Rattle.tree.proofs.Laws.{rest, sized, ended}
use Rattle.tree.proofs.Walked.{walk_start, walk_at, walk_on, walk_end}
use Rattle.names.proofs.walk.Walk.+walking.Goals as goal

pub assign-returns : goal.assign-returns
assign-returns t c = then c.down-s.ensures (c.bind-s.ensures c.args.d)

pub block-returns-then-k : goal.block-returns-then-k
block-returns-then-k t c = goes_as (node_statements _ _ _ (sym c.requires.0 ∙ c.if-k.true)) c.down.ensures

pub block-returns-then-k-3 : goal.block-returns-then-k-3
block-returns-then-k-3 t c = goes_as (node_load _ _ _ (sym c.requires.0 ∙ c.if-k-3.true)) (c.bind.ensures c.args.d)

pub block-cond-requires : goal.block-cond-requires
block-cond-requires t c =
    (omega (arith, c.decreases), (c.requires.0, nine_on c.requires.1 c.if-k.false, eleven_off c.requires.2 c.if-k-2.false c.if-k-3.false c.if-k-4.false, c.requires.4, c.requires.5))

pub body-bind-inner-requires : goal.body-bind-inner-requires
body-bind-inner-requires t c = (node_zero c.requires.0, enter_fits c.enter.ensures c.requires.1)

pub body-down-inner-requires : goal.body-down-inner-requires
body-down-inner-requires t c = (omega (arith, c.decreases), (c.requires.0, goes_fits (c.bind-inner.ensures c.args.d)))

pub body-leave-requires : goal.body-leave-requires
body-leave-requires t c =
    ((goes_fits c.down-inner.ensures), leave_asks c.requires.1 c.enter.ensures (then (c.bind-inner.ensures c.args.d) c.down-inner.ensures))

pub body-returns : goal.body-returns
body-returns t c =
    scopes_to (methods _) c.requires.1 c.enter.ensures (then (c.bind-inner.ensures c.args.d) c.down-inner.ensures) c.leave.ensures.0 c.leave.ensures.1

pub bound-assign-s-requires : goal.bound-assign-s-requires
bound-assign-s-requires t c = let b = first_below c.requires.1 (sym c.in-Some.is ∙ c.requires.0) in let e = below_ends c.requires.1 b.0 b.1 in (omega (arith, c.decreases, e, b.0), (below_node c.requires.1 b.0 b.1, c.requires.2))

pub bound-later-requires : goal.bound-later-requires
bound-later-requires t c = let b = first_below c.requires.1 (sym c.in-Some.is ∙ c.requires.0) in (omega (arith, c.decreases), (b.0, b.1, c.requires.1, goes_fits c.assign-s.ensures))

pub bound-returns : goal.bound-returns
bound-returns t c = goes_as (bound_there _ _ c.requires.1 (sym c.in-Some.is ∙ c.requires.0)) (regroup (then c.assign-s.ensures c.later.ensures))

pub branch-down-b-requires : goal.branch-down-b-requires
branch-down-b-requires t c =
    (omega (arith, c.decreases), (c.requires.0, (back_fits c.back.ensures c.requires.1 (goes_fits c.down-a.ensures) c.down-a.ensures.does.kept)))

pub branch-returns : goal.branch-returns
branch-returns t c = sides_to (methods _) c.requires.1 c.down-a.ensures c.back.ensures c.down-b.ensures c.join.ensures

pub clause-returns-then-role_at : goal.clause-returns-then-role_at
clause-returns-then-role_at t c =
    goes_as (clause_none _ _ _ (λ z. c.if-role_at.true (c.role_at.ensures.0 ∙ z))) (skips c.requires.1)

pub clause-returns : goal.clause-returns
clause-returns t c =
    goes_as (clause_there _ _ _ (sym c.role_at.ensures.0 ∙ c.if-role_at.false)) (then c.down-s.ensures c.assign.ensures)

pub comp-over-s-requires : goal.comp-over-s-requires
comp-over-s-requires t c =
    (omega (arith, c.decreases), ((kid_as _ _ _ c.size_at.ensures.0 c.child_of-first.ensures), c.requires.0, c.requires.1))

pub comp-rest-inner-requires : goal.comp-rest-inner-requires
comp-rest-inner-requires t c =
    (omega (arith, c.decreases), ((kid_as _ _ _ c.size_at.ensures.0 c.child_of-first.ensures), c.requires.0, enter_fits c.enter.ensures (goes_fits c.over-s.ensures)))

pub comp-leave-requires : goal.comp-leave-requires
comp-leave-requires t c =
    ((goes_fits c.rest-inner.ensures), leave_asks (goes_fits c.over-s.ensures) c.enter.ensures c.rest-inner.ensures)

pub comp-returns : goal.comp-returns
comp-returns t c =
    then c.over-s.ensures (scopes_to (methods _) (goes_fits c.over-s.ensures) c.enter.ensures c.rest-inner.ensures c.leave.ensures.0 c.leave.ensures.1)

pub cond-returns-then-k : goal.cond-returns-then-k
cond-returns-then-k t c = goes_as (node_if _ _ _ (sym c.requires.0 ∙ c.if-k.true)) (then c.down-s.ensures c.side.ensures)

pub cond-returns-else-k : goal.cond-returns-else-k
cond-returns-else-k t c =
    goes_as (node_if_else _ _ _ (sym c.requires.0 ∙ ten_left c.requires.1 c.requires.2 c.if-k.false)) (then c.down-s.ensures c.branch-self.ensures)

pub def-body-requires : goal.def-body-requires
def-body-requires t c = (omega (arith, c.decreases), (c.requires.1, goes_fits (c.bind-s.ensures c.args.d)))

pub def-returns : goal.def-returns
def-returns t c =
    goes_as (node_def _ _ _ c.requires.0) (then c.down-s.ensures (then c.down-s-2.ensures (then (c.bind-s.ensures c.args.d) c.body.ensures)))

pub down-visit-requires : goal.down-visit-requires
down-visit-requires t c =
    (omega (arith, c.decreases, c.size_at.ensures.0, c.requires.0.some), (kids_as _ _ _ c.size_at.ensures.0 c.requires.0, c.requires.0.deep, c.requires.1))

pub down-returns : goal.down-returns
down-returns t c = goes_as (down_as _ _ _ c.size_at.ensures.0 _ _) c.visit.ensures

pub eval-returns-then-is_fail : goal.eval-returns-then-is_fail
eval-returns-then-is_fail t c =
    goes_as (node_expression _ _ _ c.requires.0) (then c.down-s.ensures (cond_true _ (sym (fail_as _ _ _ c.size_at.ensures.0 _ c.requires.1 c.is_fail.ensures) ∙ c.if-is_fail.true) _ _ (stop_to fails Function refl c.stop.ensures (goes_fits c.down-s.ensures))))

pub eval-returns : goal.eval-returns
eval-returns t c =
    goes_as (node_expression _ _ _ c.requires.0) (then c.down-s.ensures (cond_false _ (sym (fail_as _ _ _ c.size_at.ensures.0 _ c.requires.1 c.is_fail.ensures) ∙ c.if-is_fail.false) _ _ (skips (goes_fits c.down-s.ensures))))

pub expr-returns-then-k : goal.expr-returns-then-k
expr-returns-then-k t c =
    goes_as (node_identifier _ _ _ (sym c.requires.0 ∙ c.if-k.true)) (goes_to c.used.ensures.1 c.used.ensures.0 ((methods _).used _ _ _ _ c.requires.3 (node_few c.requires.2)))

pub expr-returns : goal.expr-returns
expr-returns t c =
    goes_as (node_other _ _ _ c.args.k (sym c.requires.0) c.requires.1 c.if-k.false c.if-k-2.false c.if-k-3.false c.if-k-4.false) c.down.ensures

pub gets-returns : goal.gets-returns
gets-returns t c =
    goes_as (node_assign _ _ _ c.requires.0) (then c.down-s.ensures (then c.down-s-2.ensures c.assign.ensures))

pub lambda-returns : goal.lambda-returns
lambda-returns t c = goes_as (node_lambda _ _ _ c.requires.0) (then c.down-s.ensures c.body.ensures)

pub later-loop-i-init : goal.later-loop-i-init
later-loop-i-init t c =
    let n = c.size_at.ensures.0 in
    let m = c.size_at-2.ensures.0 in (
      rw n refl,
      walk_start c.into_iter-i-iterator.ensures.into_iter_gives c.siblings-i-items.ensures
          (rw (n, m) (below_rest c.requires.2 c.requires.0 c.requires.1))
          (omega (arith, c.requires.0), c.requires.3, refl, rw (n, m) (λ v y g. g)),
    )

pub later-clause-s-requires : goal.later-clause-s-requires
later-clause-s-requires t c =
    let h = walk_at c.loop-i.invariant.1 c.in-Some.ensures.steps.0 in let n = ended h.0 h.1 in
    (omega (arith, c.decreases, h.1, h.2.0, c.loop-i.invariant.0), (node_in_part h.0 h.1 (omega (arith, c.requires.2.deep, h.2.0)), h.2.1))

pub later-loop-i-preserved : goal.later-loop-i-preserved
later-loop-i-preserved t c =
    let g = c.clause-s.ensures in (
      c.loop-i.invariant.0,
      walk_on c.loop-i.invariant.1 c.in-Some.ensures.steps.0 (λ p lt h. (omega (arith, h.0), goes_fits g, omega (arith, h.2), λ v y q. h.3 v y (clauses_on c.args.self.now.fail p lt g q))),
    )

pub later-returns : goal.later-returns
later-returns t c =
    let h = walk_end c.loop-i.invariant.1 c.in-None.ensures.steps.0 in h.1.3 _ _ (clauses_last c.args.self.now.fail c.loop-i.i-iterator.at _ h.0 h.1.1)

pub loops-turn-s-requires : goal.loops-turn-s-requires
loops-turn-s-requires t c =
    (omega (arith, c.decreases), ((node_more c.requires.2 (c.args.d + 1) (omega (arith, c.requires.1))), (goes_fits c.down-s.ensures)))

pub loops-returns-then-n-gt-TWICE : goal.loops-returns-then-n-gt-TWICE
loops-returns-then-n-gt-TWICE t c =
    goes_as (node_for _ _ _ c.requires.0) (then c.down-s.ensures (loop_once c.if-n-gt-TWICE.true c.turn-s.ensures))

pub loops-turn-s-requires-2 : goal.loops-turn-s-requires-2
loops-turn-s-requires-2 t c =
    (omega (arith, c.decreases), ((node_more c.requires.2 (c.args.d + 1) (omega (arith, c.requires.1))), c.turn-s.ensures.does.fits))

pub loops-returns : goal.loops-returns
loops-returns t c =
    goes_as (node_for _ _ _ c.requires.0) (then c.down-s.ensures (loop_twice c.if-n-gt-TWICE.false c.turn-s.ensures c.turn-s-2.ensures))

pub modify-assign-requires : goal.modify-assign-requires
modify-assign-requires t c = (omega (arith, c.decreases), (c.requires.1, goes_fits (c.bind-s.ensures c.args.d)))

pub modify-returns : goal.modify-returns
modify-returns t c =
    goes_as (node_modify _ _ _ c.requires.0) (then c.down-s.ensures (then c.down-s-2.ensures (then (c.bind-s.ensures c.args.d) c.assign.ensures)))

pub over-down-requires : goal.over-down-requires
over-down-requires t c = let b = first_below c.requires.1 (sym c.in-Some.is ∙ c.requires.0) in let e = below_ends c.requires.1 b.0 b.1 in (omega (arith, c.decreases, e, b.0), (below_node c.requires.1 b.0 b.1, c.requires.2))

pub over-returns : goal.over-returns
over-returns t c = goes_as (over_there _ _ c.requires.1 (sym c.in-Some.is ∙ c.requires.0)) c.down.ensures

pub rest-returns : goal.rest-returns
rest-returns t c = then c.bound-s.ensures (then c.down-s.ensures c.down.ensures)

pub ret-returns : goal.ret-returns
ret-returns t c = return_node _ _ _ c.requires.0 c.down-s.ensures c.stop.ensures

pub side-join-requires : goal.side-join-requires
side-join-requires t c =
    (back_fits c.back.ensures c.requires.1 (goes_fits c.down-a.ensures) c.down-a.ensures.does.kept).settings

pub side-returns : goal.side-returns
side-returns t c =
    sides_to (methods _) c.requires.1 c.down-a.ensures c.back.ensures (skips (back_fits c.back.ensures c.requires.1 (goes_fits c.down-a.ensures) c.down-a.ensures.does.kept)) c.join.ensures

pub step-returns-then-has : goal.step-returns-then-has
step-returns-then-has t c = pick_true _ (sym c.has.ensures ∙ c.if-has.true) _ _ c.one.ensures

pub step-returns : goal.step-returns
step-returns t c = pick_false _ (sym c.has.ensures ∙ c.if-has.false) _ _ (skips c.requires.2)

pub stmt-returns : goal.stmt-returns
stmt-returns t c =
    goes_as (node_statement _ _ _ c.args.k (sym c.requires.0) c.requires.1 c.if-k-5.false c.if-k-6.false c.if-k.false c.if-k-2.false c.if-k-3.false c.if-k-4.false) c.down.ensures

pub turn-join-requires : goal.turn-join-requires
turn-join-requires t c =
    (back_fits c.back.ensures c.requires.1 (goes_fits c.down-a.ensures) (regroup (then c.assign-a.ensures c.down-a.ensures)).does.kept).settings

pub turn-returns : goal.turn-returns
turn-returns t c =
    turns_to (methods _) c.requires.1 (regroup (then c.assign-a.ensures c.down-a.ensures)) c.back.ensures c.join.ensures c.unlooped.ensures

pub visit-loop-c-init : goal.visit-loop-c-init
visit-loop-c-init t c =
    walk_start c.into_iter-c-iterator.ensures.into_iter_gives c.siblings-c-items.ensures c.requires.0 (omega arith, c.requires.2, refl, λ v y g. g)

pub visit-step-s-requires : goal.visit-step-s-requires
visit-step-s-requires t c =
    let h = walk_at c.loop-c.invariant c.in-Some.ensures.steps.0 in let n = ended h.0 h.1 in
    (omega (arith, c.decreases, h.1, h.2.0), (node_in_part h.0 h.1 (omega (arith, c.requires.1, h.2.0)), omega (arith, c.requires.1, h.2.0), h.2.1))

pub visit-loop-c-preserved : goal.visit-loop-c-preserved
visit-loop-c-preserved t c =
    let g = c.step-s.ensures in
    walk_on c.loop-c.invariant c.in-Some.ensures.steps.0 (λ p lt h. (omega (arith, h.0), goes_fits g, omega (arith, h.2), λ v y q. h.3 v y (visit_on c.args.self.now.fail c.args.wanted p lt g q)))

pub visit-returns : goal.visit-returns
visit-returns t c =
    let h = walk_end c.loop-c.invariant c.in-None.ensures.steps.0 in
    h.1.3 _ _ (visit_last c.args.self.now.fail c.args.wanted c.loop-c.c-iterator.at c.args.e h.0 h.1.1)

pub stmt-returns-then-k-5 : goal.stmt-returns-then-k-5
stmt-returns-then-k-5 t c =
    let e = stop_to (breaks (broken_by (node_head c.args.self.now.t.now c.args.c))) Loop refl c.stop.ensures c.requires.3 in
    elim c.then-k-5.either [ inl q ↦ goes_as (node_break _ _ _ (sym c.requires.0 ∙ q)) e | inr q ↦ goes_as (node_continue _ _ _ (sym c.requires.0 ∙ q.1)) e ]

pub expr-returns-then-k-3 : goal.expr-returns-then-k-3
expr-returns-then-k-3 t c =
    elim c.then-k-3.either [ inl q ↦ goes_as (node_list _ _ _ (sym c.requires.0 ∙ q)) c.comp.ensures | inr q ↦ goes_as (node_dict _ _ _ (sym c.requires.0 ∙ q.1)) c.comp.ensures ]

pub over-returns-in_default : goal.over-returns-in_default
over-returns-in_default t c = goes_as (over_none _ _ c.requires.1 (sym c.in_default.is ∙ c.requires.0)) (skips c.requires.2)

pub bound-returns-in_default : goal.bound-returns-in_default
bound-returns-in_default t c = goes_as (bound_none _ _ c.requires.1 (sym c.in_default.is ∙ c.requires.0)) (skips c.requires.2)
