use mathlib.Core.Path.{sym, ◌∙◌}
use Rattle.answer.proofs.Flat.{added_none, added_as, added_both}
use Rattle.flow.proofs.Tails.{tail_kind, tail_none, last_none, last_some}
use Rattle.flow.proofs.redundant.+checking.Goals as goal

pub check-returns-then-k : goal.check-returns-then-k
check-returns-then-k t c =
    added_as _ (tail_kind c.args.loops c.args.t.now c.args.i 2 (sym c.kind_at-k.ensures.0 ∙ c.if-k.true)) c.continues.ensures

pub check-returns-then-k-2 : goal.check-returns-then-k-2
check-returns-then-k-2 t c =
    added_as _ (tail_kind c.args.loops c.args.t.now c.args.i 4 (sym c.kind_at-k.ensures.0 ∙ c.if-k-2.true)) c.bare.ensures

pub check-returns-then-k-3 : goal.check-returns-then-k-3
check-returns-then-k-3 t c =
    added_as _ (tail_kind c.args.loops c.args.t.now c.args.i 8 (sym c.kind_at-k.ensures.0 ∙ c.if-k-3.true)) (rw c.size_at.ensures.0 at c.last.ensures)

pub check-returns-then-k-4 : goal.check-returns-then-k-4
check-returns-then-k-4 t c =
    added_as _ (tail_kind c.args.loops c.args.t.now c.args.i 9 (sym c.kind_at-k.ensures.0 ∙ c.if-k-4.true)) (rw c.size_at.ensures.0 at c.last-then-k-4.ensures)

pub check-returns-then-k-5 : goal.check-returns-then-k-5
check-returns-then-k-5 t c =
    added_as _ (tail_kind c.args.loops c.args.t.now c.args.i 10 (sym c.kind_at-k.ensures.0 ∙ c.if-k-5.true)) (rw c.size_at.ensures.0 at c.sides.ensures)

pub check-returns-else-k-5 : goal.check-returns-else-k-5
check-returns-else-k-5 t c =
    let k = c.kind_at-k.ensures.0 in
    added_as _ (tail_none c.args.loops c.args.t.now c.args.i (λ z. c.if-k.false (k ∙ z)) (λ z. c.if-k-2.false (k ∙ z)) (λ z. c.if-k-3.false (k ∙ z)) (λ z. c.if-k-4.false (k ∙ z)) (λ z. c.if-k-5.false (k ∙ z))) (added_none _)

pub last-returns-in-Some : goal.last-returns-in-Some
last-returns-in-Some t c = added_as _ (last_some c.args.loops c.args.role c.in-Some.ensures) c.check.ensures

pub last-returns-in_default : goal.last-returns-in_default
last-returns-in_default t c = added_as _ (last_none c.args.loops c.args.role c.in_default.ensures) (added_none _)

pub sides-returns : goal.sides-returns
sides-returns t c = added_both c.last.ensures c.last-2.ensures
