use Rattle.tree.proofs.Laws.{sized, ended, first}
use Rattle.tree.proofs.Walked.{walk_start, walk_at, walk_on, walk_end}
use Rattle.incompatible.proofs.Told.{telling, telling_on, telling_end}
use Rattle.incompatible.proofs.Deeds.{fewer, named_over, named_past}
use Rattle.incompatible.proofs.assigns.Defined.visit_lvalue.Goals as goal

pub loop-j-init : goal.loop-j-init
loop-j-init c =
    walk_start c.into_iter-j-iterator.ensures.into_iter_gives c.siblings-j-items.ensures c.requires.0 (c.requires.1, telling _ _ _ _)

pub lvalue-requires : goal.lvalue-requires
lvalue-requires c =
    let h = walk_at c.loop-j.invariant c.in-Some.ensures.steps.0 in
    (record { part = first h.0 h.1; some = sized h.0 h.1 }, fewer h.2.0 (ended h.0 h.1))

pub loop-j-preserved : goal.loop-j-preserved
loop-j-preserved c =
    walk_on c.loop-j.invariant c.in-Some.ensures.steps.0 (λ p lt h. (h.0, telling_on h.1 _ _ c.lvalue.ensures (named_over c.args.role p lt)))

pub returns : goal.returns
returns c =
    let h = walk_end c.loop-j.invariant c.in-None.ensures.steps.0 in
    telling_end h.1.1 (named_past c.args.role c.args.t.now c.loop-j.j-iterator.at c.args.e h.0)
