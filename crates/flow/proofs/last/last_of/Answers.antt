use Rattle.tree.proofs.Walked.{walk_start, walk_on, walk_end}
use Rattle.flow.proofs.LastLaws.{looked_start, looked_here, looked_past, looked_end}
use Rattle.flow.proofs.last.last_of.Goals as goal

pub loop-j-init : goal.loop-j-init
loop-j-init c =
    walk_start c.into_iter-j-iterator.ensures.into_iter_gives c.siblings-j-items.ensures c.requires (looked_start c.args.t.now c.args.role c.args.i c.args.e)

pub loop-j-preserved-then-role_at-role : goal.loop-j-preserved-then-role_at-role
loop-j-preserved-then-role_at-role c =
    walk_on c.loop-j.invariant c.in-Some.ensures.steps.0 (λ p lt l. looked_here l p lt (rw c.role_at.ensures.0 at c.if-role_at-role.true))

pub loop-j-preserved : goal.loop-j-preserved
loop-j-preserved c =
    walk_on c.loop-j.invariant c.in-Some.ensures.steps.0 (λ p lt l. looked_past l p lt (rw c.role_at.ensures.0 at c.if-role_at-role.false))

pub returns : goal.returns
returns c = let h = walk_end c.loop-j.invariant c.in-None.ensures.steps.0 in looked_end h.1 h.0
