use mathlib.Core.Path.{refl}
use Rattle.tree.proofs.Walked.{next_at, along_start, along_at, along_on, along_end}
use Rattle.fail.proofs.Laws.{named_end, named_here, named_next}
use Rattle.fail.proofs.names_fail.Goals as goal

pub loop-j-init : goal.loop-j-init
loop-j-init c = along_start c.into_iter-j-iterator.ensures.into_iter_gives c.siblings-j-items.ensures (λ p. (p, refl))

pub returns-then-is_named : goal.returns-then-is_named
returns-then-is_named c =
    let h = along_at c.loop-j.invariant c.in-Some.ensures.steps.0 in named_here c.args.fail c.is_named.ensures h.1 h.0 c.if-is_named.true

pub loop-j-preserved : goal.loop-j-preserved
loop-j-preserved c =
    along_on c.loop-j.invariant c.in-Some.ensures.steps.0 (λ x h. named_next c.args.fail c.is_named.ensures h x.within (next_at x) c.if-is_named.false)

pub returns : goal.returns
returns c =
    let h = along_end c.loop-j.invariant c.in-None.ensures.steps.0 in named_end c.args.fail h.1 h.0
