use mathlib.Core.Path.{sym, ◌∙◌}
use Rattle.tree.proofs.Walked.{walk_start, walk_end, walk_on}
use Rattle.dubious.proofs.Steps.{scan_start, scan_hit, scan_over, scan_end, equal_by}
use Rattle.dubious.proofs.Walk.previous.Goals as goal

pub loop-m-init : goal.loop-m-init
loop-m-init c =
    walk_start c.into_iter-m-iterator.ensures.into_iter_gives c.siblings-m-items.ensures c.requires
    (scan_start c.args.self.now.numbers.now c.args.self.now.t.now c.args.j c.args.i)

pub loop-m-preserved-then-is_equal_key : goal.loop-m-preserved-then-is_equal_key
loop-m-preserved-then-is_equal_key c =
    walk_on c.loop-m.invariant c.in-Some.ensures.steps.0 (λ p lt s. scan_hit _ _ _ _ _ _ p lt s (equal_by _ _ _ _ c.number-number.ensures (sym c.if-is_equal_key.true ∙ c.is_equal_key.ensures)))

pub loop-m-preserved : goal.loop-m-preserved
loop-m-preserved c =
    walk_on c.loop-m.invariant c.in-Some.ensures.steps.0 (λ p lt s. scan_over _ _ _ _ _ _ p lt s (equal_by _ _ _ _ c.number-number.ensures (sym c.if-is_equal_key.false ∙ c.is_equal_key.ensures)))

pub returns : goal.returns
returns c =
    let h = walk_end c.loop-m.invariant c.in-None.ensures.steps.0 in
    scan_end c.args.self.now.numbers.now c.args.self.now.t.now c.args.j c.args.i c.loop-m.old c.loop-m.m-iterator.at h.1 h.0
