use native.Mathlib.Omega.{arith}
use mathlib.Core.Path.{sym}
use Rattle.tree.proofs.Laws.{ended}
use Rattle.tree.proofs.Walked.{walk_start, walk_end, walk_at, walk_on}
use Rattle.answer.proofs.Flat.{empty, going, going_on, going_end, onward}
use Rattle.dubious.proofs.Steps.{dict_start, dict_step, dict_end}
use Rattle.dubious.proofs.Walk.dict.Goals as goal

pub loop-j-init : goal.loop-j-init
loop-j-init c =
    walk_start c.into_iter-j-iterator.ensures.into_iter_gives c.siblings-j-items.ensures c.requires.0
    (empty c.args.self.now.t.now c.args.i c.requires.0 c.requires.1, omega arith, c.requires.1, going _ _)

pub clash-requires : goal.clash-requires
clash-requires c = (walk_at c.loop-j.invariant c.in-Some.ensures.steps.0).2.0

pub loop-j-preserved : goal.loop-j-preserved
loop-j-preserved c =
    walk_on c.loop-j.invariant c.in-Some.ensures.steps.0 (λ q lt h.
    (onward h.0 q lt, omega (arith, h.1), ended q lt, going_on h.3 _ _ c.clash.ensures (dict_step c.args.self.now.numbers.now h.0 q h.1 lt)))

pub returns : goal.returns
returns c =
    let ns = c.args.self.now.numbers.now in
    let t = c.args.self.now.t.now in
    let h = walk_end c.loop-j.invariant c.in-None.ensures.steps.0 in
    rw (sym (dict_start ns t c.args.i c.args.e)) (going_end h.1.3 (dict_end ns t c.args.i c.loop-j.j-iterator.at c.args.e h.0))
