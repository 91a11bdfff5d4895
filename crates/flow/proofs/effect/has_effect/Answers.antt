use native.Mathlib.Omega.{arith}
use mathlib.Core.Path.{sym, ◌∙◌}
use Rattle.tree.proofs.Laws.{sized, later}
use Rattle.flow.specs.Walks.{is_text}
use Rattle.flow.proofs.Steps.{effect_past, effect_hit, effect_miss, inside_after}
use Rattle.flow.proofs.effect.has_effect.Goals as goal

pub returns-then-acts : goal.returns-then-acts
returns-then-acts c =
    effect_hit c.args.strings.now c.loop-j.invariant.0 c.loop-j-test.true (sym c.acts.ensures ∙ c.if-acts.true) ∙ sym c.loop-j.invariant.1

pub loop-j-preserved : goal.loop-j-preserved
loop-j-preserved c =
    rw c.inward-j.ensures (later c.loop-j.invariant.0 (omega (arith, inside_after c.args.t.now c.loop-j.j (sized c.loop-j.invariant.0 c.loop-j-test.true))), c.loop-j.invariant.1 ∙ effect_miss c.args.strings.now c.loop-j.invariant.0 c.loop-j-test.true (sym c.acts.ensures ∙ c.if-acts.false))

pub returns : goal.returns
returns c =
    effect_past (is_text c.args.strings.now) c.args.t.now c.loop-j.j c.args.e c.loop-j-test.false ∙ sym c.loop-j.invariant.1
