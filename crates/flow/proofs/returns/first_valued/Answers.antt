use native.Mathlib.Omega.{arith}
use mathlib.Core.Path.{sym, ◌∙◌}
use Rattle.flow.proofs.ReturnsLaws.{tidy_later, valued_here, valued_next, valued_end}
use Rattle.flow.proofs.returns.first_valued.Goals as goal

pub returns-then-is_valued_return : goal.returns-then-is_valued_return
returns-then-is_valued_return c =
    valued_here c.loop-j.invariant.0 c.loop-j-test.true (sym c.is_valued_return.ensures ∙ c.if-is_valued_return.true) ∙ c.loop-j.invariant.1

pub loop-j-preserved : goal.loop-j-preserved
loop-j-preserved c =
    (tidy_later c.loop-j.invariant.0 (omega (arith, c.next-j.ensures)), valued_next c.loop-j.invariant.0 c.loop-j-test.true _ c.next-j.ensures (sym c.is_valued_return.ensures ∙ c.if-is_valued_return.false) ∙ c.loop-j.invariant.1)

pub returns : goal.returns
returns c = valued_end c.args.t.now c.loop-j.j c.args.e c.loop-j-test.false ∙ c.loop-j.invariant.1
