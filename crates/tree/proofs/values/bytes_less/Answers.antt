use native.Mathlib.Omega.{arith}
use mathlib.Core.Path.{sym, ◌∙◌}
use Rattle.tree.proofs.ValueLaws.{less_differ, less_eq, less_end}
use Rattle.tree.proofs.values.bytes_less.Goals as goal

pub returns-then-x-y : goal.returns-then-x-y
returns-then-x-y c =
    rw (c.byte_at-x.ensures.0, c.byte_at-y.ensures.0) (sym (less_differ c.args.t.now c.args.k c.loop-i.i c.args.a c.args.b (omega arith) (rw (c.byte_at-x.ensures.0, c.byte_at-y.ensures.0) at c.if-x-y.true)) ∙ c.loop-i.invariant)

pub loop-i-preserved : goal.loop-i-preserved
loop-i-preserved c =
    less_eq c.args.t.now c.args.k c.loop-i.i c.args.a c.args.b (omega arith) (omega arith) (omega arith) ∙ c.loop-i.invariant

pub returns : goal.returns
returns c = sym (less_end c.args.t.now c.args.k c.loop-i.i c.args.a c.args.b (omega arith)) ∙ c.loop-i.invariant
