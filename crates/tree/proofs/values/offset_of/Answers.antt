use native.Mathlib.Omega.{arith}
use mathlib.Core.Path.{sym}
use Rattle.tree.proofs.ValueLaws.{offset_start, offset_step}
use Rattle.tree.proofs.values.offset_of.Goals as goal

pub loop-i-init : goal.loop-i-init
loop-i-init c = (omega arith, sym (offset_start c.args.t.now c.args.n))

pub loop-i-preserved : goal.loop-i-preserved
loop-i-preserved c =
    (omega (arith, c.u16_at.ensures.1), offset_step c.args.t.now c.args.n c.loop-i._i c.loop-i.at c.u16_at.result c.loop-i.invariant.1 c.u16_at.ensures.0)
