use native.Mathlib.Omega.{arith}
use mathlib.Core.Path.{◌∙◌}
use Rattle.tree.proofs.TableLaws.{listed_next}
use Rattle.tree.proofs.lookup.is_global.Goals as goal

pub loop-i-preserved : goal.loop-i-preserved
loop-i-preserved c =
    listed_next c.args.t.now c.listed_of-count.result c.offset_of-from.result c.args.v c.loop-i.i (omega arith) (λ q. c.if-u16_at-v.false (c.u16_at.ensures.0 ∙ q)) ∙ c.loop-i.invariant
