use mathlib.Core.Path.{sym, ◌∙◌}
use Rattle.scope.proofs.Steps.{marks_end, marks_next}
use Rattle.scope.proofs.Scope.mark.Goals as goal

pub loop-j-preserved : goal.loop-j-preserved
loop-j-preserved c =
    rw (c.mark_one.ensures, c.is_held.ensures) (c.loop-j.invariant ∙ marks_next c.args.t.now c.args.self.entries c.args.i c.loop-j.w c.loop-j.j c.args.at.to c.loop-j-test.true)

pub returns : goal.returns
returns c =
    sym (c.loop-j.invariant ∙ marks_end c.args.t.now c.args.self.entries c.args.i c.loop-j.w c.loop-j.j c.args.at.to c.loop-j-test.false)
