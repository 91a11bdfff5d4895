use mathlib.Core.Path.{sym, ap, ◌∙◌}
use Rattle.scope.specs.Words.{Lines}
use Rattle.scope.proofs.Steps.{uses_end, uses_next}
use Rattle.scope.proofs.Scope.warn_uses.Goals as goal

pub loop-k-preserved : goal.loop-k-preserved
loop-k-preserved c =
    (c.warn_use-count.ensures.2, rw (c.warn_use-count.ensures.0, c.warn_use-count.ensures.1, c.own-own.ensures.0, c.own-own.ensures.1, c.word_at.ensures.0) (c.loop-k.invariant.1 ∙ uses_next c.args.late c.args.t.now c.args.self.first c.args.self.settings c.loop-k.w c.loop-k.count c.loop-k.k c.args.at.to c.loop-k-test.true))

pub returns : goal.returns
returns c =
    let e = c.loop-k.invariant.1 ∙ uses_end c.args.late c.args.t.now c.args.self.first c.args.self.settings c.loop-k.w c.loop-k.count c.loop-k.k c.args.at.to c.loop-k-test.false in
    (sym (ap (λ (l : Lines). l.count) e), sym (ap (λ (l : Lines). l.words) e), c.loop-k.invariant.0)
