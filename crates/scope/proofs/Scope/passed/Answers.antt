use native.Mathlib.Omega.{arith}
use mathlib.Core.Path.{sym, ap, ◌∙◌}
use Rattle.scope.specs.Words.{Lines, passed_of}
use Rattle.scope.proofs.Steps.{passes_end, passes_next}
use Rattle.scope.proofs.Scope.passed.Goals as goal

pub loop-k-preserved : goal.loop-k-preserved
loop-k-preserved c =
    (omega arith, omega arith, rw (c.passed_one-end.ensures.0, c.passed_one-end.ensures.1, c.own-own.ensures.0, c.own-own.ensures.1, c.word_at.ensures.0) (c.loop-k.invariant.2 ∙ passes_next c.args.t.now c.args.self.first c.args.self.settings c.args.z c.loop-k.w c.loop-k.end c.loop-k.k c.args.self.looses c.loop-k-test.true))

pub returns : goal.returns
unfolding passed_of
returns c =
    let e = c.loop-k.invariant.2 ∙ passes_end c.args.t.now c.args.self.first c.args.self.settings c.args.z c.loop-k.w c.loop-k.end c.loop-k.k c.args.self.looses c.loop-k-test.false in
    (sym (ap (λ (l : Lines). l.count) e), sym (ap (λ (l : Lines). l.words) e))
