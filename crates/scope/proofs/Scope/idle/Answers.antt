use mathlib.Core.Path.{◌≡◌, sym, ap, ◌∙◌}
use Rattle.scope.specs.State.{node_in}
use Rattle.scope.specs.Words.{Lines, find_in, idle_of}
use Rattle.scope.specs.declared.table.Like.TheVariants.{Spot}
use Rattle.scope.proofs.Find.{found_self}
use Rattle.scope.proofs.Steps.{idles_end, idles_next}
use Rattle.scope.proofs.Scope.idle.Goals as goal

pub loop-j-preserved : goal.loop-j-preserved
loop-j-preserved c =
    let f = found_self c.args.t.now c.loop-j.w c.loop-j.j c.args.self.first c.args.self.settings c.loop-j.auto.j c.loop-j-test.true in
    let q : c.unwrap_or-p.result ≡ find_in c.args.t.now c.loop-j.w Spot c.args.self.first c.args.self.settings (node_in c.loop-j.w c.loop-j.j) = c.unwrap_or-p.ensures ∙ rw (c.find.ensures.place, c.own-own.ensures.0, c.own-own.ensures.1, c.word_at-i.ensures.0, f) in
    (c.idle_one-count.ensures.2, rw (c.idle_one-count.ensures.0, c.idle_one-count.ensures.1, c.spared-spared.ensures, c.unbound-unbound.ensures.0, c.unbound-unbound.ensures.1, c.is_held-held.ensures, q, c.word_at-i.ensures.0) (c.loop-j.invariant.1 ∙ idles_next c.args.t.now c.args.top c.args.self c.loop-j.w c.loop-j.count c.loop-j.j c.args.self.settings c.loop-j-test.true))

pub returns : goal.returns
unfolding idle_of
returns c =
    let e = c.loop-j.invariant.1 ∙ idles_end c.args.t.now c.args.top c.args.self c.loop-j.w c.loop-j.count c.loop-j.j c.args.self.settings c.loop-j-test.false in
    (sym (ap (λ (l : Lines). l.count) e), sym (ap (λ (l : Lines). l.words) e), c.loop-j.invariant.0)
