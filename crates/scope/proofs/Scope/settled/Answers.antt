use mathlib.Core.Path.{sym, ap, ◌∙◌}
use mathlib.Core.List.{List}
use lib.ListN.{set}
use Rattle.scope.specs.declared.Scope.{Scope}
use Rattle.scope.specs.declared.Entry.{Entry}
use Rattle.scope.specs.Words.{with_entries, settled_scope}
use Rattle.scope.proofs.Steps.{resets_end, resets_next}
use Rattle.scope.proofs.Scope.settled.Goals as goal

pub loop-j-preserved : goal.loop-j-preserved
loop-j-preserved c =
    let v = set c.loop-j.self.entries c.loop-j.j c.reset.result in
    (ap (λ (s : Scope). with_entries v s) c.loop-j.invariant.0, rw (c.reset.ensures, c.word_at.ensures.0) (c.loop-j.invariant.1 ∙ resets_next c.args.t.now c.args.w.now c.args.i c.loop-j.self.entries c.loop-j.j c.args.self.settings c.loop-j-test.true))

pub returns : goal.returns
unfolding settled_scope
returns c =
    c.loop-j.invariant.0 ∙ ap (λ (es : List Entry). with_entries es c.args.self) (sym (c.loop-j.invariant.1 ∙ resets_end c.args.t.now c.args.w.now c.args.i c.loop-j.self.entries c.loop-j.j c.args.self.settings c.loop-j-test.false))
