use mathlib.Core.Path.{sym, ap, ◌∙◌}
use mathlib.Core.List.{List}
use lib.ListN.{set}
use Rattle.scope.specs.declared.Scope.{Scope}
use Rattle.scope.specs.declared.Entry.{Entry}
use Rattle.scope.specs.Words.{with_entries, merged_scope}
use Rattle.scope.proofs.Steps.{merges_end, merges_next}
use Rattle.scope.proofs.Scope.merged.Goals as goal

pub loop-j-preserved : goal.loop-j-preserved
loop-j-preserved c =
    let v = set c.loop-j.self.entries c.loop-j.j c.joined.result in
    (ap (λ (s : Scope). with_entries v s) c.loop-j.invariant.0, rw c.joined.ensures (c.loop-j.invariant.1 ∙ merges_next c.args.a c.args.b c.args.one.entries c.loop-j.self.entries c.loop-j.j c.args.self.settings c.loop-j-test.true))

pub returns : goal.returns
unfolding merged_scope
returns c =
    c.loop-j.invariant.0 ∙ ap (λ (es : List Entry). with_entries es c.args.self) (sym (c.loop-j.invariant.1 ∙ merges_end c.args.a c.args.b c.args.one.entries c.loop-j.self.entries c.loop-j.j c.args.self.settings c.loop-j-test.false))
