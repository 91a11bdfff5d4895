use mathlib.Core.Path.{sym, ◌∙◌}
use Rattle.std.proofs.lemmas.Bool.{ne_eqb}
use Rattle.flow.proofs.Steps.{may_so}
use Rattle.flow.proofs.loads.allows.Goals as goal

pub returns-then-keeps : goal.returns-then-keeps
returns-then-keeps c =
    let kept = (rw c.kind_at-k.ensures.0 at (sym c.keeps.ensures)) ∙ c.if-keeps.true in
    c.if-keeps.true ∙ sym (may_so c.args.strings.now c.args.allowed c.args.t.now c.args.j ∙ rw (c.if-allowed.true, kept))

pub returns-then-k : goal.returns-then-k
returns-then-k c =
    let k = sym c.kind_at-k.ensures.0 ∙ c.if-k.true in
    let left = (rw c.kind_at-k.ensures.0 at (sym c.keeps.ensures)) ∙ c.if-keeps.false in
    sym (may_so c.args.strings.now c.args.allowed c.args.t.now c.args.j ∙ rw (c.if-allowed.true, left, k) (sym (rw c.size_at.ensures.0 at c.is_text.ensures)))

pub returns-else-k : goal.returns-else-k
returns-else-k c =
    let other = ne_eqb c.kind_at-k.result 5 c.if-k.false in
    let left = (rw c.kind_at-k.ensures.0 at (sym c.keeps.ensures)) ∙ c.if-keeps.false in
    rw other (sym (may_so c.args.strings.now c.args.allowed c.args.t.now c.args.j ∙ rw (c.if-allowed.true, left, rw c.kind_at-k.ensures.0 at other)))
