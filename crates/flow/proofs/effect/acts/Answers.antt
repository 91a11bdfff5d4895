use mathlib.Core.Path.{sym, ap, ◌∙◌}
use Rattle.flow.specs.Walks.{is_text}
use Rattle.flow.proofs.Steps.{acts_string, acts_other}
use Rattle.flow.proofs.effect.acts.Goals as goal

pub returns-then-k : goal.returns-then-k
returns-then-k c =
    acts_string c.args.strings.now c.args.t.now c.args.j (sym c.kind_at-k.ensures.0 ∙ c.if-k.true) (c.is_string.ensures ∙ ap (is_text c.args.strings.now) c.value_at.ensures.0)

pub returns-then-not-has_none : goal.returns-then-not-has_none
returns-then-not-has_none c =
    let k = c.kind_at-k.ensures.0 in
    let none = (rw k at (sym c.has_none.ensures)) ∙ c.if-not-has_none.true in
    rw (c.by_children.ensures, k) (rw none at (acts_other c.args.strings.now c.args.t.now c.args.j (rw k at c.if-k.false)))

pub returns-else-not-has_none : goal.returns-else-not-has_none
returns-else-not-has_none c =
    let k = c.kind_at-k.ensures.0 in
    let none = (rw k at (sym c.has_none.ensures)) ∙ c.if-not-has_none.false in
    rw c.if-not-has_none.false (rw none at (acts_other c.args.strings.now c.args.t.now c.args.j (rw k at c.if-k.false)))
