use mathlib.Core.Path.{◌≡◌, sym, ◌∙◌}
use mathlib.Core.Bool.{true, false}
use Rattle.scope.specs.Words.{taken_scope, taken_words, sure_of}
use Rattle.scope.proofs.Scope.taken.Goals as goal

pub returns-then-is_sure : goal.returns-then-is_sure
unfolding taken_scope taken_words
returns-then-is_sure c = let e : sure_of c.args.s ≡ true = sym c.is_sure.ensures ∙ c.if-is_sure.true in (rw e, rw e c.mark.ensures)

pub returns-else-is_sure : goal.returns-else-is_sure
unfolding taken_scope taken_words
returns-else-is_sure c =
    let e : sure_of c.args.s ≡ false = sym c.is_sure.ensures ∙ c.if-is_sure.false in
    (rw (e, ← c.mark.ensures) c.warned.ensures.0, rw (e, ← c.mark.ensures) c.warned.ensures.1)
