use mathlib.Core.Path.{◌≡◌, sym, ◌∙◌}
use mathlib.Core.Bool.{true, false}
use Rattle.scope.specs.Words.{closed_of, farewell_of, late_of, unknown_of}
use lib.Dec.{eqb}
use borrow.Author.Tests.{not-true, not-false}
use Rattle.tree.specs.Bytes.{global_count}
use Rattle.scope.proofs.Scope.closed.Goals as goal

pub returns-then-globals_given : goal.returns-then-globals_given
unfolding closed_of farewell_of late_of unknown_of
returns-then-globals_given c =
    let e : eqb (global_count c.args.t.now) 65535 ≡ false = not-true _ (sym c.globals_given.ensures ∙ c.if-globals_given.true) in
    (c.warn_uses.ensures.0 ∙ rw (e, c.unbound.ensures.0, c.unbound.ensures.1, c.idle-idle.ensures.0, c.idle-idle.ensures.1, c.warn_uses-late.ensures.0, c.warn_uses-late.ensures.1, c.cant_set.ensures.0, c.cant_set.ensures.1), c.warn_uses.ensures.1 ∙ rw (e, c.unbound.ensures.0, c.unbound.ensures.1, c.idle-idle.ensures.0, c.idle-idle.ensures.1, c.warn_uses-late.ensures.0, c.warn_uses-late.ensures.1, c.cant_set.ensures.0, c.cant_set.ensures.1), c.warn_uses.ensures.2)

pub returns-else-globals_given : goal.returns-else-globals_given
unfolding closed_of farewell_of late_of unknown_of
returns-else-globals_given c =
    let e : eqb (global_count c.args.t.now) 65535 ≡ true = not-false _ (sym c.globals_given.ensures ∙ c.if-globals_given.false) in
    (c.idle-idle.ensures.0 ∙ rw (e, c.warn_uses-late.ensures.0, c.warn_uses-late.ensures.1, c.cant_set.ensures.0, c.cant_set.ensures.1), c.idle-idle.ensures.1 ∙ rw (e, c.warn_uses-late.ensures.0, c.warn_uses-late.ensures.1, c.cant_set.ensures.0, c.cant_set.ensures.1), c.idle-idle.ensures.2)
