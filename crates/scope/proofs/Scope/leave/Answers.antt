use mathlib.Core.Path.{◌∙◌}
use Rattle.scope.specs.Words.{leave_scope, leave_words, farewell_of, late_of}
use Rattle.scope.proofs.Scope.leave.Goals as goal

pub returns : goal.returns
unfolding leave_scope leave_words farewell_of late_of
returns c =
    (rw (c.passed-looses.ensures.0, c.idle-warnings.ensures.0, c.idle-warnings.ensures.1, c.warn_uses-late.ensures.0, c.warn_uses-late.ensures.1, c.cant_set.ensures.0, c.cant_set.ensures.1), c.passed-looses.ensures.1 ∙ rw (c.idle-warnings.ensures.1, c.warn_uses-late.ensures.0, c.warn_uses-late.ensures.1, c.cant_set.ensures.0, c.cant_set.ensures.1))
