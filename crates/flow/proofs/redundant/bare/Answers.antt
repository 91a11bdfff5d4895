use mathlib.Core.Path.{sym, ◌∙◌}
use Rattle.answer.proofs.Flat.{added_none, added_as}
use Rattle.flow.proofs.redundant.bare.Goals as goal
use Rattle.flow.proofs.redundant.bare.Goals.{else-not-loops-via-then-not-loops+else-not-is_valued, else-not-loops-via-else-not-loops}

pub returns-else-not-loops : goal.returns-else-not-loops
returns-else-not-loops c =
    elim c.else-not-loops.branch [
      | else-not-loops-via-then-not-loops+else-not-is_valued w ↦ added_as _ (rw (w.if-not-loops.true, sym w.is_valued.ensures ∙ w.if-not-is_valued.false)) (added_none _)
      | else-not-loops-via-else-not-loops w ↦ added_as _ (rw w.if-not-loops.false) (added_none _)
    ]
