-- A number that no code has: 0, or one above the last code's. Assumes nothing.
use mathlib.Core.Path.{sym}
use mathlib.Core.Logic.{inl, inr}
use Rattle.codes.proofs.Padded.{no_name}
use Rattle.rules.specs.Codes.{short_name}
use Rattle.codes.proofs.short_name.Goals as goal

pub returns-in-Err : goal.returns-in-Err
unfolding short_name
returns-in-Err c = elim c.in-Err.ensures.1 [ inl h ↦ rw h | inr h ↦ sym (no_name c.args.code h) ]
