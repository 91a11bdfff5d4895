-- `binds_name` meets its contract. Assumes nothing.
use mathlib.Core.Path.{refl}
use mathlib.Core.Logic.{inl, inr}
use borrow.Author.Tests.{ne_eqb}
use Rattle.names.specs.Walk.{names_of}
use Rattle.names.proofs.Parts.{absurd}
use Rattle.names.proofs.walk.binds_name.Goals.{then-k, else-k}
use Rattle.names.proofs.walk.binds_name.Goals as goal

pub returns-then-k-2 : goal.returns-then-k-2
unfolding names_of
returns-then-k-2 c =
    elim c.if-k.branch [
      | then-k w ↦ rw (w.t-3-is, w.if-k.true) refl
      | else-k w ↦ elim c.if-k-2.either [ inl q ↦ absurd (w.if-k.false q) | inr q ↦ rw (w.t-3-is, q.1) refl ]
    ]

pub returns-else-k-2 : goal.returns-else-k-2
unfolding names_of
returns-else-k-2 c = rw (ne_eqb _ 40 c.if-k-2.false.0, ne_eqb _ 43 c.if-k-2.false.1)
