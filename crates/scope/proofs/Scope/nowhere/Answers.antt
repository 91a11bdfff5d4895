use native.Mathlib.Omega.{arith}
use Rattle.scope.specs.Words.{away_scope, away_words, cannot_scope}
use Rattle.scope.proofs.Scope.nowhere.Goals as goal

pub unbinds-requires : goal.unbinds-requires
unfolding cannot_scope
unbinds-requires c = rw c.cannot.ensures.0 (omega arith, omega arith, omega arith)

pub returns : goal.returns
unfolding away_scope away_words
returns c =
    (rw (← c.cannot.ensures.0, ← c.cannot.ensures.1) c.unbinds.ensures.0, rw (← c.cannot.ensures.0, ← c.cannot.ensures.1) c.unbinds.ensures.1)
