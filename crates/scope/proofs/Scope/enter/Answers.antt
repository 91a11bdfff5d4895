use mathlib.Core.Path.{refl}
use Rattle.scope.specs.Words.{enter_scope}
use Rattle.scope.proofs.Scope.enter.Goals as goal

pub returns : goal.returns
unfolding enter_scope
returns c = refl
