use mathlib.Core.Path.{refl}
use Rattle.scope.specs.Words.{new_scope}
use Rattle.scope.proofs.Scope.new.Goals as goal

pub returns : goal.returns
unfolding new_scope
returns c = refl
