use mathlib.Core.Path.{refl}
use Rattle.scope.specs.Words.{back_scope}
use Rattle.scope.proofs.Scope.back.Goals as goal

pub returns : goal.returns
unfolding back_scope
returns c = refl
