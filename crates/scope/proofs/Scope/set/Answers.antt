use native.Mathlib.Omega.{arith}
use mathlib.Core.Path.{◌∙◌}
use Rattle.scope.specs.Words.{set_scope}
use Rattle.scope.proofs.Steps.{added_small}
use Rattle.scope.proofs.Scope.set.Goals as goal

pub settled-requires : goal.settled-requires
settled-requires c = rw c.added.ensures.0 (added_small c.args.t.now c.args.w.now c.args.self c.args.i (omega arith))

pub returns : goal.returns
unfolding set_scope
returns c = (c.settled.ensures ∙ rw (c.added.ensures.0, c.added.ensures.1), c.added.ensures.1)
