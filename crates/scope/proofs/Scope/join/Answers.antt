use mathlib.Core.Path.{◌≡◌, refl}
use Rattle.std.specs.Ordering.{ord_min}
use Rattle.scope.specs.Words.{join_scope, smaller_of}
use Rattle.scope.specs.contracts.AbortOrd.TheImpl.{cmp-value}
use Rattle.scope.specs.declared.Abort.{Abort}
use Rattle.scope.specs.declared.Abort.TheVariants.{Runs, Loop, Function}
use Rattle.scope.proofs.Scope.join.Goals as goal

min_smaller : (a b : Abort) → ord_min cmp-value.it a b ≡ smaller_of a b
min_smaller Runs Runs = refl
min_smaller Runs Loop = refl
min_smaller Runs Function = refl
min_smaller Loop Runs = refl
min_smaller Loop Loop = refl
min_smaller Loop Function = refl
min_smaller Function Runs = refl
min_smaller Function Loop = refl
min_smaller Function Function = refl

pub returns : goal.returns
unfolding join_scope
returns c =
    rw (c.stop.ensures, c.merged.ensures, c.aborts.ensures, c.aborts-2.ensures, c.min.ensures, min_smaller c.args.one.abort c.args.self.abort)
