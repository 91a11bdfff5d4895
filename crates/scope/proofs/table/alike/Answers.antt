use mathlib.Core.Path.{◌≡◌}
use Rattle.scope.specs.Words.{alike_at}
use Rattle.scope.specs.declared.table.Like.TheVariants.{Name, Spot, Setting}
use Rattle.scope.proofs.table.alike.Goals as goal

pub returns-in-Name : goal.returns-in-Name
unfolding alike_at
returns-in-Name c = let z : c.args.how ≡ Name = c.in-Name.is in rw z c.same_name.ensures

pub returns-in-Spot : goal.returns-in-Spot
unfolding alike_at
returns-in-Spot c = let z : c.args.how ≡ Spot = c.in-Spot.is in rw z c.same_spot.ensures

pub returns-in-Setting : goal.returns-in-Setting
unfolding alike_at
returns-in-Setting c = let z : c.args.how ≡ Setting = c.in-Setting.is in rw z c.same_setting.ensures
