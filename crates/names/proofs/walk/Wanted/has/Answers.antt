use lib.Dec.{eqb}
use mathlib.Core.Path.{ap₂}
use Rattle.names.proofs.Roles.{cast}
use Rattle.names.proofs.walk.Wanted.has.Goals as goal

pub returns-in-Of : goal.returns-in-Of
returns-in-Of c = rw c.in-Of.is (ap₂ eqb (cast c.in-Of.role) c.role_at.ensures.0)
