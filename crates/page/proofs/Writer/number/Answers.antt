-- The same digits, told with their own bound. Assumes nothing.
use native.Mathlib.Omega.{arith}
use Rattle.page.proofs.Decimals.{number_wrote}
use Rattle.page.proofs.Writer.number.Goals as goal

pub returns : goal.returns
returns c = record { wrote = number_wrote c.args.x (omega arith) c.decimal.ensures.wrote; same_room = c.decimal.ensures.same_room }
