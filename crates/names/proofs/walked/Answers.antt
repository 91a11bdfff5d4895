-- `walked` meets its contract. Assumes nothing.
use native.Mathlib.Omega.{arith}
use Rattle.names.proofs.Going.{goes_as, goes_fits}
use Rattle.names.proofs.Held.{methods}
use Rattle.names.proofs.Starts.{new_fits, walked_out, module_as}
use Rattle.names.proofs.walked.Goals as goal

pub visit-s-requires : goal.visit-s-requires
visit-s-requires c = (c.requires.0.part, omega arith, new_fits c.requires.1 c.new.ensures)

pub returns : goal.returns
returns c = (
  c.closed.ensures.2,
  walked_out (methods _) c.new.ensures (goes_as (module_as _ _ c.number_of-fail.ensures) c.visit-s.ensures) c.requires.0.room c.requires.0.few
      c.closed.ensures.0 c.closed.ensures.1,
)
