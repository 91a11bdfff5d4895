-- What the contract of dubious says, as the checker reads it (Post: of the arguments a, the result r and the lent words s afterwards):
-- dubious-call. Assumes nothing.
use mathlib.Core.Path.{◌≡◌}
use Rattle.rules.specs.Calls.{Done, dubious_call}
use Rattle.dubious.proofs.dubious.Reads as contract

pub promised : (κs : _) (a : _) (r : _) (s : _) → contract.Post κs a r s
    → ◌≡◌ {A = Done} (record { answer = r; room = s.1.1.0.now }) (dubious_call a.1.0 a.0.now a.1.1.0.now a.1.1.1.0)
promised κs a r s p = p
