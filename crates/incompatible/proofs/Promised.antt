-- What the contract of incompatible says, as the checker reads it (Post: of the arguments a, the result r and the lent words s afterwards):
-- incompatible-call. Assumes nothing.
use mathlib.Core.Path.{◌≡◌}
use Rattle.rules.specs.Calls.{Done, incompatible_call}
use Rattle.incompatible.proofs.incompatible.Reads as contract

pub promised : (κs : _) (a : _) (r : _) (s : _) → contract.Post κs a r s
    → ◌≡◌ {A = Done} (record { answer = r; room = s.1.0.now }) (incompatible_call a.0.now a.1.0.now a.1.1.0)
promised κs a r s p = p
