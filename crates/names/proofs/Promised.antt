-- What the contract of names says, as the checker reads it (Post: of the arguments a, the result r and the lent words s afterwards):
-- names-call. Assumes nothing.
use Rattle.rules.specs.Calls.{names_call}
use Rattle.rules.specs.Afterwards.{Gives}
use Rattle.names.proofs.names.Reads as contract

pub promised : (κs : _) (a : _) (r : _) (s : _) → contract.Post κs a r s
    → Gives (names_call a.0.now a.1.0.now a.1.1.0.now a.1.1.1.0) r s.1.1.0.now s.1.0.now
promised κs a r s p = p
