-- `ident` meets its contract. Assumes nothing.
use Rattle.names.proofs.Going.{goes_to}
use Rattle.names.proofs.Parts.{node_few}
use Rattle.names.proofs.Held.{methods}
use Rattle.names.proofs.walk.Walk.ident.Goals as goal

pub returns-in-Sets : goal.returns-in-Sets
returns-in-Sets c =
    λ d. rw c.in-Sets.is (goes_to c.set.ensures.1 c.set.ensures.0 ((methods _).set d _ _ _ c.requires.1 (node_few c.requires.0)))

pub returns-in-Uses : goal.returns-in-Uses
returns-in-Uses c =
    λ d. rw c.in-Uses.is (goes_to c.used.ensures.1 c.used.ensures.0 ((methods _).used d _ _ _ c.requires.1 (node_few c.requires.0)))
