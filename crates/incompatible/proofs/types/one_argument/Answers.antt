use Rattle.incompatible.proofs.Checks.{tally_absent, one_by}
use Rattle.incompatible.proofs.types.one_argument.Goals as goal

pub returns-in_default : goal.returns-in_default
returns-in_default c = rw (tally_absent 0 c.requires.0 c.requires.1 c.in_default.ensures)

pub returns : goal.returns
returns c =
    one_by 0 c.requires.0 c.requires.1 c.in-Some.ensures c.child_of-2.result (rw c.size_at.ensures.0 at c.child_of-2.ensures) c.is_none.result c.is_none.ensures
