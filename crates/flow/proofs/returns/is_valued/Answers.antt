use native.Mathlib.Omega.{arith}
use Rattle.flow.proofs.ReturnsLaws.{whole_kids, has_child}
use Rattle.flow.proofs.returns.is_valued.Goals as goal

pub returns : goal.returns
returns c =
    rw (c.is_some.ensures, c.child_of.ensures, c.size_at.ensures.0) (has_child 4 (whole_kids c.requires) (omega (arith, c.requires.some)))
