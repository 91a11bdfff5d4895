use Rattle.answer.proofs.Flat.{added_both}
use Rattle.incompatible.proofs.WalkPass.lint.Goals as goal

pub returns : goal.returns
returns c = added_both c.bad_type_equality.ensures c.duplicate_top_level_assignment.ensures
