use Rattle.tree.specs.Forest.{forest_of}
use Rattle.rules.specs.Incompatible.{deeds}
use Rattle.incompatible.proofs.Told.{all_judged}
use Rattle.incompatible.proofs.assigns.duplicate_top_level_assignment.Goals as goal

pub returns : goal.returns
returns c =
    all_judged c.args.t.now c.args.allowed (deeds (forest_of c.args.t.now 0 c.args.n)) c.new-defined.result c.new-defined.ensures.1 c.new-defined.ensures.0 c.stmts.ensures
