use Rattle.answer.proofs.Flat.{added_both}
use Rattle.flow.proofs.TidyLaws.{tidy_valid, root_whole}
use Rattle.flow.proofs.WalksPass.lint.Goals as goal

pub stmt-requires : goal.stmt-requires
stmt-requires c = tidy_valid c.requires

pub whole-requires : goal.whole-requires
whole-requires c = (tidy_valid c.requires).part

pub redundant-requires : goal.redundant-requires
redundant-requires c = ((tidy_valid c.requires).part, root_whole c.requires)

pub misplaced_load-requires : goal.misplaced_load-requires
misplaced_load-requires c = (tidy_valid c.requires).part

pub returns : goal.returns
returns c =
    added_both c.stmt.ensures (added_both c.whole.ensures (added_both c.redundant.ensures (added_both c.misplaced_load.ensures c.no_effect.ensures)))
