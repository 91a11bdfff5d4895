use Rattle.answer.proofs.Flat.{added_both}
use Rattle.dubious.proofs.WalkPass.lint.Goals as goal

pub returns : goal.returns
returns c = added_both c.duplicate_dictionary_key.ensures c.identifier_as_statement.ensures
