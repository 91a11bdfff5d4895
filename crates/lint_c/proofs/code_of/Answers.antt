-- Above 17 there is no code. Assumes nothing.
use Rattle.lint_c.proofs.Laws.{as_code}
use Rattle.lint_c.proofs.code_of.Goals as goal

pub returns : goal.returns
returns c = as_code c.args.code c.unwrap_or.result c.try_from.result c.try_from.ensures c.unwrap_or.ensures
