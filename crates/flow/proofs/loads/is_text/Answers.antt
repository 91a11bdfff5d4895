use Rattle.std.proofs.Common.{arith}
use Rattle.std.proofs.lemmas.Grind.{common_steps}
use Rattle.flow.specs.Walks.{is_text}
use Rattle.flow.proofs.Steps.{text_so}
use Rattle.flow.proofs.loads.is_text.Goals as goal

pub returns-then-kind_at : goal.returns-then-kind_at
returns-then-kind_at c = rw (text_so (is_text c.args.strings.now) c.requires) (grind (arith, common_steps))

pub returns-else-kind_at : goal.returns-else-kind_at
returns-else-kind_at c = rw (text_so (is_text c.args.strings.now) c.requires) (grind (arith, common_steps))
