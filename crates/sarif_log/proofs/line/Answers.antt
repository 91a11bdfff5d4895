use native.Mathlib.Omega.{arith}
use mathlib.Core.List.{◌∷◌}
use Rattle.json_text.specs.Text.{comma}
use Rattle.page.proofs.Pages.{added_retold}
use Rattle.sarif_log.proofs.line.Goals as goal

pub returns-then-first : goal.returns-then-first
returns-then-first c = added_retold 2 (λ rest. comma c.args.first (0x0A ∷ rest)) c.raw.ensures (omega arith) (λ rest. rw c.if-first.true)

pub returns-else-first : goal.returns-else-first
returns-else-first c = added_retold 2 (λ rest. comma c.args.first (0x0A ∷ rest)) c.raw-else-first.ensures (omega arith) (λ rest. rw c.if-first.false)
