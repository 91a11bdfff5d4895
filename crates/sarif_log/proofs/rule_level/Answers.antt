use native.Mathlib.Omega.{arith}
use mathlib.Core.List.{◌∷◌}
use Rattle.json_text.specs.Text.{string, ◌⇒◌, member}
use Rattle.page.proofs.Pages.{added_then, added_retold}
use Rattle.sarif_log.specs.Log.{only, level}
use Rattle.sarif_log.proofs.Shapes.{rule_level_text}
use Rattle.sarif_log.proofs.rule_level.Goals as goal

pub returns : goal.returns
returns c =
    added_retold 50 (λ rest. 0x2C ∷ member ("defaultConfiguration" ⇒ only ("level" ⇒ string (level c.args.code))) (0x7D ∷ rest)) (added_then c.raw.ensures (added_then c.level.ensures c.raw-2.ensures)) (omega arith) (rule_level_text c.args.code)
