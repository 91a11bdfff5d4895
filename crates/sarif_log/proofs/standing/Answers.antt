use native.Mathlib.Omega.{arith}
use mathlib.Core.Path.{sym}
use Rattle.rules.specs.Codes.{disabled}
use Rattle.page.proofs.Pages.{added_retold}
use Rattle.sarif_log.specs.Pieces.{result_standing}
use Rattle.sarif_log.proofs.Plainly.{not_warned, warned}
use Rattle.sarif_log.proofs.Shapes.{standing_none, standing_warning}
use Rattle.sarif_log.proofs.standing.Goals as goal

pub returns-in-Disabled : goal.returns-in-Disabled
returns-in-Disabled c =
    let code = c.args.code in
    added_retold 37 (result_standing code) c.raw.ensures (omega arith) (standing_none code (not_warned (disabled code) (sym c.in-Disabled.ensures)))

pub returns-in-Warning : goal.returns-in-Warning
returns-in-Warning c =
    let code = c.args.code in
    added_retold 37 (result_standing code) c.raw-in-Warning.ensures (omega arith) (standing_warning code (warned (disabled code) (sym c.in-Warning.ensures)))
