use native.Mathlib.Omega.{arith}
use mathlib.Core.Path.{sym}
use mathlib.Core.List.{◌++◌}
use Rattle.rules.specs.Codes.{disabled}
use Rattle.page.proofs.Pages.{added_retold}
use Rattle.sarif_log.specs.Log.{level}
use Rattle.sarif_log.proofs.Plainly.{not_warned, warned}
use Rattle.sarif_log.proofs.level.Goals as goal

pub returns-in-Disabled : goal.returns-in-Disabled
returns-in-Disabled c =
    added_retold 7 (λ rest. level c.args.code ++ rest) c.raw.ensures (omega arith) (λ rest. rw (not_warned (disabled c.args.code) (sym c.in-Disabled.ensures)))

pub returns-in-Warning : goal.returns-in-Warning
returns-in-Warning c =
    added_retold 7 (λ rest. level c.args.code ++ rest) c.raw-in-Warning.ensures (omega arith) (λ rest. rw (warned (disabled c.args.code) (sym c.in-Warning.ensures)))
