use native.Mathlib.Omega.{arith}
use mathlib.Core.List.{◌++◌}
use Rattle.page.proofs.Pages.{added_retold, nothing_added}
use Rattle.sarif_log.specs.Words.{kind_word}
use Rattle.sarif_log.proofs.Plainly.{no_kind}
use Rattle.sarif_log.proofs.Worded.{kind_short}
use Rattle.sarif_log.proofs.words.kind_word.Goals as goal

pub returns-in-Ok : goal.returns-in-Ok
returns-in-Ok c =
    let e = rw c.in-Ok.ensures at c.kind_words.ensures in
    added_retold 16 (λ rest. kind_word c.args.kind ++ rest) c.raw.ensures (rw e (kind_short c.args.kind)) (λ rest. rw e)

pub returns-in_default : goal.returns-in_default
returns-in_default c =
    let h = c.in_default.ensures in
    added_retold 16 (λ rest. kind_word c.args.kind ++ rest) (nothing_added c.args.w.now) (omega arith) (λ rest. rw (no_kind c.args.kind h.1))
