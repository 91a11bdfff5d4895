use native.Mathlib.Omega.{arith}
use Rattle.answer.specs.Note.{span_from}
use Rattle.page.proofs.Pages.{added_retold, nothing_added}
use Rattle.sarif_log.specs.Pieces.{second_related}
use Rattle.sarif_log.proofs.Worded.{second_none, second_some, second_plain, second_short}
use Rattle.sarif_log.proofs.second.Goals as goal

pub other-requires : goal.other-requires
other-requires c = let h = c.in-Some.ensures in (rw (h.0) (second_plain c.args.code), rw (h.0) (second_short c.args.code))

pub returns-in-Some : goal.returns-in-Some
returns-in-Some c =
    let s = span_from c.args.at in
    let h = c.in-Some.ensures in
    added_retold 210 (second_related c.args.code s) c.other.ensures (omega arith) (λ rest. second_some c.args.code s _ h.0 h.1 rest)

pub returns-in_default : goal.returns-in_default
returns-in_default c =
    let s = span_from c.args.at in
    added_retold 210 (second_related c.args.code s) (nothing_added c.args.w.now) (omega arith) (second_none c.args.code s c.in_default.ensures)
