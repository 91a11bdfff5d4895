use native.Mathlib.Omega.{arith}
use mathlib.Core.Path.{refl}
use Rattle.answer.specs.Note.{rec_from}
use Rattle.json_text.specs.Utf8.{front}
use Rattle.json_text.specs.Escape.{escape, unit}
use Rattle.page.proofs.Pages.{added_then, added_retold}
use Rattle.sarif_log.specs.Pieces.{all_related}
use Rattle.sarif_log.proofs.Worded.{third_none, third_some}
use Rattle.sarif_log.proofs.related.Goals as goal

pub other-requires : goal.other-requires
unfolding escape unit front
other-requires c = (refl, omega arith)

pub returns-then-r : goal.returns-then-r
returns-then-r c =
    let r = rec_from c.args.r in
    added_retold 430 (all_related r) (added_then c.second.ensures (added_then c.raw.ensures c.other.ensures)) (omega arith) (λ rest. third_some r rest c.if-r.true)

pub returns-else-r : goal.returns-else-r
returns-else-r c =
    let r = rec_from c.args.r in
    added_retold 430 (all_related r) c.second.ensures (omega arith) (λ rest. third_none r rest c.if-r.false)
