use native.Mathlib.Omega.{arith}
use Rattle.answer.specs.Note.{rec_from}
use Rattle.page.proofs.Pages.{added_then, added_retold}
use Rattle.sarif_log.specs.Pieces.{result_related}
use Rattle.sarif_log.proofs.Shapes.{result_related_text}
use Rattle.sarif_log.proofs.result_related.Goals as goal

pub returns : goal.returns
returns c =
    let r = rec_from c.args.r in
    added_retold 460 (result_related r) (added_then c.raw.ensures (added_then c.related.ensures c.raw-2.ensures)) (omega arith) (result_related_text r)
