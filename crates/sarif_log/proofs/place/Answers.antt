use native.Mathlib.Omega.{arith}
use Rattle.answer.specs.Note.{span_from}
use Rattle.page.proofs.Pages.{added_then, added_retold}
use Rattle.sarif_log.specs.Pieces.{open_place}
use Rattle.sarif_log.proofs.Shapes.{place_text}
use Rattle.sarif_log.proofs.place.Goals as goal

pub returns : goal.returns
returns c =
    let s = span_from c.args.at in
    added_retold 150 (open_place s) (added_then c.raw.ensures (added_then c.number.ensures (added_then c.raw-2.ensures (added_then c.number-2.ensures c.raw-3.ensures)))) (omega arith) (λ rest. rw c.length.ensures (place_text s rest))
