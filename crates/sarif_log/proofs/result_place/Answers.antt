use native.Mathlib.Omega.{arith}
use mathlib.Core.List.{◌∷◌}
use Rattle.answer.specs.Note.{rec_from}
use Rattle.page.proofs.Pages.{added_then, added_retold}
use Rattle.sarif_log.specs.Pieces.{result_place}
use Rattle.sarif_log.proofs.Shapes.{result_place_text}
use Rattle.sarif_log.proofs.result_place.Goals as goal

pub returns : goal.returns
returns c =
    let r = rec_from c.args.r in
    added_retold 210 (λ rest. result_place r (0x2C ∷ rest)) (added_then c.raw.ensures (added_then c.place.ensures (added_then c.raw-2.ensures (added_then c.standing.ensures c.raw-3.ensures)))) (omega arith) (result_place_text r)
