use native.Mathlib.Omega.{arith}
use Rattle.answer.specs.Note.{span_from}
use Rattle.page.proofs.Pages.{added_then, added_retold}
use Rattle.sarif_log.specs.Pieces.{related_place}
use Rattle.sarif_log.proofs.Shapes.{other_text}
use Rattle.sarif_log.proofs.other.Goals as goal

pub returns : goal.returns
returns c =
    let s = span_from c.args.at in
    added_retold 210 (related_place c.args.says.now s) (added_then c.place.ensures (added_then c.raw.ensures (added_then c.raw-2.ensures c.raw-3.ensures))) (omega (arith, c.requires.1)) (λ rest. other_text c.args.says.now s rest c.requires.0)
