use native.Mathlib.Omega.{arith}
use Rattle.page.proofs.Pages.{added_then, added_retold}
use Rattle.sarif_log.specs.Pieces.{result_rule}
use Rattle.sarif_log.proofs.Shapes.{result_rule_text}
use Rattle.sarif_log.proofs.Subject.result_rule.Goals as goal

pub returns : goal.returns
returns c =
    let y = c.args.self.now.tally.now in
    added_retold 50 (result_rule y c.args.code) (added_then c.raw.ensures (added_then c.number.ensures (added_then c.raw-2.ensures c.number-2.ensures))) (omega arith) (λ rest. rw c.index_of.ensures (result_rule_text y c.args.code rest))
