-- The line is what stands on the page. Assumes nothing.
use native.Mathlib.Omega.{arith}
use Rattle.desk.proofs.Handed.{refusal_handed}
use Rattle.desk.proofs.answers.refused.Goals as goal

pub hand_refusal-requires : goal.hand_refusal-requires
hand_refusal-requires g c = refusal_handed c.args.why c.refused-count.ensures c.ended-end.ensures (omega arith)
