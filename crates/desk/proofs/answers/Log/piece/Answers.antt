-- The piece is what stands on the page. Assumes nothing.
use native.Mathlib.Omega.{arith}
use Rattle.desk.proofs.Handed.{piece_handed}
use Rattle.desk.proofs.answers.Log.piece.Goals as goal

pub hand_piece-requires : goal.hand_piece-requires
hand_piece-requires g c =
    let s = c.args.self.now in
    piece_handed s.choices.bits s.t.now s.list.now s.n s.tally c.args.k s.lists c.piece-got.ensures (omega arith)
