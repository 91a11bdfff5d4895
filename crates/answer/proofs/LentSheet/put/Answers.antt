use native.Mathlib.Omega.{arith}
use mathlib.Core.Path.{refl, ◌∙◌}
use Rattle.answer.specs.Note.{rec_of}
use Rattle.answer.proofs.Returns.{put_done, next_count}
use Rattle.answer.proofs.LentSheet.put.Goals as goal

pub returns : goal.returns
unfolding rec_of
returns c =
    let s = c.args.self.now in
    put_done s (rec_of c.args.t.now c.args.n) c.words_of.ensures c.emit.ensures (c.saturating_add-self.ensures ∙ next_count s.sheet.count (omega arith)) c.raised-self.ensures refl
