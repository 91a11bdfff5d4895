use Prim.Native.Nat.{ℕ, ◌≤◌}
use native.Mathlib.Omega.{arith}
use lib.ListN.{length, replicate}
use Rattle.rules.specs.Outcome.{work_words}
use Rattle.names.proofs.FirstMet.{walk_records}
use mathlib.Core.Path.{◌∙◌, ap}
use Rattle.names.proofs.lint.Goals as goal

pub returns : goal.returns
returns c =
    let walked = c.walked-r in
    let long : work_words ≤ length walked.new.w = omega (arith, c.requires.1, walked.auto.w) in
    let e = walk_records c.args.t.now c.args.n c.requires.0.part walked.new.w walked.result walked.ensures.0 long walked.ensures.1 in (
      rw e at (rw c.first_nodes.ensures at c.answer_of-a.ensures),
      c.fill.ensures.after (λ y e. e) ∙ ap (λ (n : ℕ). replicate n 0) (c.first_nodes.auto.w ∙ walked.auto.w),
    )
