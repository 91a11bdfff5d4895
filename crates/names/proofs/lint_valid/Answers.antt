use native.Mathlib.Omega.{arith}
use mathlib.Core.Path.{sym}
use lib.Seq.{length-take-le}
use Rattle.rules.specs.Names.{names_list}
use Rattle.rules.specs.Outcome.{work_words}
use Rattle.names.proofs.Whole.{file_ready, file_names}
use Rattle.names.proofs.Telling.{unlent, lent, zeros_front}
use Rattle.names.proofs.lint_valid.Goals as goal

pub returns-then-work-lt-WORK_WORDS : goal.returns-then-work-lt-WORK_WORDS
returns-then-work-lt-WORK_WORDS c =
    unlent _ _ c.requires (names_list c.args.t.now) _ _ _ _ c.if-work-lt-WORK_WORDS.true c.refused.ensures.0 c.refused.ensures.1

pub lint-requires : goal.lint-requires
lint-requires c = (
  file_ready c.args.t.now c.args.f c.requires (λ k. omega (arith, c.type_inv.t k)),
  omega (arith, length-take-le work_words c.args.work.now c.if-work-lt-WORK_WORDS.false),
)

pub returns : goal.returns
returns c =
    let t = c.args.t.now in
    lent t _ c.requires (names_list t) c.args.work.now c.args.out.now c.args.tally _ _ _ c.if-work-lt-WORK_WORDS.false
    (rw (file_names t _ c.requires (λ k. omega (arith, c.type_inv.t k))) at c.lint.ensures.0)
    (zeros_front work_words _ c.args.work.now c.if-work-lt-WORK_WORDS.false c.lint.ensures.1)
