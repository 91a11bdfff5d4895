use Rattle.std.proofs.Common.{◌≡◌, ◌<◌, ◌≤◌, ◌/◌, ◌∙◌, length, ap, sym}
use native.Mathlib.Omega.{arith}
use Rattle.rules.specs.Record.{width}
use Rattle.answer.specs.Page.{Page}
use Rattle.answer.specs.Answers.{Answers}
use Rattle.answer.proofs.Whole.{no_front, short_done, listed_done}
use Rattle.answer.proofs.answered.Goals as goal

pub returns-then-out-records : goal.returns-then-out-records
returns-then-out-records g c =
    let o = c.args.out.now in
    let q = no_front c.out-1.given.0 o (omega arith) in
    let h : length o / width < c.lint.new.sheet.sheet.count = rw q at c.if-out-records.true in
    rw q (short_done _ c.requires.1 o c.args.tally c.new-counted.result c.lint.new.sheet (ap (λ (p : Page). p.count) c.new-counted.ensures.0) c.lint.ensures c.refused.result h c.refused.ensures.0 c.refused.ensures.1)

pub returns : goal.returns
returns g c =
    let o = c.args.out.now in
    let q = no_front c.out-1.given.0 o (omega arith) in
    let h : c.lint.new.sheet.sheet.count ≤ length o / width = rw q at c.if-out-records.false in
    let w = rw q at c.new-sheet.ensures.0 in
    let e = c.out-2-1.given.1.1 (sym (c.lint-2.ensures.same_room ∙ c.new-sheet.ensures.1)) in
    rw e (listed_done _ c.requires.1 o c.args.tally c.new-counted.result c.lint.new.sheet (ap (λ (p : Page). p.count) c.new-counted.ensures.0) c.lint.ensures c.listed.result c.new-sheet.result c.lint-2.new.sheet h w c.lint-2.ensures c.listed.ensures.0 c.listed.ensures.1)
