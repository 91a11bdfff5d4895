use Rattle.sarif.proofs.Telling.{short_room, short_output, all_told}
use lib.ListN.{length, drop}
use Prim.Native.Nat.{ℕ, ◌*◌, ◌≤◌}
use native.Mathlib.Nat.{le-div_iff_mul-le}
use native.Mathlib.Omega.{arith}
use mathlib.Core.Path.{refl, ap}
use mathlib.Core.List.{List, ◌++◌}
use Rattle.rules.specs.Record.{width}
use Rattle.sarif.proofs.tell.Goals as goal

pub returns-then-answer-n : goal.returns-then-answer-n
returns-then-answer-n c =
    let a = c.args in
    short_room a.t.now a.list.now a.n a.tally c.requires a.answer.now a.output.now c.refused.result c.if-answer-n.true c.refused.ensures.0 c.refused.ensures.1

pub log-needed-requires : goal.log-needed-requires
log-needed-requires c = (c.requires.small, c.starts-starts.ensures, c.requires.enough)

pub returns-then-output-needed : goal.returns-then-output-needed
returns-then-output-needed c =
    let a = c.args in
    short_output a.t.now a.list.now a.n a.tally c.requires a.answer.now a.output.now c.if-answer-n.false c.refused-then-output-needed.result c.log-needed.new.out c.log-needed.result c.log-needed.ensures c.if-output-needed.true c.refused-then-output-needed.ensures.0 c.refused-then-output-needed.ensures.1

pub overflow_mul-words : goal.overflow_mul-words
overflow_mul-words c = omega (arith, c.requires.most)

pub slice_bounds-copy_from_slice-end : goal.slice_bounds-copy_from_slice-end
slice_bounds-copy_from_slice-end c =
    let a = c.args in
    let m : a.n * width ≤ length a.answer.now = (le-div_iff_mul-le {k = width} {x = a.n} {y = length a.answer.now} (omega arith)).0 c.if-answer-n.false in
    omega arith

pub log-requires : goal.log-requires
log-requires c = (c.requires.small, c.starts-starts.ensures, c.requires.enough)

pub returns : goal.returns
returns c =
    let a = c.args in
    all_told a.t.now a.list.now a.n a.tally c.requires a.answer.now a.output.now c.if-answer-n.false _ c.log-needed.new.out _ c.log.new.out c.log-needed.result c.log.result c.log-needed.ensures c.if-output-needed.false c.log.ensures (ap (λ (x : List ℕ). x ++ drop (width * a.n) a.answer.now) c.copy_from_slice.ensures.after) refl refl
