use mathlib.Core.Path.{refl, sym, ◌∙◌, ap}
use mathlib.Core.List.{List}
use Prim.Native.Nat.{ℕ, ◌+◌, ◌-◌, ◌*◌, ◌≤◌}
use native.Mathlib.Omega.{arith}
use native.Mathlib.Nat.{le-div_iff_mul-le}
use lib.ListN.{length}
use borrow.Author.Tests.{lt-ltb, le-ltb}
use borrow.Rule.Slice.PartMut.{put_mid}
use Rattle.rules.specs.Record.{words}
use Rattle.answer.specs.Page.{stored}
use Rattle.answer.specs.Note.{rec_from}
use Rattle.answer.proofs.Written.{laid}
use Rattle.answer.proofs.emit.Goals as goal

pub returns-then-n-out : goal.returns-then-n-out
unfolding stored
returns-then-n-out c =
    let o = c.args.out.now in
    let n = c.args.n in
    rw (lt-ltb _ _ c.if-n-out.true, stored, c.copy_from_slice.ensures.after)
    (sym (laid (words (rec_from c.args.r)) o (10 * n) (10 * n + 10 - 10 * n) (omega arith) (omega arith)))

pub returns-else-n-out : goal.returns-else-n-out
unfolding stored
returns-else-n-out c = rw (le-ltb _ _ c.if-n-out.false, stored)
