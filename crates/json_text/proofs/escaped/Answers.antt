-- What is left to be written is the text of what is left of s. Assumes nothing.
use Prim.Native.Nat.{◌*◌}
use native.Mathlib.Omega.{arith}
use lib.ListN.{length, drop, drop_of_length-le}
use Rattle.page.proofs.Going.{adding_last}
use Rattle.json_text.proofs.Pieces.{escape_adding, escape_end}
use Rattle.json_text.proofs.escaped.Goals as goal

pub loop-i-preserved : goal.loop-i-preserved
loop-i-preserved c =
    let l = c.loop-i in
    let e = c.step-left.ensures in
    escape_adding c.args.s.now l.i l.left c.step-left.result (omega arith) l.invariant e.written e.after

pub returns : goal.returns
returns c =
    let l = c.loop-i in
    let s = c.args.s.now in
    adding_last (6 * length s) l.invariant (escape_end (drop l.i s) l.left (drop_of_length-le s {i = l.i} (omega arith))) (omega arith)
