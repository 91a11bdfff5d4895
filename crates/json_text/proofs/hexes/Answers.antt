-- What is left to be written is the digits of what is left of s. Assumes nothing.
use Prim.Native.Nat.{◌+◌, ◌*◌}
use native.Mathlib.Omega.{arith}
use lib.ListN.{length, get_or, drop, drop_of_length-le}
use Rattle.json_text.specs.Escape.{hex, hexes}
use Rattle.page.proofs.Going.{adding_next, adding_last}
use Rattle.json_text.proofs.Pieces.{hexes_next, hexes_end}
use Rattle.json_text.proofs.hexes.Goals as goal

pub loop-b-preserved : goal.loop-b-preserved
loop-b-preserved c =
    let l = c.loop-b in
    let i = l.b-index in
    let s = c.args.s.now in
    let next = hexes_next s i (omega arith) in
    adding_next (2 * (i + 1)) (hex (get_or s i 0)) (hexes (drop (i + 1) s)) l.invariant c.hex.ensures next (omega arith)

pub returns : goal.returns
returns c =
    let l = c.loop-b in
    let s = c.args.s.now in
    adding_last (2 * length s) l.invariant (hexes_end (drop l.b-index s) (drop_of_length-le s {i = l.b-index} (omega arith))) (omega arith)
