use Prim.Native.Nat.{◌+◌, ◌*◌}
use native.Mathlib.Omega.{arith}
use mathlib.Core.Path.{◌≡◌}
use Rattle.rules.specs.Record.{width}
use Rattle.sarif_log.proofs.Turns.{words_at}
use Rattle.sarif_log.proofs.record_at.Goals as goal

pub returns : goal.returns
returns c =
    let l = c.args.list.now in
    let k = c.args.k in
    let z : width * k + 0 ≡ width * k = omega arith in
    rw (words_at l k 0, words_at l k 1, words_at l k 2, words_at l k 3, words_at l k 4, words_at l k 5, words_at l k 6, words_at l k 7, words_at l k 8, words_at l k 9, z)
