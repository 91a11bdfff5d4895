use Prim.Native.Nat.{◌*◌, ◌%◌, ◌^◌}
use native.Mathlib.Omega.{arith}
use mathlib.Core.Path.{◌≡◌, sym}
use Rattle.tree.proofs.WholeLaws.{rest_low, shift_bytes, shift_low, shifted_fit}
use Rattle.tree.proofs.floats.shifted.Goals as goal

pub returns : goal.returns
returns c =
    let n = c.args.digits in
    let s = c.args.s in
    let l = shift_low n (2 ^ (s % 8)) (omega arith) (rest_low s) in
    let q : n * 2 ^ (s % 8) % 18446744073709551616 ≡ n * 2 ^ (s % 8) = omega (arith, l) in
    (rw q (sym (shift_bytes n s)), rw q (shifted_fit n s (omega arith) (omega arith) (omega arith)))
