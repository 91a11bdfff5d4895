-- One digit after the other. Assumes nothing.
use Prim.Native.Nat.{◌/◌, ◌%◌}
use native.Mathlib.Omega.{arith}
use mathlib.Core.Path.{◌≡◌, ap, ◌∙◌}
use Rattle.json_text.specs.Escape.{hex_digit}
use Rattle.json_text.proofs.Pieces.{hex_wrote}
use Rattle.json_text.proofs.hex.Goals as goal

pub returns : goal.returns
returns c =
    let high : c.args.b / 16 ≡ c.args.b / 16 % 16 = omega arith in
    hex_wrote c.args.b (c.hex_digit.ensures ∙ ap hex_digit high) c.hex_digit-2.ensures c.put.ensures c.put-2.ensures
