-- A number of one digit, and one of more: the rest of it is smaller. Assumes nothing.
use Prim.Native.Nat.{◌+◌, ◌%◌}
use native.Mathlib.Omega.{arith}
use mathlib.Core.Path.{refl, subst}
use mathlib.Core.List.{◌∷◌}
use Rattle.page.specs.declared.Writer.{Writer}
use Rattle.page.specs.Page.{Added}
use Rattle.page.proofs.Decimals.{small_added, large_added}
use Rattle.page.proofs.Writer.+decimal.Goals as goal
use Rattle.page.proofs.Writer.+decimal.Goals.{then-x-ge10, else-x-ge10}

pub returns : goal.returns
returns t c =
    let last = λ (w : Writer). Added w c.put.new.self 1 (λ rest. (48 + c.args.x % 10) ∷ rest) in
    elim c.if-x-ge10.branch [
      | then-x-ge10 w ↦ large_added c.args.x w.if-x-ge10.true (omega arith) refl w.decimal.ensures (subst last w.self-is c.put.ensures)
      | else-x-ge10 w ↦ small_added c.args.x w.if-x-ge10.false refl (subst last w.self-is c.put.ensures)
    ]
