use Prim.Native.Nat.{ℕ, ◌<◌}
use native.Mathlib.Omega.{arith}
use mathlib.Core.Path.{sym, ◌∙◌}
use lib.ListN.{get_or}
use Rattle.tree.proofs.Magnitudes.{file_short}
use Rattle.tree.proofs.Sides.{file_front, file_back}
use Rattle.tree.proofs.keys.bytes_side.Goals as goal

pub returns-then-k-w : goal.returns-then-k-w
returns-then-k-w c =
    let bytes : (j : ℕ) → get_or c.args.t.now j 0 < 256 = λ j. omega (arith, c.type_inv.t j) in
    file_short c.args.t.now bytes c.args.k c.args.o c.args.w c.requires.2 c.if-k-w.true

pub returns-in-Equal : goal.returns-in-Equal
returns-in-Equal c =
    let bytes : (j : ℕ) → get_or c.args.t.now j 0 < 256 = λ j. omega (arith, c.type_inv.t j) in
    c.cmp-in-Equal.ensures ∙ file_back c.args.t.now bytes c.args.k c.args.o c.args.w c.if-k-w.false c.leading.result c.leading.ensures c.leading-in-Equal.result (sym c.cmp.ensures ∙ c.in-Equal.is) c.leading-in-Equal.ensures

pub returns-in_default : goal.returns-in_default
returns-in_default c =
    let bytes : (j : ℕ) → get_or c.args.t.now j 0 < 256 = λ j. omega (arith, c.type_inv.t j) in
    file_front c.args.t.now bytes c.args.k c.args.o c.args.w c.if-k-w.false c.leading.result c.leading.ensures c.cmp.result c.cmp.ensures c.in_default.not-Equal
