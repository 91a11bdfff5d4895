use Rattle.std.specs.Prelude.{Ok}
use native.Mathlib.Omega.{arith}
use Prim.Native.Nat.{ℕ, ◌<◌}
use mathlib.Core.Path.{◌≡◌, sym}
use lib.ListN.{get_or}
use Rattle.tree.specs.Judge.{judged}
use Rattle.tree.proofs.Whole.{whole}
use Rattle.incompatible.proofs.Valid.{low_names, list_is, list_few}
use Rattle.incompatible.proofs.lint_valid.Goals as goal

pub answered-requires : goal.answered-requires
answered-requires c =
    let t = c.args.t.now in
    let v : judged t ≡ Ok c.args.f = c.requires in
    let bytes : (k : ℕ) → get_or t k 0 < 256 = λ k. omega (arith, c.type_inv.t k) in
    ((whole t _ v, low_names t _ v), rw (c.of-2.ensures, sym (list_is t _ v bytes c.of.result c.of.ensures)) (list_few t _ v))

pub returns : goal.returns
returns c =
    let t = c.args.t.now in
    let v : judged t ≡ Ok c.args.f = c.requires in
    let bytes : (k : ℕ) → get_or t k 0 < 256 = λ k. omega (arith, c.type_inv.t k) in
    rw (list_is t _ v bytes c.of.result c.of.ensures) (rw c.of-2.ensures at c.answered.ensures.answers t c.args.f v)
