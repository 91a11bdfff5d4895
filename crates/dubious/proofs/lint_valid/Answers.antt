use Rattle.std.specs.Prelude.{Ok}
use native.Mathlib.Omega.{arith}
use Prim.Native.Nat.{ℕ, ◌<◌}
use mathlib.Core.Path.{◌≡◌, sym}
use lib.ListN.{get_or}
use Rattle.tree.specs.Judge.{judged}
use Rattle.tree.proofs.Whole.{whole}
use Rattle.dubious.proofs.Keyed.{list_is, list_few}
use Rattle.dubious.proofs.lint_valid.Goals as goal

pub answered-requires : goal.answered-requires
answered-requires c =
    let t = c.args.t.now in
    let v : judged t ≡ Ok c.args.f = c.requires in
    let ns = c.key_numbers-numbers.result in
    let bytes : (k : ℕ) → get_or t k 0 < 256 = λ k. omega (arith, c.type_inv.t k) in
    (whole t _ v, rw (sym (list_is t _ v bytes c.args.mode ns c.key_numbers-numbers.ensures)) (list_few t _ v bytes c.args.mode ns c.key_numbers-numbers.ensures))

pub returns : goal.returns
returns c =
    let t = c.args.t.now in
    let v : judged t ≡ Ok c.args.f = c.requires in
    let ns = c.key_numbers-numbers.result in
    let bytes : (k : ℕ) → get_or t k 0 < 256 = λ k. omega (arith, c.type_inv.t k) in
    rw (list_is t _ v bytes c.args.mode ns c.key_numbers-numbers.ensures) (c.answered.ensures.answers t c.args.f v)
