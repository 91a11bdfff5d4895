-- What the limits give. Assumes nothing.
use Prim.Native.Nat.{ℕ, ◌≤◌}
use native.Mathlib.Omega.{arith}
use mathlib.Core.Path.{◌≡◌, refl}
use mathlib.Core.Bool.{Bool, true, false, ◌||◌}
use lib.Dec.{leb, eqb}
use borrow.Author.Tests.{leb-true}
use Rattle.tree.specs.Bytes.{pick}
use Rattle.tree.specs.Judge.{limits}
use Rattle.tree.specs.Table.{listed}
use Rattle.tree.proofs.Names.{and_left, and_right}

few : (g : ℕ) (b : Bool) → (leb g 512 || b) ≡ true → pick b 0 g ≤ 512
few g true e = omega arith
few g false e = leb-true g 512 (go (leb g 512) e)
  where
    go : (a : Bool) → (a || false) ≡ true → a ≡ true
    go true q = refl
    go false q = q

pub limits_facts : (n nv g : ℕ) → limits n nv g ≡ true → (n ≤ 1024) × (nv ≤ 512) × (listed g ≤ 512) × (1 ≤ n)
limits_facts n nv g e =
    let a = and_right (leb 1 n) _ e in
    let b = and_right (leb n 1024) _ a in
    (leb-true n 1024 (and_left (leb n 1024) _ a), leb-true nv 512 (and_left (leb nv 512) _ b), few g (eqb g 65535) (and_right (leb nv 512) _ b), leb-true 1 n (and_left (leb 1 n) _ e))
