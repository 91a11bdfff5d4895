-- Small laws of tests. Assumes nothing.
use Prim.Native.Nat.{ℕ}
use native.Mathlib.Decide.{ℕ_discrete}
use mathlib.Core.Path.{◌≡◌, refl, sym, ◌∙◌}
use mathlib.Core.Bool.{Bool, true, false, ◌&&◌}
use lib.Dec.{eqb}
use borrow.Author.Tests.{ne_eqb}

pub eqb_swap : (a b : ℕ) → eqb a b ≡ eqb b a
eqb_swap a b = go (ℕ_discrete a b)
  where
    go : Dec (a ≡ b) → eqb a b ≡ eqb b a
    go (yes e) = rw e
    go (no h) = ne_eqb a b h ∙ sym (ne_eqb b a (λ z. h (sym z)))

pub and_false : (b : Bool) → b && false ≡ false
and_false true = refl
and_false false = refl
