-- Decimal digits, read back, give the number. Assumes nothing.
use Prim.Native.Nat.{ℕ, ◌+◌, ◌*◌, ◌-◌, ◌/◌, ◌%◌, ◌<◌}
use native.Mathlib.Omega.{arith}
use borrow.Author.Tests.{le-leb}
use mathlib.Core.Path.{◌≡◌, ap, ◌∙◌}
use mathlib.Core.List.{List, ◌∷◌, ◌++◌, append_assoc}
use Rattle.page.specs.Digits.{decimal}
use Rattle.page.proofs.Decimals.{by_digits}
use Rattle.sarif_log.specs.Reader.{digits}

-- one digit more is read
one_more : (a d : ℕ) (s : List ℕ) → d < 10 → digits a ((48 + d) ∷ s) ≡ digits (10 * a + d) s
unfolding digits
one_more a d s h =
    let e : 10 * a + (48 + d - 48) ≡ 10 * a + d = omega arith in
    rw (le-leb 48 (48 + d) (omega arith), le-leb (48 + d) 57 (omega arith), digits) (ap (λ (x : ℕ). digits x s) e)

-- a number is read back, and what follows it is left
pub number_reads : (n : ℕ) (s : List ℕ) → digits 0 (decimal n ++ s) ≡ digits n s
number_reads n s =
    by_digits (λ m u. (s : List ℕ) → digits 0 (u ++ s) ≡ digits m s) (λ d h s. one_more 0 d s h ∙ ap (λ (x : ℕ). digits x s) (omega arith))
    (λ m u h e s. rw append_assoc (e ((48 + m % 10) ∷ s) ∙ (one_more (m / 10) (m % 10) s (omega arith)
    ∙ ap (λ (x : ℕ). digits x s) (omega arith)))) n s
