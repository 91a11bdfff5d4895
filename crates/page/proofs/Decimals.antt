-- Laws of a number's decimal digits. Assumes nothing.
use Prim.Native.Nat.{ℕ, zero, suc, ◌+◌, ◌/◌, ◌%◌, ◌^◌, ◌≤◌, ◌<◌}
use native.Mathlib.Omega.{arith}
use mathlib.Core.Path.{◌≡◌, refl, sym, ap, ◌∙◌}
use mathlib.Core.Bool.{Bool, true, false}
use mathlib.Core.List.{List, [], ◌∷◌, ◌++◌, append_assoc}
use lib.ListN.{length, length-append}
use lib.Dec.{ltb}
use borrow.Author.Tests.{lt-ltb, le-ltb, ltb-true, ltb-false}
use Rattle.page.specs.Digits.{digits, decimal}
use Rattle.page.specs.Page.{Wrote, Added}
use Rattle.page.specs.declared.Writer.{Writer}
use Rattle.page.proofs.Pages.{then, retold, wrote_most}

-- a number of one digit, and one of more
digits_one : (k n : ℕ) → n < 10 → digits (suc k) n ≡ (48 + n) ∷ []
unfolding digits
digits_one k n h = rw (lt-ltb n 10 h, digits)

digits_more : (k n : ℕ) → 10 ≤ n → digits (suc k) n ≡ digits k (n / 10) ++ ((48 + n % 10) ∷ [])
unfolding digits
digits_more k n h = rw (le-ltb n 10 h, digits)

digits_zero : (k n : ℕ) → n ≤ 0 → digits k n ≡ 48 ∷ []
unfolding digits
digits_zero zero n h = let z : n ≡ 0 = omega arith in rw z
digits_zero (suc k) n h = let z : n ≡ 0 = omega arith in rw z

-- any count of steps that is large enough gives the same
enough : (k j n : ℕ) → n ≤ k → n ≤ j → digits k n ≡ digits j n
enough zero j n h g = digits_zero zero n h ∙ sym (digits_zero j n h)
enough (suc k) zero n h g = digits_zero (suc k) n g ∙ sym (digits_zero zero n g)
enough (suc k) (suc j) n h g = go (ltb n 10) refl (λ l. enough k j (n / 10) (omega arith) (omega arith))
  where
    go : (t : Bool) → ltb n 10 ≡ t → (10 ≤ n → digits k (n / 10) ≡ digits j (n / 10)) → digits (suc k) n ≡ digits (suc j) n
    go true e r = let l = ltb-true n 10 e in digits_one k n l ∙ sym (digits_one j n l)
    go false e r =
        let l = ltb-false n 10 e in
        digits_more k n l ∙ ap (λ (d : List ℕ). d ++ ((48 + n % 10) ∷ [])) (r l) ∙ sym (digits_more j n l)

pub decimal_small : (n : ℕ) → n < 10 → decimal n ≡ (48 + n) ∷ []
unfolding decimal
decimal_small zero h = digits_zero 0 0 (omega arith)
decimal_small (suc n) h = digits_one n (suc n) h

pub decimal_step : (n : ℕ) → 10 ≤ n → decimal n ≡ decimal (n / 10) ++ ((48 + n % 10) ∷ [])
unfolding decimal
decimal_step zero h = absurd (omega arith)
decimal_step (suc n) h =
    digits_more n (suc n) h
    ∙ ap (λ (d : List ℕ). d ++ ((48 + suc n % 10) ∷ [])) (enough n (suc n / 10) (suc n / 10) (omega arith) (omega arith))

-- what holds of each digit, and of a number if it holds of it without its last digit, holds of every number
module _ (P : ℕ → List ℕ → Type 0) (small : (d : ℕ) → d < 10 → P d ((48 + d) ∷ []))
    (more : (n : ℕ) (s : List ℕ) → 10 ≤ n → P (n / 10) s → P n (s ++ ((48 + n % 10) ∷ []))) where
  up_to : (k n : ℕ) → n ≤ k → P n (decimal n)
  up_to zero n l = rw (decimal_small n (omega arith)) (small n (omega arith))
  up_to (suc k) n l = go (ltb n 10) refl (up_to k (n / 10))
    where
      go : (t : Bool) → ltb n 10 ≡ t → (n / 10 ≤ k → P (n / 10) (decimal (n / 10))) → P n (decimal n)
      go true e f = let h = ltb-true n 10 e in rw (decimal_small n h) (small n h)
      go false e f = let h = ltb-false n 10 e in rw (decimal_step n h) (more n (decimal (n / 10)) h (f (omega arith)))

  pub by_digits : (n : ℕ) → P n (decimal n)
  by_digits n = up_to n n (omega arith)

-- a number below a power of ten has no more digits than that
pub few_digits : (k n : ℕ) → n < 10 ^ suc k → length (decimal n) ≤ suc k
few_digits zero n h = rw (decimal_small n (omega arith)) (omega arith)
few_digits (suc k) n h = go (ltb n 10) refl (few_digits k (n / 10) (omega arith))
  where
    go : (t : Bool) → ltb n 10 ≡ t → length (decimal (n / 10)) ≤ suc k → length (decimal n) ≤ suc (suc k)
    go true e r = rw (decimal_small n (ltb-true n 10 e)) (omega arith)
    go false e r = rw (decimal_step n (ltb-false n 10 e), length-append) (omega arith)

pub decimal_few : (n : ℕ) → n < 4294967296 → length (decimal n) ≤ 10
decimal_few n h = few_digits 9 n (omega arith)

-- ---- a number as it is written: of 64 bits it has at most twenty digits

module _ {o o₁ : List ℕ} {n n₁ : ℕ} where
  pub small_wrote : (x : ℕ) {d : ℕ} → x < 10 → d ≡ 48 + x → Wrote o n o₁ n₁ 1 (λ rest. d ∷ rest) → Wrote o n o₁ n₁ 20 (λ rest. decimal x ++ rest)
  small_wrote x h e p = retold 20 (λ rest. decimal x ++ rest) p (omega arith) (λ rest. rw (e, decimal_small x h))

  pub large_wrote : {o₂ : List ℕ} {n₂ : ℕ} (x : ℕ) {d : ℕ} → 10 ≤ x → x < 18446744073709551616 → d ≡ 48 + x % 10
      → Wrote o n o₁ n₁ 20 (λ rest. decimal (x / 10) ++ rest) → Wrote o₁ n₁ o₂ n₂ 1 (λ rest. d ∷ rest)
      → Wrote o n o₂ n₂ 20 (λ rest. decimal x ++ rest)
  large_wrote {o₂ = o₂} {n₂ = n₂} x {d = d} h b e p q =
      let r : Wrote o n o₂ n₂ 21 (λ rest. decimal x ++ rest)
      = retold 21 (λ rest. decimal x ++ rest) (then p q) (omega arith)
      (λ rest. rw (e, decimal_step x h) (sym (append_assoc (decimal (x / 10)) ((48 + x % 10) ∷ []) rest))) in
      wrote_most (decimal x) 20 (few_digits 19 x (omega arith)) r

  -- of 32 bits at most ten
  pub number_wrote : {k : ℕ} (x : ℕ) → x < 4294967296 → Wrote o n o₁ n₁ k (λ rest. decimal x ++ rest)
      → Wrote o n o₁ n₁ 10 (λ rest. decimal x ++ rest)
  number_wrote x b p = wrote_most (decimal x) 10 (decimal_few x b) p

-- the same of a writer
module _ {w w₁ : Writer} where
  pub small_added : (x : ℕ) {d : ℕ} → x < 10 → d ≡ 48 + x % 10 → Added w w₁ 1 (λ rest. d ∷ rest) → Added w w₁ 20 (λ rest. decimal x ++ rest)
  small_added x h e p = record { wrote = small_wrote x h (omega arith) p.wrote; same_room = p.same_room }

  pub large_added : {w₂ : Writer} (x : ℕ) {d : ℕ} → 10 ≤ x → x < 18446744073709551616 → d ≡ 48 + x % 10
      → Added w w₁ 20 (λ rest. decimal (x / 10) ++ rest) → Added w₁ w₂ 1 (λ rest. d ∷ rest) → Added w w₂ 20 (λ rest. decimal x ++ rest)
  large_added x h b e p q =
      record { wrote = large_wrote x h b e p.wrote q.wrote; same_room = q.same_room ∙ p.same_room }
