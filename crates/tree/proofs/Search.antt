-- Laws of the lowest place. Assumes nothing.
use Prim.Native.Nat.{ℕ, zero, suc, ◌+◌, ◌-◌, ◌≤◌, ◌<◌}
use native.Mathlib.Omega.{arith}
use native.Mathlib.Decide.{dec_lt}
use mathlib.Core.Path.{◌≡◌, refl, sym}
use mathlib.Core.Bool.{Bool, true, false, not}
use Rattle.tree.specs.Search.{first, lowest}
use Rattle.tree.specs.declared.Refusal.{Refusal}
use Rattle.tree.specs.code.Stages.{Lowest}

pub clash : {A : Type 0} {b : Bool} → b ≡ true → b ≡ false → A
clash p q = let z : ◌≡◌ {A = ℕ} 0 1 = cc in absurd (omega arith)

pub first_start : (n : ℕ) (f : ℕ → Bool) → first (n - 0) 0 f ≡ lowest n f
first_start n f = let q : n - 0 ≡ n = omega arith in rw q

pub first_here : (n i : ℕ) (f : ℕ → Bool) → i < n → f i ≡ true → first (n - i) i f ≡ i
unfolding first
first_here n i f h e = let q : n - i ≡ suc (n - (i + 1)) = omega arith in rw (q, e, first)

pub first_next : (n i : ℕ) (f : ℕ → Bool) → i < n → f i ≡ false → first (n - (i + 1)) (i + 1) f ≡ first (n - i) i f
unfolding first
first_next n i f h e = let q : n - i ≡ suc (n - (i + 1)) = omega arith in rw (q, e, first)

pub first_end : (n i : ℕ) (f : ℕ → Bool) → n ≤ i → first (n - i) i f ≡ i
unfolding first
first_end n i f h = let q : n - i ≡ 0 = omega arith in rw q

first_clear : (k i : ℕ) (f : ℕ → Bool) (j : ℕ) → i ≤ j → j < first k i f → f j ≡ false
unfolding first
first_clear zero i f j a b = absurd (omega arith)
first_clear (suc k) i f j a b = go (f i) refl (λ h. first_clear k (i + 1) f j h)
  where
    go : (x : Bool) → f i ≡ x → (i + 1 ≤ j → j < first k (i + 1) f → f j ≡ false) → f j ≡ false
    go true e g = let z : first (suc k) i f ≡ i = rw (e, first) in absurd (omega (arith, b, z))
    go false e g = let z : first (suc k) i f ≡ first k (i + 1) f = rw (e, first) in at (dec_lt i j) z
      where
        at : Dec (i < j) → first (suc k) i f ≡ first k (i + 1) f → f j ≡ false
        at (yes l) z = g (omega arith) (rw z at b)
        at (no l) z = let q : j ≡ i = omega arith in rw q e

-- before the lowest place f does not hold
pub lowest_clear : (n : ℕ) (f : ℕ → Bool) (j : ℕ) → j < lowest n f → f j ≡ false
lowest_clear n f j h = first_clear n 0 f j (omega arith) h

first_hit : (k i : ℕ) (f : ℕ → Bool) → first k i f < i + k → f (first k i f) ≡ true
unfolding first
first_hit zero i f h = absurd (omega arith)
first_hit (suc k) i f h = go (f i) refl (first_hit k (i + 1) f)
  where
    go : (x : Bool) → f i ≡ x → (first k (i + 1) f < i + 1 + k → f (first k (i + 1) f) ≡ true) → f (first (suc k) i f) ≡ true
    go true e g = let z : first (suc k) i f ≡ i = rw (e, first) in rw z e
    go false e g = let z : first (suc k) i f ≡ first k (i + 1) f = rw (e, first) in rw z (g (omega (arith, h, z)))

-- at the lowest place it does
pub lowest_hit : (n : ℕ) (f : ℕ → Bool) → lowest n f < n → f (lowest n f) ≡ true
lowest_hit n f h = first_hit n 0 f (omega arith)

first_le : (k i : ℕ) (f : ℕ → Bool) → first k i f ≤ i + k
unfolding first
first_le zero i f = omega arith
first_le (suc k) i f = go (f i) refl (first_le k (i + 1) f)
  where
    go : (x : Bool) → f i ≡ x → first k (i + 1) f ≤ i + 1 + k → first (suc k) i f ≤ i + suc k
    go true e g = let z : first (suc k) i f ≡ i = rw (e, first) in omega arith
    go false e g = let z : first (suc k) i f ≡ first k (i + 1) f = rw (e, first) in omega arith

pub lowest_le : (n : ℕ) (f : ℕ → Bool) → lowest n f ≤ n
lowest_le n f = omega (arith, first_le n 0 f)

pub not_so : (b : Bool) → not b ≡ false → b ≡ true
not_so true e = refl
not_so false e = clash refl e

pub not_this : (b : Bool) → not b ≡ true → b ≡ false
not_this true e = sym e
not_this false e = refl

-- going up from place to place: none before i is wrong
pub clear_here : (n i : ℕ) (f : ℕ → Bool) → i < n → i ≤ lowest n f → f i ≡ true → lowest n f ≡ i
clear_here n i f h l e = go (dec_lt i (lowest n f))
  where
    go : Dec (i < lowest n f) → lowest n f ≡ i
    go (yes a) = clash e (lowest_clear n f i a)
    go (no a) = omega arith

pub clear_more : (n i : ℕ) (f : ℕ → Bool) → i < n → i ≤ lowest n f → f i ≡ false → i + 1 ≤ lowest n f
clear_more n i f h l e = go (dec_lt i (lowest n f))
  where
    go : Dec (i < lowest n f) → i + 1 ≤ lowest n f
    go (yes a) = omega arith
    go (no a) = let q : lowest n f ≡ i = omega arith in clash (rw q at (lowest_hit n f (omega arith))) e

pub lowest_at : (why : ℕ → Refusal) (n i : ℕ) (f : ℕ → Bool) → i < n → i ≤ lowest n f → f i ≡ true → Lowest why n f (why i)
lowest_at why n i f h l e = let q = clear_here n i f h l e in record { below = omega (arith, q); is = rw q refl }
