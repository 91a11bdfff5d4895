-- Laws of the search by halving: a step of it, and what it finds. Assumes nothing.
use Prim.Native.Nat.{ℕ, zero, suc, ◌+◌, ◌-◌, ◌/◌, ◌≤◌, ◌<◌}
use native.Mathlib.Omega.{arith}
use native.Mathlib.Decide.{dec_lt}
use mathlib.Core.Path.{◌≡◌, refl, sym, ap, ◌∙◌}
use mathlib.Core.Bool.{Bool, true, false}
use Rattle.tree.specs.Bytes.{pick}
use Rattle.tree.specs.code.Halving.{halve, halved}

-- ---- a step

pub halve_up : (k i n : ℕ) (f : ℕ → Bool) → 0 < n → n ≤ k → f (i + n / 2) ≡ true → halve (k - 1) (i + n / 2 + 1) (n - n / 2 - 1) f ≡ halve k i n f
unfolding halve
halve_up zero i n f h l e = absurd (omega arith)
halve_up (suc k) i zero f h l e = absurd (omega arith)
halve_up (suc k) i (suc n) f h l e =
    let p : suc k - 1 ≡ k = omega arith in
    let q : suc n - suc n / 2 - 1 ≡ n - suc n / 2 = omega arith in
    rw (p, q) (sym (ap (λ (b : Bool). pick b (halve k (i + suc n / 2 + 1) (n - suc n / 2) f) (halve k i (suc n / 2) f)) e))

pub halve_down : (k i n : ℕ) (f : ℕ → Bool) → 0 < n → n ≤ k → f (i + n / 2) ≡ false → halve (k - 1) i (n / 2) f ≡ halve k i n f
unfolding halve
halve_down zero i n f h l e = absurd (omega arith)
halve_down (suc k) i zero f h l e = absurd (omega arith)
halve_down (suc k) i (suc n) f h l e =
    let p : suc k - 1 ≡ k = omega arith in
    rw p (sym (ap (λ (b : Bool). pick b (halve k (i + suc n / 2 + 1) (n - suc n / 2) f) (halve k i (suc n / 2) f)) e))

pub halve_end : (k i : ℕ) (f : ℕ → Bool) → halve k i 0 f ≡ i
unfolding halve
halve_end zero i f = refl
halve_end (suc k) i f = refl

-- ---- what it finds: the border, where f holds of all before it and of none from there on

pub record Border (f : ℕ → Bool) (i n p : ℕ) : Type 0 where
  pub from : i ≤ p
  pub upto : p ≤ i + n
  pub holds : (j : ℕ) → i ≤ j → j < p → f j ≡ true
  pub ends : p < i + n → f p ≡ false

module _ (f : ℕ → Bool) (top : ℕ) (falls : (i j : ℕ) → i < j → j < top → f j ≡ true → f i ≡ true) where
  border : (k i n : ℕ) → n ≤ k → i + n ≤ top → Border f i n (halve k i n f)
  unfolding halve
  border zero i n l h = record { from = omega arith; upto = omega arith; holds = λ j a b. absurd (omega arith); ends = λ b. absurd (omega arith) }
  border (suc k) i zero l h = record { from = omega arith; upto = omega arith; holds = λ j a b. absurd (omega arith); ends = λ b. absurd (omega arith) }
  border (suc k) i (suc n) l h =
      go (f mid) refl (border k (mid + 1) (n - suc n / 2) (omega arith) (omega arith)) (border k i (suc n / 2) (omega arith) (omega arith))
    where
      mid : ℕ
      mid = i + suc n / 2

      go : (b : Bool) → f mid ≡ b → Border f (mid + 1) (n - suc n / 2) (halve k (mid + 1) (n - suc n / 2) f) → Border f i (suc n / 2) (halve k i (suc n / 2) f)
          → Border f i (suc n) (pick b (halve k (mid + 1) (n - suc n / 2) f) (halve k i (suc n / 2) f))
      go true e up down = record {
        from = omega (arith, up.from);
        upto = omega (arith, up.upto);
        holds = λ j a b. before j (dec_lt j mid) (dec_lt mid j) b;
        ends = λ b. up.ends (omega arith);
      }
        where
          before : (j : ℕ) → Dec (j < mid) → Dec (mid < j) → j < halve k (mid + 1) (n - suc n / 2) f → f j ≡ true
          before j (yes q) d b = falls j mid q (omega arith) e
          before j (no q) (yes r) b = up.holds j (omega arith) b
          before j (no q) (no r) b = let z : j ≡ mid = omega arith in ap f z ∙ e
      go false e up down = record {
        from = down.from;
        upto = omega (arith, down.upto);
        holds = down.holds;
        ends = λ b. at (dec_lt (halve k i (suc n / 2) f) (i + suc n / 2));
      }
        where
          at : Dec (halve k i (suc n / 2) f < i + suc n / 2) → f (halve k i (suc n / 2) f) ≡ false
          at (yes q) = down.ends q
          at (no q) = let z : halve k i (suc n / 2) f ≡ mid = omega (arith, down.upto) in ap f z ∙ e

  pub halved_border : (n : ℕ) → n ≤ top → Border f 0 n (halved n f)
  halved_border n h = border n 0 n (omega arith) (omega arith)
