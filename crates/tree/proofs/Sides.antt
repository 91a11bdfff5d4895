-- What the library's comparing of two numbers says of a value and a whole number. Assumes nothing.
use Prim.Native.Nat.{ℕ, ◌+◌, ◌-◌, ◌≤◌, ◌<◌, min}
use native.Mathlib.Omega.{arith}
use native.Mathlib.Decide.{ℕ_discrete as dec_eq}
use mathlib.Core.Path.{◌≡◌, refl, sym, ◌∙◌}
use mathlib.Core.List.{List}
use lib.ListN.{get_or}
use Rattle.std.specs.Ordering.{nat_cmp, is_lt, is_eq}
use Rattle.std.specs.declared.cmp.Ordering.{Ordering}
use Rattle.std.specs.declared.cmp.Ordering.TheVariants.{Less, Equal, Greater}
use Rattle.std.proofs.lemmas.Cmp.{ranked, by_ranked}
use Rattle.tree.specs.Bytes.{bytes_from}
use Rattle.tree.specs.Values.{magnitude}
use Rattle.tree.specs.declared.floats.Spelled.{Spelled}
use Rattle.tree.specs.code.Numbers.{valued, below, level, side_of}
use Rattle.tree.proofs.Magnitudes.{side_below, side_equal, side_above, file_below, file_above, file_equal, file_rest}

pub lt_below : (s : Ordering) → is_lt s ≡ below s
lt_below Less = refl
lt_below Equal = refl
lt_below Greater = refl

pub eq_level : (s : Ordering) → is_eq s ≡ level s
eq_level Less = refl
eq_level Equal = refl
eq_level Greater = refl

pub side_cmp : (n k : ℕ) → nat_cmp k n ≡ side_of n k
side_cmp n k =
    by_ranked (k < n) (k ≡ n) (n < k) (nat_cmp k n) (ranked k n (nat_cmp k n) refl) (λ e p. e ∙ sym (side_below n k p)) (λ e p. e ∙ sym (side_equal n k p))
    (λ e p. e ∙ sym (side_above n k p))

unlike : {A : Type 0} → Less ≡ Equal → A
unlike e = let z : ◌≡◌ {A = ℕ} 0 1 = cc in absurd (omega arith)

unlike_above : {A : Type 0} → Greater ≡ Equal → A
unlike_above e = let z : ◌≡◌ {A = ℕ} 0 1 = cc in absurd (omega arith)

module _ (t : List ℕ) (bytes : (j : ℕ) → get_or t j 0 < 256) (k o : ℕ) (w : Spelled) (long : w.zeros ≤ k)
    (a : ℕ) (front : a ≡ min (magnitude (bytes_from (k - w.zeros) t o)) (w.head + 1)) where
  -- where the first bytes decide
  pub file_front : (x : Ordering) → x ≡ nat_cmp a w.head → (x ≡ Equal → ⊥) → x ≡ side_of (valued w) (magnitude (bytes_from k t o))
  file_front x e d =
      by_ranked (a < w.head) (a ≡ w.head) (w.head < a) x (ranked a w.head x e) (λ q p. q ∙ file_below t bytes k o w long a front p) (λ q p. absurd (d q))
      (λ q p. q ∙ file_above t bytes k o w long a front p)

  -- where they don't
  pub file_back : (r : ℕ) → nat_cmp a w.head ≡ Equal → r ≡ min (magnitude (bytes_from w.zeros t (o + (k - w.zeros)))) (0 + 1)
      → nat_cmp r 0 ≡ side_of (valued w) (magnitude (bytes_from k t o))
  file_back r e q = go (by_ranked (a < w.head) (a ≡ w.head) (w.head < a) (nat_cmp a w.head) (ranked a w.head (nat_cmp a w.head) refl) (λ u p. unlike (sym u ∙ e)) (λ u p. p) (λ u p. unlike_above (sym u ∙ e))) (dec_eq r 0)
    where
      go : a ≡ w.head → Dec (r ≡ 0) → nat_cmp r 0 ≡ side_of (valued w) (magnitude (bytes_from k t o))
      go p (yes z) = side_cmp 0 r ∙ side_equal 0 r z ∙ file_equal t bytes k o w long a front (omega arith) (omega arith) (sym q ∙ z)
      go p (no z) = side_cmp 0 r ∙ side_above 0 r (omega arith) ∙ file_rest t bytes k o w long a front (omega arith) (omega arith) (λ y. z (q ∙ y))
