-- The search for a child of a role, on any bytes: a node of size 0 ends it. Assumes nothing.
use Prim.Native.Nat.{ℕ, zero, suc, ◌+◌, ◌-◌, ◌≤◌, ◌<◌}
use native.Mathlib.Omega.{arith}
use native.Mathlib.Decide.{dec_lt}
use mathlib.Core.Path.{◌≡◌, refl, sym, ◌∙◌}
use mathlib.Core.List.{List}
use borrow.Author.Tests.{lt-ltb, le-ltb, eq-eqb, ne_eqb}
use Rattle.tree.specs.Bytes.{role_at, size_at}
use Rattle.tree.specs.code.Find.{child_in, child_of}
use Rattle.tree.specs.code.Siblings.{Next}

module _ (t : List ℕ) (r : ℕ) where
  is_role : (x : ℕ) → Dec (x ≡ r)
  is_role x = go (dec_lt x r) (dec_lt r x)
    where
      go : Dec (x < r) → Dec (r < x) → Dec (x ≡ r)
      go (yes a) d = no (λ q. omega arith)
      go (no a) (yes b) = no (λ q. omega arith)
      go (no a) (no b) = yes (omega arith)

  in_past : (k i e : ℕ) → e ≤ i → child_in k t r i e ≡ e
  unfolding child_in
  in_past zero i e h = refl
  in_past (suc k) i e h = rw (le-ltb i e h, child_in)

  in_here : (k i e : ℕ) → i < e → role_at t i ≡ r → child_in (suc k) t r i e ≡ i
  unfolding child_in
  in_here k i e h q = rw (lt-ltb i e h, eq-eqb r (role_at t i) (sym q), child_in)

  in_next : (k i e : ℕ) → i < e → (role_at t i ≡ r → ⊥) → child_in (suc k) t r i e ≡ child_in k t r (i + size_at t i) e
  unfolding child_in
  in_next k i e h q = rw (lt-ltb i e h, ne_eqb r (role_at t i) (λ x. q (sym x)), child_in)

  in_zero : (k i e : ℕ) → (role_at t i ≡ r → ⊥) → size_at t i ≡ 0 → child_in k t r i e ≡ e
  unfolding child_in
  in_zero zero i e q z = refl
  in_zero (suc k) i e q z = go (dec_lt i e) (in_zero k i e q z)
    where
      go : Dec (i < e) → child_in k t r i e ≡ e → child_in (suc k) t r i e ≡ e
      go (yes h) g = in_next k i e h q ∙ (let s : i + size_at t i ≡ i = omega arith in rw s g)
      go (no h) g = in_past (suc k) i e (omega arith)

  -- more fuel changes nothing
  in_enough : (k l i e : ℕ) → e - i ≤ k → e - i ≤ l → child_in k t r i e ≡ child_in l t r i e
  in_enough zero l i e a b = in_past 0 i e (omega arith) ∙ sym (in_past l i e (omega arith))
  in_enough (suc k) zero i e a b = in_past (suc k) i e (omega arith) ∙ sym (in_past 0 i e (omega arith))
  in_enough (suc k) (suc l) i e a b = go (dec_lt i e) (dec_lt 0 (size_at t i)) (is_role (role_at t i)) (in_enough k l (i + size_at t i) e)
    where
      go : Dec (i < e) → Dec (0 < size_at t i) → Dec (role_at t i ≡ r)
          → (e - (i + size_at t i) ≤ k → e - (i + size_at t i) ≤ l → child_in k t r (i + size_at t i) e ≡ child_in l t r (i + size_at t i) e)
          → child_in (suc k) t r i e ≡ child_in (suc l) t r i e
      go (no h) d q g = in_past (suc k) i e (omega arith) ∙ sym (in_past (suc l) i e (omega arith))
      go (yes h) d (yes q) g = in_here k i e h q ∙ sym (in_here l i e h q)
      go (yes h) (no z) (no q) g = in_zero (suc k) i e q (omega arith) ∙ sym (in_zero (suc l) i e q (omega arith))
      go (yes h) (yes z) (no q) g =
          in_next k i e h q ∙ g (omega arith) (omega arith) ∙ sym (in_next l i e h q)

  pub seek_past : (i e : ℕ) → e ≤ i → child_of t r i e ≡ e
  unfolding child_of
  seek_past i e h = in_past (e - i) i e h

  pub seek_here : (i e : ℕ) → i < e → role_at t i ≡ r → child_of t r i e ≡ i
  unfolding child_of
  seek_here i e h q = let s : e - i ≡ suc (e - i - 1) = omega arith in rw s (in_here (e - i - 1) i e h q)

  pub seek_zero : (i e : ℕ) → (role_at t i ≡ r → ⊥) → size_at t i ≡ 0 → child_of t r i e ≡ e
  unfolding child_of
  seek_zero i e q z = in_zero (e - i) i e q z

  pub seek_next : (i e : ℕ) → i < e → (role_at t i ≡ r → ⊥) → child_of t r i e ≡ child_of t r (i + size_at t i) e
  unfolding child_of
  seek_next i e h q = go (dec_lt 0 (size_at t i))
    where
      one : (m k : ℕ) → m ≡ suc k → child_in m t r i e ≡ child_in k t r (i + size_at t i) e
      one m k s = rw s (in_next k i e h q)

      go : Dec (0 < size_at t i) → child_in (e - i) t r i e ≡ child_in (e - (i + size_at t i)) t r (i + size_at t i) e
      go (yes z) =
          one (e - i) (e - i - 1) (omega arith)
          ∙ in_enough (e - i - 1) (e - (i + size_at t i)) (i + size_at t i) e (omega arith) (omega arith)
      go (no z) = let s : i + size_at t i ≡ i = omega arith in rw s

  -- where the walk over siblings goes on
  pub seek_on : {i e n : ℕ} → Next t e i n → (role_at t i ≡ r → ⊥) → child_of t r i e ≡ child_of t r n e
  seek_on {i} {e} {n} x q = go (dec_lt 0 (size_at t i)) (dec_lt e (i + size_at t i))
    where
      go : Dec (0 < size_at t i) → Dec (e < i + size_at t i) → child_of t r i e ≡ child_of t r n e
      go (no z) d = rw (x.stuck (omega arith)) (seek_zero i e q (omega arith) ∙ sym (seek_past e e (omega arith)))
      go (yes z) (yes h) = seek_next i e x.within q ∙ seek_past (i + size_at t i) e (omega arith) ∙ sym (seek_past n e (x.past (omega arith)))
      go (yes z) (no h) = rw (x.on z (omega arith)) (seek_next i e x.within q)
