-- Laws of children. Assumes nothing.
use Prim.Native.Nat.{ℕ, zero, suc, ◌+◌, ◌-◌, ◌≤◌, ◌<◌}
use native.Mathlib.Omega.{arith}
use native.Mathlib.Decide.{dec_lt}
use native.Mathlib.Numerals.{add-one}
use mathlib.Core.Path.{◌≡◌, refl, sym, ap, ◌∙◌}
use mathlib.Core.List.{[], List, ◌∷◌}
use mathlib.Core.Bool.{Bool, true, false, ◌&&◌}
use lib.Dec.{eqb}
use borrow.Author.Tests.{lt-ltb, le-ltb, eq-eqb, ne_eqb}
use Rattle.tree.specs.Bytes.{size_at, role_at, kind_at}
use Rattle.tree.specs.Children.{slot_of, in_class}
use Rattle.tree.specs.code.Siblings.{Next}
use Rattle.tree.specs.code.Kids.{kids_in, kids_from, Sized, kids_stand, of_role, filled, kids_filled, paired, kids_for_first}

kids_none : (k : ℕ) (t : List ℕ) (c e : ℕ) → e ≤ c → kids_in k t c e ≡ []
unfolding kids_in
kids_none zero t c e h = refl
kids_none (suc k) t c e h = rw (le-ltb c e h, kids_in)

kids_step : (k : ℕ) (t : List ℕ) (c e : ℕ) → c < e → kids_in (suc k) t c e ≡ c ∷ kids_in k t (c + size_at t c) e
unfolding kids_in
kids_step k t c e h = rw (lt-ltb c e h, kids_in)

kids_enough : (k l : ℕ) (t : List ℕ) (c e : ℕ) → Sized t e → e - c ≤ k → e - c ≤ l → kids_in k t c e ≡ kids_in l t c e
kids_enough zero l t c e s a b = kids_none 0 t c e (omega arith) ∙ sym (kids_none l t c e (omega arith))
kids_enough (suc k) zero t c e s a b = kids_none (suc k) t c e (omega arith) ∙ sym (kids_none 0 t c e (omega arith))
kids_enough (suc k) (suc l) t c e s a b = go (dec_lt c e) (kids_enough k l t (c + size_at t c) e s)
  where
    go : Dec (c < e) → (e - (c + size_at t c) ≤ k → e - (c + size_at t c) ≤ l → kids_in k t (c + size_at t c) e ≡ kids_in l t (c + size_at t c) e) → kids_in (suc k) t c e ≡ kids_in (suc l) t c e
    go (yes h) g = let z = s c h in kids_step k t c e h ∙ ap (λ (x : List ℕ). c ∷ x) (g (omega arith) (omega arith)) ∙ sym (kids_step l t c e h)
    go (no h) g = kids_none (suc k) t c e (omega arith) ∙ sym (kids_none (suc l) t c e (omega arith))

pub kids_end : (t : List ℕ) (c e : ℕ) → e ≤ c → kids_from t c e ≡ []
kids_end t c e h = kids_none (e - c) t c e h

pub kids_next : (t : List ℕ) (c e : ℕ) → Sized t e → c < e → kids_from t c e ≡ c ∷ kids_from t (c + size_at t c) e
kids_next t c e s h =
    let z = s c h in
    kids_enough (e - c) (suc (e - c)) t c e s (omega arith) (omega arith) ∙ kids_step (e - c) t c e h
    ∙ ap (λ (x : List ℕ). c ∷ x) (kids_enough (e - c) (e - (c + size_at t c)) t (c + size_at t c) e s (omega arith) (omega arith))

-- where the walk over siblings goes on, past the end or not
pub kids_on : {t : List ℕ} {c e n : ℕ} → Sized t e → Next t e c n → kids_from t n e ≡ kids_from t (c + size_at t c) e
kids_on {t} {c} {e} {n} s x = go (dec_lt e (c + size_at t c))
  where
    go : Dec (e < c + size_at t c) → kids_from t n e ≡ kids_from t (c + size_at t c) e
    go (yes h) = rw (kids_end t n e (x.past (omega arith))) (sym (kids_end t (c + size_at t c) e (omega arith)))
    go (no h) = rw (x.on (s c x.within) (omega arith)) refl

module _ (t : List ℕ) (k c e : ℕ) (s : Sized t e) (h : c < e) where
  pub stand_no : in_class (slot_of k (role_at t c)).class (kind_at t c) ≡ false → kids_stand t k (kids_from t c e) ≡ false
  unfolding kids_stand
  stand_no q = rw (kids_next t c e s h) (simp q)

  pub stand_yes : in_class (slot_of k (role_at t c)).class (kind_at t c) ≡ true → kids_stand t k (kids_from t (c + size_at t c) e) ≡ kids_stand t k (kids_from t c e)
  unfolding kids_stand
  stand_yes q = rw (kids_next t c e s h) (simp q)

  pub role_yes : role_at t c ≡ k → of_role t k (kids_from t c e) ≡ 1 + of_role t k (kids_from t (c + size_at t c) e)
  unfolding of_role
  role_yes q = rw (kids_next t c e s h) (simp (eq-eqb _ _ q))

  pub role_no : (role_at t c ≡ k → ⊥) → of_role t k (kids_from t c e) ≡ of_role t k (kids_from t (c + size_at t c) e)
  unfolding of_role
  role_no q = rw (kids_next t c e s h) (simp (ne_eqb _ _ q) (omega arith))

  pub pair_no : (role_at t c ≡ k → ⊥) → paired t k (kids_from t c e) ≡ false
  unfolding paired
  pair_no q = rw (kids_next t c e s h) (simp (ne_eqb _ _ q))

  pub pair_yes : role_at t c ≡ k → paired t (12 - k) (kids_from t (c + size_at t c) e) ≡ paired t k (kids_from t c e)
  unfolding paired
  pair_yes q = rw (kids_next t c e s h) (simp (eq-eqb _ _ q))

  pub for_yes : role_at t c ≡ 0 → kids_for_first t (kids_from t c e) ≡ eqb (kind_at t c) 45
  unfolding kids_for_first
  for_yes q = rw (kids_next t c e s h) (rw (eq-eqb _ _ q, kids_for_first))

  pub for_no : (role_at t c ≡ 0 → ⊥) → kids_for_first t (kids_from t (c + size_at t c) e) ≡ kids_for_first t (kids_from t c e)
  unfolding kids_for_first
  for_no q = rw (kids_next t c e s h) (rw (ne_eqb _ _ q, kids_for_first))

module _ (t : List ℕ) (k c e : ℕ) (h : e ≤ c) where
  pub stand_end : kids_stand t k (kids_from t c e) ≡ true
  unfolding kids_stand
  stand_end = rw (kids_end t c e h)

  pub role_end : of_role t k (kids_from t c e) ≡ 0
  unfolding of_role
  role_end = rw (kids_end t c e h)

  pub pair_end : paired t k (kids_from t c e) ≡ eqb k 8
  unfolding paired
  pair_end = rw (kids_end t c e h)

  pub for_end : kids_for_first t (kids_from t c e) ≡ true
  unfolding kids_for_first
  for_end = rw (kids_end t c e h)

pub filled_none : (t : List ℕ) (k : ℕ) (cs : List ℕ) → kids_filled 0 t k cs ≡ true
unfolding kids_filled
filled_none t k cs = refl

pub filled_more : (r : ℕ) (t : List ℕ) (k : ℕ) (cs : List ℕ) → kids_filled r t k cs ≡ true → filled t k cs r ≡ true → kids_filled (r + 1) t k cs ≡ true
unfolding kids_filled
filled_more r t k cs a b = rw add-one (simp (a, b))

pub filled_not : (n : ℕ) (t : List ℕ) (k : ℕ) (cs : List ℕ) (r : ℕ) → r < n → filled t k cs r ≡ false → kids_filled n t k cs ≡ false
unfolding kids_filled
filled_not zero t k cs r h e = absurd (omega arith)
filled_not (suc n) t k cs r h e = go (dec_lt r n) (λ l. filled_not n t k cs r l e)
  where
    stop : (b : Bool) → (b && false) ≡ false
    stop true = refl
    stop false = refl

    go : Dec (r < n) → (r < n → kids_filled n t k cs ≡ false) → (kids_filled n t k cs && filled t k cs n) ≡ false
    go (yes l) g = rw (g l)
    go (no l) g = let q : n ≡ r = omega arith in rw q (rw e (stop (kids_filled r t k cs)))
