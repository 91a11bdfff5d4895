-- Laws of places and of searches among them. Assumes nothing.
use Prim.Native.Nat.{ℕ, zero, suc, ◌+◌, ◌-◌, ◌≤◌, ◌<◌}
use native.Mathlib.Omega.{arith}
use native.Mathlib.Decide.{dec_lt}
use mathlib.Core.Path.{◌≡◌, refl, sym, ap, ◌∙◌}
use mathlib.Core.Bool.{Bool, true, false}
use mathlib.Core.List.{List, [], ◌∷◌, ◌++◌}
use lib.ListN.{length}
use Rattle.scope.specs.Lists.{places_in, places, seek_in, seek}

module _ {A : Type 0} (f : ℕ → A) where
  pub places_none : (a b : ℕ) → b ≤ a → places f a b ≡ []
  unfolding places places_in
  places_none a b h = let e : b - a ≡ 0 = omega arith in rw e

  pub places_cons : (a b : ℕ) → a < b → places f a b ≡ f a ∷ places f (a + 1) b
  unfolding places places_in
  places_cons a b h = let e : b - a ≡ suc (b - (a + 1)) = omega arith in rw (e, places_in)

  places_in_last : (n a : ℕ) → places_in f a (suc n) ≡ places_in f a n ++ (f (a + n) ∷ [])
  unfolding places_in
  places_in_last zero a = let e : a + 0 ≡ a = omega arith in rw e
  places_in_last (suc n) a = let e : a + suc n ≡ a + 1 + n = omega arith in rw e (ap (λ (l : List A). f a ∷ l) (places_in_last n (a + 1)))

  pub places_last : (a b : ℕ) → a ≤ b → places f a (b + 1) ≡ places f a b ++ (f b ∷ [])
  unfolding places
  places_last a b h =
      let e : b + 1 - a ≡ suc (b - a) = omega arith in
      let q : a + (b - a) ≡ b = omega arith in rw e (places_in_last (b - a) a ∙ rw q)

  places_in_length : (n a : ℕ) → length (places_in f a n) ≡ n
  unfolding places_in
  places_in_length zero a = refl
  places_in_length (suc n) a = ap suc (places_in_length n (a + 1))

  pub places_length : (a b : ℕ) → length (places f a b) ≡ b - a
  unfolding places
  places_length a b = places_in_length (b - a) a

-- what agrees at every place
module _ {A : Type 0} (f g : ℕ → A) where
  agree_in : (n a : ℕ) → ((k : ℕ) → a ≤ k → k < a + n → f k ≡ g k) → places_in f a n ≡ places_in g a n
  unfolding places_in
  agree_in zero a h = refl
  agree_in (suc n) a h = rw (h a (omega arith) (omega arith), agree_in n (a + 1) (λ k p q. h k (omega arith) (omega arith)))

  pub agree : (a b : ℕ) → ((k : ℕ) → a ≤ k → k < b → f k ≡ g k) → places f a b ≡ places g a b
  unfolding places
  agree a b h = agree_in (b - a) a (λ k p q. h k p (omega arith))

module _ (p : ℕ → Bool) where
  pub seek_end : (a b : ℕ) → b ≤ a → seek p a b ≡ a
  unfolding seek seek_in
  seek_end a b h = let e : b - a ≡ 0 = omega arith in rw e

  pub seek_hit : (a b : ℕ) → a < b → p a ≡ true → seek p a b ≡ a
  unfolding seek seek_in
  seek_hit a b h q = let e : b - a ≡ suc (b - (a + 1)) = omega arith in rw (e, seek_in, q)

  pub seek_miss : (a b : ℕ) → a < b → p a ≡ false → seek p a b ≡ seek p (a + 1) b
  unfolding seek seek_in
  seek_miss a b h q = let e : b - a ≡ suc (b - (a + 1)) = omega arith in rw (e, seek_in, q)

  seek_in_below : (n a j : ℕ) → a ≤ j → j < a + n → p j ≡ true → seek_in p a n ≤ j
  unfolding seek_in
  seek_in_below zero a j h k e = omega arith
  seek_in_below (suc n) a j h k e = go (p a) refl (dec_lt a j) (λ l. seek_in_below n (a + 1) j (omega arith) (omega arith) e)
    where
      go : (x : Bool) → p a ≡ x → Dec (a < j) → (a < j → seek_in p (a + 1) n ≤ j) → seek_in p a (suc n) ≤ j
      go true q d f = rw (seek_in, q) h
      go false q (yes l) f = rw (seek_in, q) (f l)
      go false q (no l) f = let z : a ≡ j = omega arith in let y : true ≡ false = sym e ∙ ap p (sym z) ∙ q in let x : ◌≡◌ {A = ℕ} 0 1 = cc in absurd (omega arith)

  pub seek_below : (a b j : ℕ) → a ≤ j → j < b → p j ≡ true → seek p a b ≤ j
  unfolding seek
  seek_below a b j h k e = seek_in_below (b - a) a j h (omega arith) e
