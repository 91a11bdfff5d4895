-- What stands at the places from a up to b, and the first place of which something holds. Assumes nothing.
use Rattle.std.specs.Prelude.{ℕ, zero, suc, ◌+◌, ◌-◌, Bool, true, false, List, [], ◌∷◌}

-- n from place a on
unfoldable pub places_in : {A : Type 0} → (ℕ → A) → ℕ → ℕ → List A
places_in f a zero = []
places_in f a (suc n) = f a ∷ places_in f (a + 1) n

unfoldable pub places : {A : Type 0} → (ℕ → A) → ℕ → ℕ → List A
places f a b = places_in f a (b - a)

unfoldable pub seek_in : (ℕ → Bool) → ℕ → ℕ → ℕ
seek_in p a zero = a
seek_in p a (suc n) = elim (p a) [ true ↦ a | false ↦ seek_in p (a + 1) n ]

-- the first place of which p holds, or b
unfoldable pub seek : (ℕ → Bool) → ℕ → ℕ → ℕ
seek p a b = seek_in p a (b - a)
