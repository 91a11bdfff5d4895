-- A number in decimal digits. Assumes nothing.
use Rattle.std.specs.Prelude.{ℕ, zero, suc, ◌+◌, ◌/◌, ◌%◌, true, false, List, [], ◌∷◌, ◌++◌, ltb}

-- n, where it has at most k digits more than one
unfoldable pub digits : ℕ → ℕ → List ℕ
digits zero n = (48 + n % 10) ∷ []
digits (suc k) n =
    elim (ltb n 10) [
      | true ↦ (48 + n) ∷ []
      | false ↦ digits k (n / 10) ++ ((48 + n % 10) ∷ [])
    ]

-- no number has more digits than itself, but for 0
unfoldable pub decimal : ℕ → List ℕ
decimal n = digits n n
