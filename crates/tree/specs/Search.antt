-- The lowest place. Assumes nothing.
use Rattle.std.specs.Prelude.{ℕ, zero, suc, ◌+◌, Bool, true, false}

-- the first of the k places from i on where f holds; i + k where there is none
unfoldable pub first : ℕ → ℕ → (ℕ → Bool) → ℕ
first zero i f = i
first (suc k) i f = elim (f i) [ true ↦ i | false ↦ first k (i + 1) f ]

-- the lowest place below n where f holds; n where there is none
abbrev pub lowest : ℕ → (ℕ → Bool) → ℕ
lowest n f = first n 0 f
