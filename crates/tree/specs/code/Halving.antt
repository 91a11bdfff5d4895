-- A search by halving. Assumes nothing.
use Rattle.std.specs.Prelude.{ℕ, zero, suc, ◌+◌, ◌-◌, ◌/◌, Bool}
use Rattle.tree.specs.Bytes.{pick}

-- of the n places from i on, by halving and in at most k steps, the first where f doesn't hold, if f holds of none behind one where it doesn't
unfoldable pub halve : ℕ → ℕ → ℕ → (ℕ → Bool) → ℕ
halve zero i n f = i
halve (suc k) i zero f = i
halve (suc k) i (suc n) f = pick (f (i + suc n / 2)) (halve k (i + suc n / 2 + 1) (n - suc n / 2) f) (halve k i (suc n / 2) f)

abbrev pub halved : ℕ → (ℕ → Bool) → ℕ
halved n f = halve n 0 n f
