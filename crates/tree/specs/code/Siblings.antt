-- For the code and its laws: a step of the walk over siblings. Assumes nothing.
use Rattle.std.specs.Prelude.{Option, ℕ, ◌≡◌, ◌+◌, ◌≤◌, ◌<◌, min, List, MatchOption}
use Rattle.tree.specs.Bytes.{size_at}
use Rattle.tree.specs.declared.siblings.SiblingWalk.{SiblingWalk}

-- Among siblings that end at e, n is next to node j: by its size, or the end where the size is 0.
pub record Next (t : List ℕ) (e j n : ℕ) : Type 0 where
  pub within : j < e
  pub further : j < n
  pub on : 1 ≤ size_at t j → j + size_at t j ≤ e → n ≡ j + size_at t j
  pub stuck : size_at t j ≡ 0 → n ≡ e
  pub past : e ≤ j + size_at t j → e ≤ n

-- Walk a stood at node j, and goes on as b.
pub record Goes (a : SiblingWalk) (j : ℕ) (b : SiblingWalk) : Type 0 where
  pub here : j ≡ a.at
  pub same : b.t.now ≡ a.t.now
  pub ends : b.end ≡ a.end
  pub next : Next a.t.now a.end j b.at

-- n alone is next to node j: behind it by its size past the end too, up to the largest number of 64 bits.
pub record Only (t : List ℕ) (e j n : ℕ) : Type 0 where
  pub next : Next t e j n
  pub far : 1 ≤ size_at t j → n ≡ min (j + size_at t j) 18446744073709551615

-- At its end it stays.
abbrev pub goes : SiblingWalk → Option ℕ → SiblingWalk → Type 0
goes a r b = MatchOption r ((a.end ≤ a.at) × (b ≡ a)) (λ j. Goes a j b × Only a.t.now a.end j b.at)
