-- Whole subtrees by node numbers: what a walk over them asks. Assumes nothing.
use Rattle.std.specs.Prelude.{ℕ, ◌+◌, ◌≤◌, ◌<◌, List}
use Rattle.tree.specs.Bytes.{size_at}

-- the nodes from i up to e are whole subtrees, and so are those below each of them.
pub record Part (t : List ℕ) (i e : ℕ) : Type 0 where
  pub few : e ≤ 1024
  pub some : (j : ℕ) → i ≤ j → j < e → 1 ≤ size_at t j
  pub ends : (j : ℕ) → i ≤ j → j < e → j + size_at t j ≤ e
  pub nest : (j k : ℕ) → i ≤ j → j < e → j < k → k < j + size_at t j → k + size_at t k ≤ j + size_at t j

-- node i with what is below it
pub record Subtree (t : List ℕ) (i : ℕ) : Type 0 where
  pub part : Part t i (i + size_at t i)
  pub some : 1 ≤ size_at t i
