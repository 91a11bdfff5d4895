-- What private functions ask of the nodes that they are given (in a valid file every node has it: proofs/Valid), and their children.
-- Assumes nothing.
use Rattle.std.specs.Prelude.{ℕ, ◌+◌, ◌<◌, List, T}
use Rattle.tree.specs.Bytes.{kind_at, size_at, value_at}
use Rattle.tree.specs.Forest.{Forest, forest_of}
use Rattle.tree.specs.Nodes.{holds_name}

-- every node below n that holds a name holds one of the first 512 values
pub record Low (t : List ℕ) (n : ℕ) : Type 0 where
  pub low : (j : ℕ) → j < n → T (holds_name (kind_at t j)) → value_at t j < 512

-- the children of node i
abbrev pub inside : List ℕ → ℕ → Forest
inside t i = forest_of t (i + 1) (i + size_at t i)
