-- The tree of a file: what the rules of 01 recurse over. Assumes nothing.
use Rattle.std.specs.Prelude.{ℕ, zero, suc, ◌+◌, ◌-◌, List, true, false, ltb}
use Rattle.tree.specs.Bytes.{pick, node_count, kind_at, role_at, size_at, begin_at, end_at, value_at}

-- a span, and the number of the value that stands there (65535: none)
pub record Spot : Type 0 where
  pub begin : ℕ
  pub end : ℕ
  pub value : ℕ

-- what a node says of itself, and its number in the file
pub record Head : Type 0 where
  pub kind : ℕ
  pub role : ℕ
  pub spot : Spot
  pub number : ℕ

-- nothing, or a node: its head, its children, and its later siblings
pub data Forest : Type 0 where
  none : Forest
  node : Head → Forest → Forest → Forest

unfoldable pub node_spot : List ℕ → ℕ → Spot
node_spot t i = record { begin = begin_at t i; end = end_at t i; value = value_at t i }

-- node i's number, as a record has it (02, §4). 65535 stands for none; so does every number from there on, which no file's node has: each
-- number then fits a word of a record, and no walk has to carry a bound.
abbrev pub number_at : ℕ → ℕ
number_at i = pick (ltb i 65535) i 65535

unfoldable pub node_head : List ℕ → ℕ → Head
node_head t i = record { kind = kind_at t i; role = role_at t i; spot = node_spot t i; number = number_at i }

-- The nodes from i up to e, as siblings with what is below them. The first argument is at least how many they are:
-- forest-node and forest-none of proofs/Laws say what this is without it.
unfoldable pub forest_in : ℕ → List ℕ → ℕ → ℕ → Forest
forest_in zero t i e = none
forest_in (suc k) t i e =
    elim (ltb i e) [
      | true ↦ node (node_head t i) (forest_in k t (i + 1) (i + size_at t i)) (forest_in k t (i + size_at t i) e)
      | false ↦ none
    ]

unfoldable pub forest_of : List ℕ → ℕ → ℕ → Forest
forest_of t i e = forest_in (e - i) t i e

-- the tree of a file: node 0 with what is below it
unfoldable pub tree_of : List ℕ → Forest
tree_of t = forest_of t 0 (node_count t)
