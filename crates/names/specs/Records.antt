-- The records of the warnings that stand in the words. Assumes nothing.
use Rattle.std.specs.Prelude.{ℕ, ◌+◌, List, ◌++◌, ltb, get_or, take, drop}
use Rattle.tree.specs.Bytes.{pick}
use Rattle.tree.specs.Forest.{node_head}
use Rattle.rules.specs.Record.{Rec, named_at}
use Rattle.scope.specs.Lists.{places}
use Rattle.meeting.specs.Words.{first_words}

-- the k-th: its code, and the node that it is at
unfoldable pub record_in : List ℕ → List ℕ → ℕ → Rec
record_in t w k = named_at (get_or w (4096 + k) 0) (node_head t (get_or w (3072 + k) 0))

-- the first n
unfoldable pub records_of : List ℕ → List ℕ → ℕ → List Rec
records_of t w n = places (record_in t w) 0 n

-- the words after each of the first r warned nodes became the first of its span and name that the walk of n nodes meets, or stayed
unfoldable pub met_words : List ℕ → ℕ → List ℕ → ℕ → List ℕ
met_words t n w r = pick (ltb 0 r) (take 3072 w ++ first_words t n r (drop 3072 w)) w
