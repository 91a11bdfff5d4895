-- The lent words after each step of the code. Word k below n is a place: the number of a node. Places whose nodes share span and name are
-- in one bucket, a chain of places. Assumes nothing.
use Rattle.std.specs.Prelude.{ℕ, Option, None, Some, zero, suc, ◌+◌, ◌*◌, ◌-◌, ◌%◌, true, false, List, [], ◌∷◌, eqb, get_or, set}
use Rattle.tree.specs.Bytes.{pick, begin_at, end_at, value_at}
use Rattle.tree.specs.Forest.{Head, node_spot, forest_of}
use Rattle.rules.specs.Names.{same}
use Rattle.meeting.specs.Asked.{asked}

-- where the words start that have, by bucket, 1 + its last place
abbrev pub lasts : ℕ
lasts = 2048

-- by place, 1 + the place before it in its bucket
abbrev pub befores : ℕ
befores = 3072

-- by place, whether its node is met
abbrev pub mets : ℕ
mets = 4096

-- the bucket of node i
unfoldable pub bucket_of : List ℕ → ℕ → ℕ
bucket_of t i = (31 * begin_at t i + 7 * end_at t i + value_at t i) % 1024

-- the first k buckets are empty
unfoldable pub emptied : List ℕ → ℕ → List ℕ
emptied w zero = w
emptied w (suc k) = set (emptied w k) (lasts + k) 0

-- place k goes to the front of the chain that starts at word b, not met
unfoldable pub linked_at : List ℕ → ℕ → ℕ → List ℕ
linked_at w k b = set (set (set w (befores + k) (get_or w b 0)) b (k + 1)) (mets + k) 0

-- place k joins the bucket of its node
unfoldable pub link_words : List ℕ → List ℕ → ℕ → List ℕ
link_words t w k = linked_at w k (lasts + bucket_of t (get_or w k 0))

-- the first k places are in their buckets
unfoldable pub linked : List ℕ → List ℕ → ℕ → List ℕ
linked t w zero = w
linked t w (suc k) = link_words t (linked t w k) k

-- node i is met: it takes place k, if it has that span and name and is the first
unfoldable pub touched : List ℕ → List ℕ → ℕ → ℕ → List ℕ
touched t w k i =
    pick (eqb (get_or w (mets + k) 0) 0)
    (pick (same (node_spot t (get_or w k 0)) (node_spot t i)) (set (set w k i) (mets + k) 1) w)
    w

-- the same of the places of a bucket from place q - 1 on, at most as many as the first argument says
unfoldable pub along : ℕ → List ℕ → List ℕ → ℕ → ℕ → List ℕ
along zero t w q i = w
along (suc left) t w q i =
    elim (eqb q 0) [
      | true ↦ w
      | false ↦ along left t (touched t w (q - 1) i) (get_or (touched t w (q - 1) i) (befores + (q - 1)) 0) i
    ]

-- the word that tells a place: 1 + its number; 0, where there is none
unfoldable pub word_of : Option ℕ → ℕ
word_of None = 0
word_of (Some k) = k + 1

-- node i is met
unfoldable pub meet_words : List ℕ → ℕ → List ℕ → ℕ → List ℕ
meet_words t n w i = along n t w (get_or w (lasts + bucket_of t i) 0) i

-- these nodes are met, one after the other
unfoldable pub meets : List ℕ → ℕ → List ℕ → List Head → List ℕ
meets t n w [] = w
meets t n w (h ∷ hs) = meets t n (meet_words t n w h.number) hs

-- the first n words' nodes, put in their buckets, then all that the walk of the file's nodes meets
unfoldable pub first_words : List ℕ → ℕ → ℕ → List ℕ → List ℕ
first_words t nodes n w = meets t n (linked t (emptied w 1024) n) (asked 0 (forest_of t 0 nodes))
