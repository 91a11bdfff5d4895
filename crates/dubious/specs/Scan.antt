-- What private functions promise: duplicate keys by the table of the numbers that stand for keys. Assumes nothing.
-- Nobody has to believe them: proofs/Keyed shows that of a valid file these are the keys of 01 and 02, §11.
use Rattle.std.specs.Prelude.{ℕ, ◌+◌, Bool, ◌&&◌, ◌||◌, List, [], ◌∷◌, Option, None, Some, eqb}
use Rattle.tree.specs.Bytes.{size_at, value_at}
use Rattle.tree.specs.Forest.{Head, Forest, node_head, forest_of}
use Rattle.tree.specs.code.Numbers.{like_by}
use Rattle.tree.specs.Keys.{alike}
use Rattle.rules.specs.Record.{Rec, listed}
use Rattle.rules.specs.Dubious.{keys, double, against, dict_at, idle_at}

-- a child of a dict that is a key
abbrev pub is_key : Head → Bool
is_key h = eqb 8 h.role && (eqb 20 h.kind || eqb 21 h.kind)

-- node m is a key equal to that of node j
abbrev pub equal_key : List ℕ → List ℕ → ℕ → ℕ → Bool
equal_key ns t m j = is_key (node_head t m) && alike (like_by ns (value_at t m) (value_at t j))

-- the children of node i
abbrev pub inside : List ℕ → ℕ → Forest
inside t i = forest_of t (i + 1) (i + size_at t i)

-- keys before others, the last first
unfoldable pub before : List Head → List Head → List Head
before [] seen = seen
before (s ∷ ss) seen = before ss (s ∷ seen)

-- the keys of some siblings, the last first
abbrev pub seen : Forest → List Head
seen f = before (keys f) []

-- 16 for the key at node j, where node r is the previous equal key, if there is one
abbrev pub doubled : List ℕ → List ℕ → Option ℕ → ℕ → List Rec
doubled ns t None j = []
doubled ns t (Some r) j = double (like_by ns (value_at t r) (value_at t j)) (node_head t r) (node_head t j) ∷ []

-- the key at node j against those of its siblings from node i on
abbrev pub clashes : List ℕ → List ℕ → ℕ → ℕ → List Rec
clashes ns t i j = against (like_by ns) (node_head t j) (seen (forest_of t i j))

-- 16 for node j, where it is a key
abbrev pub clash_recs : List ℕ → List ℕ → ℕ → ℕ → List Rec
clash_recs ns t i j = listed (is_key (node_head t j)) (clashes ns t i j) []

-- 16 for the keys of node i, where it is a dict
abbrev pub dict_recs : List ℕ → List ℕ → ℕ → List Rec
dict_recs ns t i = dict_at (like_by ns) (node_head t i) (inside t i)

-- 17 at node i
abbrev pub idle_recs : List ℕ → ℕ → List Rec
idle_recs t i = idle_at (node_head t i) (inside t i)
