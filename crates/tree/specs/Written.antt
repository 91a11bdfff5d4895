-- 01, "The tree file, version 1", whose layout version 2 has too (02, §9), written down: for files whose bytes a reader sees node by node.
-- Assumes nothing.
use Rattle.std.specs.Prelude.{ℕ, ◌/◌, ◌%◌, List, [], ◌∷◌, ◌++◌, length}
use Rattle.tree.specs.Bytes.{mark}

abbrev pub u16 : ℕ → List ℕ
u16 n = n % 256 ∷ n / 256 ∷ []

abbrev pub u32 : ℕ → List ℕ
u32 n = u16 (n % 65536) ++ u16 (n / 65536)

-- kind, role, size, begin, end, value number
abbrev pub node_bytes : ℕ → ℕ → ℕ → ℕ → ℕ → ℕ → List ℕ
node_bytes k r z b e v = (k ∷ r ∷ []) ++ (u16 z ++ (u32 b ++ (u32 e ++ (u16 v ++ u16 0))))

-- kind, bytes
abbrev pub value_of : ℕ → List ℕ → List ℕ
value_of k bs = (k ∷ []) ++ (u16 (length bs) ++ bs)

abbrev pub joined : List (List ℕ) → List ℕ
joined [] = []
joined (l ∷ ls) = l ++ joined ls

-- the mark, a version, the counts of nodes, values and globals, and what follows
abbrev pub headed : ℕ → ℕ → ℕ → ℕ → List ℕ → List ℕ
headed v n nv g rest = mark ++ (u16 v ++ (u16 n ++ (u16 nv ++ (u16 g ++ rest))))

-- of a version, globals not given
abbrev pub file_of : ℕ → List (List ℕ) → List (List ℕ) → List ℕ
file_of v ns vs = headed v (length ns) (length vs) 65535 (joined ns ++ joined vs)

abbrev pub file : List (List ℕ) → List (List ℕ) → List ℕ
file ns vs = file_of 1 ns vs
