-- Small files with what 01 says of them: number and place of the refusal, 0 and 0 where the file is valid.
-- proofs/Samples computes that the definition says the same of each. Assumes nothing.
use Rattle.std.specs.Prelude.{ℕ, List, [], ◌∷◌, ◌++◌, length}
use Rattle.tree.specs.Bytes.{ascii, mark}
use Rattle.tree.specs.Written.{u16, node_bytes, value_of, joined, headed, file_of, file}

pub record Sample : Type 0 where
  pub bytes : List ℕ
  pub number : ℕ
  pub place : ℕ

abbrev sample : ℕ → ℕ → List ℕ → Sample
sample n p t = record { bytes = t; number = n; place = p }

-- a list of statements of size z
abbrev list_of : ℕ → List ℕ
list_of z = node_bytes 8 0 z 0 0 65535

-- globals given, each by two bytes
abbrev file_with : List (List ℕ) → List (List ℕ) → List (List ℕ) → List ℕ
file_with ns vs gs = headed 1 (length ns) (length vs) (length gs) (joined ns ++ (joined vs ++ joined gs))

unfoldable pub samples : List Sample
samples =
    -- 01's 47 bytes: one literal as a statement
    sample 0 0 (file (node_bytes 5 0 2 0 1 65535 ∷ node_bytes 21 4 1 0 1 0 ∷ []) (value_of 3 (1 ∷ []) ∷ [])) ∷
    -- under 11 bytes
    sample 1 0 mark ∷
    -- versions 0, 3 and 65535
    sample 2 0 (headed 0 1 0 0 []) ∷
    sample 2 0 (headed 3 1 0 0 []) ∷
    sample 2 0 (headed 65535 1 0 0 []) ∷
    -- version 2: one pass
    sample 0 0 (file_of 2 (node_bytes 3 0 1 0 0 65535 ∷ []) []) ∷
    -- no nodes
    sample 3 0 (headed 1 0 0 0 []) ∷
    -- the node section is missing
    sample 4 0 (headed 1 1 0 0 []) ∷
    -- an integer with a leading zero byte
    sample 5 0 (file (node_bytes 3 0 1 0 0 65535 ∷ []) (value_of 3 (0 ∷ 1 ∷ []) ∷ [])) ∷
    -- four nodes of sizes 1, 2, 2, 1: node 0 is short of the count
    sample 7 0 (file (list_of 1 ∷ list_of 2 ∷ list_of 2 ∷ list_of 1 ∷ []) []) ∷
    -- node 2 reaches beyond the file
    sample 6 2 (file (list_of 3 ∷ list_of 1 ∷ list_of 2 ∷ []) []) ∷
    -- a dict whose value stands before its key
    sample 7 1
    (file
    (node_bytes 5 0 4 0 1 65535 ∷ node_bytes 29 4 3 0 1 65535 ∷ node_bytes 20 4 1 0 1 0 ∷ node_bytes 20 8 1 0 1 0 ∷ [])
    (value_of 0 (ascii "a") ∷ [])) ∷
    -- the second global is not above the first
    sample 9 1
    (file_with (node_bytes 3 0 1 0 0 65535 ∷ []) (value_of 0 (ascii "a") ∷ value_of 0 (ascii "b") ∷ []) (u16 1 ∷ u16 0 ∷ [])) ∷
    []
