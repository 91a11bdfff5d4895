-- 01, "Node, 16 bytes: ..": refusals 6 and 8. Assumes nothing.
use Rattle.std.specs.Prelude.{ℕ, zero, suc, ◌+◌, List, Bool, true, false, ◌&&◌, ◌||◌, not, leb, ltb, eqb}
use Rattle.tree.specs.Bytes.{node_count, kind_at, size_at, begin_at, end_at, value_at, last_at, pick}
use Rattle.tree.specs.Values.{Value}
use Rattle.tree.specs.Table.{table_of, is_name, is_literal}

-- the last node numbered below j that has node i in its part; 0 where there is none
unfoldable pub parent_in : List ℕ → ℕ → ℕ → ℕ
parent_in t i zero = 0
parent_in t i (suc j) = elim (ltb i (j + size_at t j)) [ true ↦ j | false ↦ parent_in t i j ]

-- node i's parent
unfoldable pub parent_of : List ℕ → ℕ → ℕ
parent_of t i = parent_in t i i

-- what node i is measured against: the file for node 0 and outside node 0's part, else the parent's end
unfoldable pub limit_of : List ℕ → ℕ → ℕ → ℕ
limit_of t n i = pick (eqb i 0 || leb (size_at t 0) i) n (parent_of t i + size_at t (parent_of t i))

unfoldable pub known : ℕ → Bool
known k = (leb 1 k && leb k 13) || ((leb 20 k && leb k 33) || (leb 40 k && leb k 47))

-- the kinds that hold a name: identifier (20), name as a target (40), named parameter (43), loaded name (47)
abbrev pub holds_name : ℕ → Bool
holds_name k = eqb k 20 || (eqb k 40 || (eqb k 43 || eqb k 47))

-- identifier, name, named parameter and loaded name have a name, a literal a literal's value, no other node has one
abbrev pub value_fits : List Value → ℕ → ℕ → Bool
value_fits vs k v = pick (eqb k 21) (is_literal vs v) (pick (holds_name k) (is_name vs v) (eqb v 65535))

-- 6: node i
unfoldable pub wrong_node : List ℕ → ℕ → Bool
wrong_node t i =
    not (known (kind_at t i)
    && (leb (begin_at t i) (end_at t i)
    && (eqb (last_at t i) 0
    && (leb 1 (size_at t i)
    && (leb (i + size_at t i) (limit_of t (node_count t) i)
    && value_fits (table_of t) (kind_at t i) (value_at t i))))))

-- the root's depth is 1, a node's one more than its parent's; k is at least i
unfoldable pub depth_in : ℕ → List ℕ → ℕ → ℕ
depth_in zero t i = 1
depth_in (suc k) t i = elim (eqb i 0) [ true ↦ 1 | false ↦ depth_in k t (parent_of t i) + 1 ]

unfoldable pub depth_of : List ℕ → ℕ → ℕ
depth_of t i = depth_in i t i

-- 8: node i
unfoldable pub too_deep : List ℕ → ℕ → Bool
too_deep t i = ltb 48 (depth_of t i)
