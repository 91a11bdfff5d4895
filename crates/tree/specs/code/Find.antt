-- For the code and its laws: the children of a node by number, and the first of some siblings that has a role. Assumes nothing.
use Rattle.std.specs.Prelude.{Option, Some, None, ℕ, zero, suc, ◌+◌, ◌-◌, ◌≤◌, ◌<◌, List, true, false, ltb, eqb}
use Rattle.tree.specs.Bytes.{role_at, size_at}
use Rattle.tree.specs.Forest.{Forest, none, node}

-- k is at least the number of siblings
unfoldable pub child_in : ℕ → List ℕ → ℕ → ℕ → ℕ → ℕ
child_in zero t r i e = e
child_in (suc k) t r i e =
    elim (ltb i e) [
      | true ↦ elim (eqb r (role_at t i)) [ true ↦ i | false ↦ child_in k t r (i + size_at t i) e ]
      | false ↦ e
    ]

-- the first of the siblings from node i up to e that has role r; e where there is none
unfoldable pub child_of : List ℕ → ℕ → ℕ → ℕ → ℕ
child_of t r i e = child_in (e - i) t r i e

-- that sibling, where there is one
abbrev pub first_child : List ℕ → ℕ → ℕ → ℕ → Option ℕ
first_child t r i e = elim (ltb (child_of t r i e) e) [ true ↦ Some (child_of t r i e) | false ↦ None ]

-- node p's first child of role r; p's end where there is none
abbrev pub kid_of : List ℕ → ℕ → ℕ → ℕ
kid_of t r p = child_of t r (p + 1) (p + size_at t p)

-- the siblings from the first of role r on
unfoldable pub from_role : ℕ → Forest → Forest
from_role r none = none
from_role r (node h kids rest) = elim (eqb r h.role) [ true ↦ node h kids rest | false ↦ from_role r rest ]

-- A child of node p starts at c, or c is p's end: nothing between p and c reaches past c.
pub record Row (t : List ℕ) (p c : ℕ) : Type 0 where
  pub after : p < c
  pub within : c ≤ p + size_at t p
  pub clear : (m : ℕ) → p < m → m < c → m + size_at t m ≤ c
