-- What the rules ask of nodes and their children. Assumes nothing.
use Rattle.std.specs.Prelude.{ℕ, suc, Bool, true, false, ◌||◌, List, [], ◌∷◌, ◌++◌, eqb}
use Rattle.tree.specs.Forest.{Spot, Head, Forest, Forest.none as leaf, node}
use Rattle.rules.specs.Record.{Rec, no_number}

-- what a table says of a number; d where it has no row
abbrev pub look {ℓ} : {A : Type ℓ} → ℕ → List (ℕ × A) → A → A
look k [] d = d
look k (e ∷ es) d = elim (eqb k e.0) [ true ↦ e.1 | false ↦ look k es d ]

-- "each node before its children", in file order
abbrev pub each : (Head → Forest → List Rec) → Forest → List Rec
each f leaf = []
each f (node h k s) = f h k ++ (each f k ++ each f s)

-- whether a node of the role r is there; how many are
abbrev pub has : ℕ → Forest → Bool
has r leaf = false
has r (node h k s) = eqb r h.role || has r s

abbrev pub how_many : ℕ → Forest → ℕ
how_many r leaf = 0
how_many r (node h k s) = elim (eqb r h.role) [ true ↦ suc (how_many r s) | false ↦ how_many r s ]

-- what stands for a node that isn't there: kind 0 is no node's
abbrev pub no_head : Head
no_head = record { kind = 0; role = 0; spot = record { begin = 0; end = 0; value = no_number }; number = no_number }

-- of the first node of the role r: its head; in it its kind and its spot; its children
abbrev pub head_at : ℕ → Forest → Head
head_at r leaf = no_head
head_at r (node h k s) = elim (eqb r h.role) [ true ↦ h | false ↦ head_at r s ]

abbrev pub kind_among : ℕ → Forest → ℕ
kind_among r f = (head_at r f).kind

abbrev pub spot_at : ℕ → Forest → Spot
spot_at r f = (head_at r f).spot

abbrev pub under : ℕ → Forest → Forest
under r leaf = leaf
under r (node h k s) = elim (eqb r h.role) [ true ↦ k | false ↦ under r s ]

-- of nodes of a role, what the last one gives; more: whether a later one has that role
abbrev pub last_of {ℓ} : {A : Type ℓ} → Bool → Bool → A → A → A
last_of false more here on = on
last_of true true here on = on
last_of true false here on = here
