-- 01, "Kinds and children": refusal 7. Assumes nothing.
use Rattle.std.specs.Prelude.{ℕ, zero, suc, ◌+◌, ◌-◌, [], List, ◌∷◌, Bool, true, false, ◌&&◌, not, leb, eqb}
use Rattle.tree.specs.Bytes.{node_count, kind_at, role_at, size_at, pick}
use Rattle.tree.specs.Forest.{Forest, none, node, forest_of}

-- classes of kinds: statement, expression, target, parameter, clause; loaded name, kind 47
abbrev pub S : ℕ
S = 1

abbrev pub E : ℕ
E = 2

abbrev pub T : ℕ
T = 3

abbrev pub P : ℕ
P = 4

abbrev pub C : ℕ
C = 5

abbrev pub L : ℕ
L = 6

-- a def's name, which is kind 40 alone; and what no kind is of
abbrev pub N : ℕ
N = 7

abbrev pub nothing : ℕ
nothing = 9

-- the class of a kind; 0 where it is unknown
unfoldable pub class_of : ℕ → ℕ
class_of k =
    pick (leb 1 k && leb k 13) S
    (pick (leb 20 k && leb k 33) E
    (pick (leb 40 k && leb k 42) T (pick (leb 43 k && leb k 44) P (pick (leb 45 k && leb k 46) C (pick (eqb k 47) L 0)))))

-- children of one role: the class they have, how many there are at least and at most
pub record Slot : Type 0 where
  pub role : ℕ
  pub class : ℕ
  pub least : ℕ
  pub most : ℕ

abbrev pub slot : ℕ → ℕ → ℕ → ℕ → Slot
slot c r a b = record { role = r; class = c; least = a; most = b }

abbrev one_of : ℕ → ℕ → Slot
one_of c r = slot c r 1 1

abbrev opt_of : ℕ → ℕ → Slot
opt_of c r = slot c r 0 1

-- any number: no file has more than 1,024 nodes
abbrev any_of : ℕ → ℕ → Slot
any_of c r = slot c r 0 1024

abbrev some_of : ℕ → ℕ → Slot
some_of c r = slot c r 1 1024

abbrev pub in_class : ℕ → ℕ → Bool
in_class c k = pick (eqb c N) (eqb k 40) (eqb (class_of k) c)

-- the list of 01, without the order of a dict's pairs and of clauses; a kind that is not here has no children
abbrev pub slots : List (ℕ × List Slot)
slots =
    -- return: at most one E4; expression: E4
    (4, opt_of E 4 ∷ [])
    ∷ (5, one_of E 4 ∷ [])
    -- assign: T5, at most one type E3, E4; assign-modify: T5, E4
    ∷ (6, one_of T 5 ∷ opt_of E 3 ∷ one_of E 4 ∷ [])
    ∷ (7, one_of T 5 ∷ one_of E 4 ∷ [])
    -- statements: any S0; if: E4, S1; if-else: E4, S1, S2; for: T5, E4, S1
    ∷ (8, any_of S 0 ∷ [])
    ∷ (9, one_of E 4 ∷ one_of S 1 ∷ [])
    ∷ (10, one_of E 4 ∷ one_of S 1 ∷ one_of S 2 ∷ [])
    ∷ (11, one_of T 5 ∷ one_of E 4 ∷ one_of S 1 ∷ [])
    -- def: kind 40 as name, role 6; any P0; at most one type E3; S1. load: any kind 47, role 0
    ∷ (12, one_of N 6 ∷ any_of P 0 ∷ opt_of E 3 ∷ one_of S 1 ∷ [])
    ∷ (13, any_of L 0 ∷ [])
    -- call: function E7, any E0; lambda: any P0, body E1
    ∷ (23, one_of E 7 ∷ any_of E 0 ∷ [])
    ∷ (24, any_of P 0 ∷ one_of E 1 ∷ [])
    -- list comprehension: result E4, clauses C0; dict comprehension: key E8, result E4, clauses C0. At least one clause
    ∷ (25, one_of E 4 ∷ some_of C 0 ∷ [])
    ∷ (26, one_of E 8 ∷ one_of E 4 ∷ some_of C 0 ∷ [])
    -- tuple, list, other: any E0; dict: key E8 and E4
    ∷ (27, any_of E 0 ∷ [])
    ∷ (28, any_of E 0 ∷ [])
    ∷ (33, any_of E 0 ∷ [])
    ∷ (29, any_of E 8 ∷ any_of E 4 ∷ [])
    -- conditional: three E0; equal, not equal: left E1, right E2
    ∷ (30, slot E 0 3 3 ∷ [])
    ∷ (31, one_of E 1 ∷ one_of E 2 ∷ [])
    ∷ (32, one_of E 1 ∷ one_of E 2 ∷ [])
    -- several: any T0; index or dot, parameters: any E0; for: T5, E4; if: E4
    ∷ (41, any_of T 0 ∷ [])
    ∷ (42, any_of E 0 ∷ [])
    ∷ (43, any_of E 0 ∷ [])
    ∷ (44, any_of E 0 ∷ [])
    ∷ (45, one_of T 5 ∷ one_of E 4 ∷ [])
    ∷ (46, one_of E 4 ∷ [])
    ∷ []

abbrev pub slots_of : ℕ → List (ℕ × List Slot) → List Slot
slots_of k [] = []
slots_of k (e ∷ es) = pick (eqb k e.0) e.1 (slots_of k es)

abbrev pub slot_in : ℕ → List Slot → Slot
slot_in r [] = slot nothing r 0 0
slot_in r (s ∷ ss) = pick (eqb r s.role) s (slot_in r ss)

-- the slot of the children of role r of a node of kind k
unfoldable pub slot_of : ℕ → ℕ → Slot
slot_of k r = slot_in r (slots_of k slots)

-- each child of a node of kind k is of the class that the slot of its role says
unfoldable pub all_stand : ℕ → Forest → Bool
all_stand k none = true
all_stand k (node h kids rest) = in_class (slot_of k h.role).class h.kind && all_stand k rest

-- how many children have role r
unfoldable pub many : ℕ → Forest → ℕ
many r none = 0
many r (node h kids rest) = pick (eqb h.role r) 1 0 + many r rest

-- of each role below r, as many children as the slot says at least and at most
unfoldable pub all_filled : ℕ → ℕ → Forest → Bool
all_filled zero k f = true
all_filled (suc r) k f = all_filled r k f && (leb (slot_of k r).least (many r f) && leb (many r f) (slot_of k r).most)

-- "pairs of key E8 and E4, key first": w is the role whose turn it is
unfoldable pub in_pairs : ℕ → Forest → Bool
in_pairs w none = eqb w 8
in_pairs w (node h kids rest) = eqb h.role w && in_pairs (12 - w) rest

-- "At least one clause, the first a for": clauses have role 0, a for is kind 45
unfoldable pub for_first : Forest → Bool
for_first none = true
for_first (node h kids rest) = elim (eqb h.role 0) [ true ↦ eqb h.kind 45 | false ↦ for_first rest ]

-- "Apart from dict and clauses, children may stand in any order."
unfoldable pub in_order : ℕ → Forest → Bool
in_order k f = pick (eqb k 29) (in_pairs 8 f) (pick (eqb k 25) (for_first f) (pick (eqb k 26) (for_first f) true))

-- the children of a node of kind k
unfoldable pub kids_fit : ℕ → Forest → Bool
kids_fit k f = all_stand k f && (all_filled 9 k f && in_order k f)

-- "node 0 is a statement, role 0, its size the node count"
unfoldable pub root_ok : List ℕ → ℕ → Bool
root_ok t n = eqb (size_at t 0) n && (eqb (class_of (kind_at t 0)) 1 && eqb (role_at t 0) 0)

-- 7: node i
unfoldable pub wrong_children : List ℕ → ℕ → Bool
wrong_children t i =
    not (pick (eqb i 0) (root_ok t (node_count t)) true
    && kids_fit (kind_at t i) (forest_of t (i + 1) (i + size_at t i)))
