-- The nodes that the names walk meets among some siblings, by what is asked of them: the walk of 01's order (rules' Order), told by
-- rows of numbers. Assumes nothing.
use Rattle.std.specs.Prelude.{ℕ, ◌+◌, ◌-◌, Bool, true, false, List, [], ◌∷◌, ◌++◌, eqb, leb}
use Rattle.tree.specs.Bytes.{pick, size_at}
use Rattle.tree.specs.Forest.{Head, Forest, node_head, forest_of}
use Rattle.rules.specs.Visit.{look}
use Rattle.rules.specs.Names.{met}
use Rattle.rules.specs.Order.{Form, forms, Bind, one, several, nothing, bindings, Want, of_role, every, first_over, first_bound, clauses, binds, takes}

-- of siblings: a visit of those wanted; the names that those of a role bind; nothing
pub data Ask : Type 0 where
  visits : Want → Ask
  names : ℕ → Ask
  no_ask : Ask

-- no call is one of fail: what the walk meets does not depend on it
abbrev pub never : ℕ → Bool
never v = false

-- those that are no role's number
abbrev pub ask_rows : List (ℕ × Ask)
ask_rows = (9, visits every) ∷ (10, visits first_over) ∷ (11, visits first_bound) ∷ (12, visits clauses) ∷ []

-- by number: 0 to 8, those of the role; 9, every one; 10 to 12, a comprehension's parts; 13 to 15, nothing; from 16 on, the names
-- that those of role 0 on bind
unfoldable pub ask_of : ℕ → Ask
ask_of a = pick (leb 16 a) (names (a - 16)) (pick (leb 13 a) no_ask (look a ask_rows (visits (of_role a))))

-- the nodes that the walk meets among these siblings, by what is asked
unfoldable pub asked_as : Ask → Forest → List Head
asked_as (visits v) f = met (takes never v f)
asked_as (names r) f = met (binds r f)
asked_as no_ask f = []

-- the same by number
unfoldable pub asked : ℕ → Forest → List Head
asked a f = asked_as (ask_of a) f

-- a node of this role is one of those asked for
unfoldable pub wanted : Ask → ℕ → Bool
wanted (visits (of_role r)) role = eqb r role
wanted (visits every) role = true
wanted (visits first_over) role = eqb 0 role
wanted (visits first_bound) role = eqb 0 role
wanted (visits clauses) role = eqb 0 role
wanted (names r) role = eqb r role
wanted no_ask role = false

-- what is asked of the siblings after a node; true: its role is 0
unfoldable pub after : Ask → Bool → Ask
after q false = q
after (visits (of_role r)) true = visits (of_role r)
after (visits every) true = visits every
after (visits first_over) true = no_ask
after (visits first_bound) true = visits clauses
after (visits clauses) true = visits clauses
after (names r) true = names r
after no_ask true = no_ask

-- what a node of each form has asked of its children, in order; 14: the node itself
unfoldable pub form_row : Form → List ℕ
form_row Form.breaking = []
form_row Form.returning = 4 ∷ []
form_row Form.expression = 4 ∷ []
form_row Form.assign = 3 ∷ 4 ∷ 5 ∷ 21 ∷ []
form_row Form.modify = 4 ∷ 5 ∷ 21 ∷ 5 ∷ 21 ∷ []
form_row Form.statements = 0 ∷ []
form_row Form.if = 4 ∷ 1 ∷ []
form_row Form.if_else = 4 ∷ 1 ∷ 2 ∷ []
form_row Form.for = 4 ∷ 5 ∷ 21 ∷ 1 ∷ []
form_row Form.def = 0 ∷ 3 ∷ 22 ∷ 16 ∷ 1 ∷ []
form_row Form.load = 16 ∷ []
form_row Form.identifier = 14 ∷ []
form_row Form.lambda = 0 ∷ 16 ∷ 1 ∷ []
form_row Form.comprehension = 10 ∷ 11 ∷ 8 ∷ 4 ∷ []
form_row Form.plain = 9 ∷ []

-- the same of a node that binds names
unfoldable pub bind_row : Bind → List ℕ
bind_row (one o) = 14 ∷ []
bind_row several = 16 ∷ []
bind_row nothing = []

-- the same of a node of this kind, by what is asked; a comprehension's clause has its over, its target's expressions, its target's names
unfoldable pub row : Ask → ℕ → List ℕ
row (visits (of_role r)) kind = form_row (look kind forms Form.plain)
row (visits every) kind = form_row (look kind forms Form.plain)
row (visits first_over) kind = 4 ∷ []
row (visits first_bound) kind = 5 ∷ 21 ∷ []
row (visits clauses) kind = 4 ∷ 5 ∷ 21 ∷ []
row (names r) kind = bind_row (look kind bindings nothing)
row no_ask kind = bind_row (look kind bindings nothing)

-- what the walk meets by one number of a row: the node itself, or what is asked of its children
unfoldable pub below : ℕ → Head → Forest → List Head
below p h k = look p ((13, []) ∷ (14, h ∷ []) ∷ []) (asked p k)

-- what it meets by a row
unfoldable pub run : List ℕ → Head → Forest → List Head
run [] h k = []
run (p ∷ ps) h k = below p h k ++ run ps h k

-- what it meets at a node, where something is asked of it and its siblings
unfoldable pub step : Ask → Head → Forest → List Head
step q h k = pick (wanted q h.role) (run (row q h.kind) h k) []

-- of node c of a file
abbrev pub at : (Head → Forest → List Head) → List ℕ → ℕ → List Head
at f t c = f (node_head t c) (forest_of t (c + 1) (c + size_at t c))
