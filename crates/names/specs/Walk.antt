-- What the walk does for each part of the tree that it goes through. Assumes nothing.
use Rattle.std.specs.Prelude.{ℕ, ◌+◌, ◌≤◌, Bool, true, false, ◌||◌, Option, List, eqb, length}
use Rattle.tree.specs.Bytes.{pick, role_at, size_at}
use Rattle.tree.specs.Forest.{Forest, node_head, forest_of}
use Rattle.tree.specs.code.Part.{Part}
use Rattle.tree.specs.code.Find.{first_child}
use Rattle.tree.specs.declared.kinds.Role.{Role}
use Rattle.tree.specs.declared.kinds.Role.TheVariants as role
use Rattle.tree.specs.Table.{table_of, underscored, globals_of}
use Rattle.tree.specs.code.Numbers.{number_named}
use Rattle.rules.specs.Order.{Cmd, skip, ◌⨟◌, Want, of_role, every, first_over, first_bound, clauses, bind_part, bind_of, binds, use_part, uses, part, form_of, takes, fail_name, fail_called}
use Rattle.rules.specs.code.Marks.{Every, EveryRound, round_house, tour, start, names_tour}
use Rattle.scope.specs.Does.{RoomFor, Does}
use Rattle.scope.specs.declared.Scope.{Scope}
use Rattle.names.specs.declared.walk.Binding.{Binding}
use Rattle.names.specs.declared.walk.Binding.TheVariants.{Sets, Uses}
use Rattle.names.specs.declared.walk.Wanted.{Wanted}
use Rattle.names.specs.declared.walk.Wanted.TheVariants.{All, Of}

-- From s and the words w to r and the words v: the house is as rules' tour of c leaves it, wherever it has room all the way.
pub record Goes (t : List ℕ) (d : ℕ) (c : Cmd) (w : List ℕ) (s : Scope) (v : List ℕ) (r : Scope) : Type 0 where
  pub does : Does t (Every (underscored (table_of t)) RoomFor d c) (tour (underscored (table_of t)) d c) w s v r

-- the same of one round of a loop, d the loops around its body
pub record Turns (t : List ℕ) (d : ℕ) (c : Cmd) (w : List ℕ) (s : Scope) (v : List ℕ) (r : Scope) : Type 0 where
  pub does : Does t (EveryRound (underscored (table_of t)) RoomFor (Every (underscored (table_of t)) RoomFor d c) (tour (underscored (table_of t)) d c)) (round_house (tour (underscored (table_of t)) d c)) w s v r

-- f: the number of the name fail
abbrev pub named_by : ℕ → ℕ → Bool
named_by f v = eqb v f

-- the children of node c
unfoldable pub kids_of : List ℕ → ℕ → Forest
kids_of t c = forest_of t (c + 1) (c + size_at t c)

-- a role's number
abbrev pub number : Role → ℕ
number r =
    elim r [
      | role.Item ↦ 0
      | role.First ↦ 1
      | role.Second ↦ 2
      | role.Type ↦ 3
      | role.Expression ↦ 4
      | role.Target ↦ 5
      | role.Name ↦ 6
      | role.Function ↦ 7
      | role.Key ↦ 8
    ]

-- the children asked for
abbrev pub want_of : Wanted → Want
want_of a = elim a [ All ↦ every | Of r ↦ of_role (number r) ]

-- what the nodes from i up to e have the pass do, the children of node c, and node c itself
unfoldable pub visit_of : List ℕ → ℕ → Want → ℕ → ℕ → Cmd
visit_of t f v i e = takes (named_by f) v (forest_of t i e)

unfoldable pub down_of : List ℕ → ℕ → Want → ℕ → Cmd
down_of t f v c = takes (named_by f) v (kids_of t c)

unfoldable pub node_of : List ℕ → ℕ → ℕ → Cmd
node_of t f c = part (named_by f) (form_of (node_head t c)) (node_head t c) (kids_of t c) (λ v. down_of t f v c)

abbrev pub wanted_of : List ℕ → Wanted → ℕ → Bool
wanted_of t a c = elim a [ All ↦ true | Of r ↦ eqb (number r) (role_at t c) ]

-- the kinds that bind a name
unfoldable pub names_of : ℕ → Bool
names_of k = eqb k 40 || (eqb k 43 || eqb k 47)

-- the names that children of role r of node c bind, set and used
unfoldable pub node_bind : List ℕ → ℕ → ℕ → Cmd
node_bind t r c = binds r (kids_of t c)

unfoldable pub node_use : List ℕ → ℕ → ℕ → Cmd
node_use t r c = uses r (kids_of t c)

-- the names are used, or else set
abbrev pub used_by : Binding → Bool
used_by b = elim b [ Sets ↦ false | Uses ↦ true ]

-- the names that node c binds, and that the nodes of role r from i up to e bind: used where u, else set
unfoldable pub name_node : Bool → List ℕ → ℕ → Cmd
name_node u t c = pick u (use_part (bind_of (node_head t c)) (node_head t c) (λ v. uses v (kids_of t c))) (bind_part (bind_of (node_head t c)) (node_head t c) (λ v. binds v (kids_of t c)))

unfoldable pub names_in : Bool → List ℕ → ℕ → ℕ → ℕ → Cmd
names_in u t r i e = pick u (uses r (forest_of t i e)) (binds r (forest_of t i e))

-- node c and all below it, with d loops around it
pub record Node (t : List ℕ) (c d : ℕ) : Type 0 where
  pub part : Part t c (c + size_at t c)
  pub some : 1 ≤ size_at t c
  pub deep : d ≤ c + 1

-- the clauses from node i up to e, one of them, and what of node c comes before and after the first over
unfoldable pub clauses_of : List ℕ → ℕ → ℕ → ℕ → Cmd
clauses_of t f i e = visit_of t f clauses i e

unfoldable pub clause_of : List ℕ → ℕ → ℕ → Cmd
clause_of t f i = pick (eqb 0 (role_at t i)) (down_of t f (of_role 4) i ⨟ down_of t f (of_role 5) i ⨟ node_bind t 5 i) skip

-- the comprehension c's first clause
abbrev pub first_clause : List ℕ → ℕ → Option ℕ
first_clause t c = first_child t 0 (c + 1) (c + size_at t c)

unfoldable pub over_of : List ℕ → ℕ → ℕ → Cmd
over_of t f c = down_of t f first_over c

unfoldable pub bound_of : List ℕ → ℕ → ℕ → Cmd
bound_of t f c = down_of t f first_bound c

-- an expression of statement c is a call of fail
unfoldable pub fail_of : List ℕ → ℕ → ℕ → Bool
fail_of t f c = fail_called (named_by f) (kids_of t c)

-- what the whole tree of n nodes has the pass do
unfoldable pub module_of : List ℕ → ℕ → Cmd
module_of t n = visit_of t (number_named t fail_name) (of_role 0) 0 n

-- there is room for the walk of n nodes, at every moment and at its end
pub record Ready (t : List ℕ) (n : ℕ) : Type 0 where
  pub part : Part t 0 n
  pub room : Every (underscored (table_of t)) RoomFor 0 (module_of t n) start
  pub few : length (names_tour (underscored (table_of t)) (globals_of t) (module_of t n)) ≤ 1024
