-- 01, "Names", the paragraph "Order": the commands that a tree is, in 01's order. The names pass (Names) and the runs of demand 3
-- (Runs) both go over them. What tells break from continue, and a bare return from another, is for the runs alone. Assumes nothing.
use Rattle.std.specs.Prelude.{ℕ, Bool, true, false, cond, ◌&&◌, ◌||◌, List, [], ◌∷◌, eqb}
use Rattle.tree.specs.Bytes.{ascii}
use Rattle.tree.specs.Forest.{Head, Forest, none, node}
use Rattle.rules.specs.Visit.{look, has}

-- break ends its loop, continue the loop's round
pub data Broken : Type 0 where
  the_loop the_round : Broken

-- why a statement stops what comes after it: break or continue; return with no expression, or with one; a call of fail
pub data Stop : Type 0 where
  breaks : Broken → Stop
  bare : Head → Stop
  valued : Stop
  fails : Stop

-- which of codes 1, 2 and 3 a setting has where it is not used
pub data Sort : Type 0 where
  load assign argument : Sort

-- Use the name at a node; set it; stop (the pass notes an abort and goes on, a run ends there); two sides (the pass goes through both, a run
-- takes one); a loop; a scope of its own.
pub data Cmd : Type 0 where
  skip : Cmd
  ◌⨟◌ : Cmd → Cmd → Cmd
  use_of : Head → Cmd
  set_of : Sort → Head → Cmd
  stop : Stop → Cmd
  branch : Cmd → Cmd → Cmd
  loop : Cmd → Cmd
  scope : Cmd → Cmd

infixr 20 ◌⨟◌
-- the kinds that the names pass tells apart; any other is plain: its children are visited in file order
pub data Form : Type 0 where
  breaking returning expression assign modify statements if if_else for def load identifier lambda comprehension plain : Form

abbrev pub forms : List (ℕ × Form)
forms = (1, Form.breaking) ∷ (2, Form.breaking) ∷ (4, Form.returning) ∷ (5, Form.expression) ∷ (6, Form.assign) ∷ (7, Form.modify)
    ∷ (8, Form.statements) ∷ (9, Form.if) ∷ (10, Form.if_else) ∷ (11, Form.for) ∷ (12, Form.def) ∷ (13, Form.load)
    ∷ (20, Form.identifier) ∷ (24, Form.lambda) ∷ (25, Form.comprehension) ∷ (26, Form.comprehension) ∷ []

abbrev pub form_of : Head → Form
form_of h = look h.kind forms Form.plain

-- what a node binds: a target's name, a parameter's, a loaded name; several: what its members bind
pub data Bind : Type 0 where
  one : Sort → Bind
  several : Bind
  nothing : Bind

abbrev pub bindings : List (ℕ × Bind)
bindings = (40, one Sort.assign) ∷ (41, several) ∷ (43, one Sort.argument) ∷ (47, one Sort.load) ∷ []

-- Which nodes of a list of children are visited: those of a role, or every one, in file order;
-- or of a comprehension's its first over; its first target and later clauses; its later clauses.
pub data Want : Type 0 where
  of_role : ℕ → Want
  every first_over first_bound clauses : Want

abbrev pub picked : Bool → Cmd → Cmd → Cmd
picked false a b = b
picked true a b = a ⨟ b

abbrev pub bind_of : Head → Bind
bind_of h = look h.kind bindings nothing

abbrev pub bind_part : Bind → Head → (ℕ → Cmd) → Cmd
bind_part (one o) h down = set_of o h
bind_part several h down = down 0
bind_part nothing h down = skip

-- the names of targets, parameters and loaded names of the role r, in file order, set
abbrev pub binds : ℕ → Forest → Cmd
binds r none = skip
binds r (node h k s) = picked (eqb r h.role) (bind_part (bind_of h) h (λ v. binds v k)) (binds r s)

-- the same names as uses
abbrev pub use_part : Bind → Head → (ℕ → Cmd) → Cmd
use_part (one o) h down = use_of h
use_part several h down = down 0
use_part nothing h down = skip

abbrev pub uses : ℕ → Forest → Cmd
uses r none = skip
uses r (node h k s) = picked (eqb r h.role) (use_part (bind_of h) h (λ v. uses v k)) (uses r s)

-- kind 1 is break, kind 2 continue
abbrev pub broken_by : Head → Broken
broken_by h = cond (eqb 1 h.kind) the_loop the_round

abbrev pub fail_name : List ℕ
fail_name = ascii "fail"

module _ (is_fail : ℕ → Bool) where
  -- the function of a call is the identifier fail
  abbrev pub fail_named : Forest → Bool
  fail_named none = false
  fail_named (node h k s) = (eqb 7 h.role && (eqb 20 h.kind && is_fail h.spot.value)) || fail_named s

  -- the expression of a statement is a call of the identifier fail
  abbrev pub fail_called : Forest → Bool
  fail_called none = false
  fail_called (node h k s) = (eqb 4 h.role && (eqb 23 h.kind && fail_named k)) || fail_called s

  -- What a node of each form has the pass do; down: the visit of its children.
  -- "break and continue set loop", "Return and a statement that is a call of the identifier fail set function".
  -- "assign takes type, value, the target's expressions, then its names."
  -- "Assign-modify: value, the target's expressions, its names as uses, then the target as in an assign."
  -- "A condition is visited before its branch. If: the second side is empty."
  -- "For: visit over, then the target as in an assign and the body".
  -- "Def: parameter expressions, return type, name set, new scope with parameters, body. Lambda likewise without type and name."
  -- "Comprehension: first over, new scope, first target; ..; result (key before it)."
  abbrev pub part : Form → Head → Forest → (Want → Cmd) → Cmd
  part Form.breaking h k down = stop (breaks (broken_by h))
  part Form.returning h k down = down (of_role 4) ⨟ stop (cond (has 4 k) valued (bare h))
  part Form.expression h k down = down (of_role 4) ⨟ cond (fail_called k) (stop fails) skip
  part Form.assign h k down = down (of_role 3) ⨟ down (of_role 4) ⨟ down (of_role 5) ⨟ binds 5 k
  part Form.modify h k down = down (of_role 4) ⨟ down (of_role 5) ⨟ uses 5 k ⨟ down (of_role 5) ⨟ binds 5 k
  part Form.statements h k down = down (of_role 0)
  part Form.if h k down = down (of_role 4) ⨟ branch (down (of_role 1)) skip
  part Form.if_else h k down = down (of_role 4) ⨟ branch (down (of_role 1)) (down (of_role 2))
  part Form.for h k down = down (of_role 4) ⨟ loop (down (of_role 5) ⨟ binds 5 k ⨟ down (of_role 1))
  part Form.def h k down = down (of_role 0) ⨟ down (of_role 3) ⨟ binds 6 k ⨟ scope (binds 0 k ⨟ down (of_role 1))
  part Form.load h k down = binds 0 k
  part Form.identifier h k down = use_of h
  part Form.lambda h k down = down (of_role 0) ⨟ scope (binds 0 k ⨟ down (of_role 1))
  part Form.comprehension h k down = down first_over ⨟ scope (down first_bound ⨟ down (of_role 8) ⨟ down (of_role 4))
  part Form.plain h k down = down every

  -- What one of a list of children has the pass do; on: the visit of its later siblings.
  -- "first over, .., first target; each later for is over then target, each if its condition".
  abbrev pub step : Want → Head → Forest → (Want → Cmd) → (Want → Cmd) → Cmd
  step (of_role r) h k down on = picked (eqb r h.role) (part (form_of h) h k down) (on (of_role r))
  step every h k down on = part (form_of h) h k down ⨟ on every
  step first_over h k down on = elim (eqb 0 h.role) [ false ↦ on first_over | true ↦ down (of_role 4) ]
  step first_bound h k down on = elim (eqb 0 h.role) [ false ↦ on first_bound | true ↦ down (of_role 5) ⨟ binds 5 k ⨟ on clauses ]
  step clauses h k down on = picked (eqb 0 h.role) (down (of_role 4) ⨟ down (of_role 5) ⨟ binds 5 k) (on clauses)

  abbrev pub takes : Want → Forest → Cmd
  takes w none = skip
  takes w (node h k s) = step w h k (λ v. takes v k) (λ v. takes v s)

  -- the module's body is node 0; the body of a def with these children
  abbrev pub body : Forest → Cmd
  body f = takes (of_role 0) f

  abbrev pub def_body : Forest → Cmd
  def_body k = binds 0 k ⨟ takes (of_role 1) k
