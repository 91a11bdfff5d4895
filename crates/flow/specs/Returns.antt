-- What private functions of last, ends and returns promise and require. Assumes nothing.
-- Nobody has to believe them: the walk's promise is the rule's list.
use Rattle.std.specs.Prelude.{Ok, Option as Maybe, Some, None}
use Rattle.std.specs.Prelude.{ℕ, ◌+◌, ◌≤◌, ◌<◌, ◌≡◌, cond, List, [], ◌∷◌, eqb}
use Rattle.std.proofs.Math.Option.{Option, none, some}
use Rattle.tree.specs.Bytes.{kind_at, size_at}
use Rattle.tree.specs.Forest.{Head, Forest, Forest.none as leaf, node, node_head, forest_of}
use Rattle.tree.specs.code.Part.{Part}
use Rattle.tree.specs.code.Find.{kid_of}
use Rattle.tree.specs.Children.{many}
use Rattle.tree.specs.Judge.{judged}
use Rattle.tree.specs.declared.Facts.{Facts}
use Rattle.rules.specs.Record.{listed}
use Rattle.rules.specs.Visit.{has}
use Rattle.rules.specs.Flow.{Return, the_rest, returns}

-- ---- the last of some siblings

-- the last that is there: b, or else a
unfoldable pub later_of : Forest → Forest → Forest
later_of leaf a = a
later_of (node h k s) a = node h k s

-- the last of some siblings that has role r, alone
unfoldable pub last_node : ℕ → Forest → Forest
last_node r leaf = leaf
last_node r (node h k s) = later_of (last_node r s) (cond (eqb r h.role) (node h k leaf) leaf)

-- node j with what is below it, where there is one
unfoldable pub node_if : List ℕ → Maybe ℕ → Forest
node_if t None = leaf
node_if t (Some j) = node (node_head t j) (forest_of t (j + 1) (j + size_at t j)) leaf

-- found is the last of the siblings from node i up to e that has role r
pub record Last (t : List ℕ) (r i e : ℕ) (found : Maybe ℕ) : Type 0 where
  pub within : (j : ℕ) → found ≡ Some j → (i ≤ j) × (j < e)
  pub so : last_node r (forest_of t i e) ≡ node_if t found

-- ---- defs

-- a def: its name, its one body, and no return in what is not its body
pub record Shaped (t : List ℕ) (i : ℕ) : Type 0 where
  pub name : kid_of t 6 i < i + size_at t i
  pub body : kid_of t 1 i < i + size_at t i
  pub one : many 1 (forest_of t (i + 1) (i + size_at t i)) ≤ 1
  pub rest : returns the_rest (forest_of t (i + 1) (i + size_at t i)) ≡ []

-- the nodes from i up to e, in which each def is one
pub record Tidy (t : List ℕ) (i e : ℕ) : Type 0 where
  pub part : Part t i e
  pub defs : (j : ℕ) → i ≤ j → j < e → kind_at t j ≡ 12 → Shaped t j

-- node i with what is below it, in which each def is one
pub record TidyAt (t : List ℕ) (i : ℕ) : Type 0 where
  pub tidy : Tidy t i (i + size_at t i)
  pub some : 1 ≤ size_at t i

-- node i is a def
pub record DefAt (t : List ℕ) (i : ℕ) : Type 0 where
  pub at : TidyAt t i
  pub kind : kind_at t i ≡ 12

-- the head of node j, where there is one
unfoldable pub head_if : List ℕ → Maybe ℕ → Option Head
head_if t None = none
head_if t (Some j) = some (node_head t j)

-- what a node is itself among the returns
unfoldable pub own : Head → Forest → List Return
own h k = listed (eqb 4 h.kind) (record { head = h; valued = has 4 k } ∷ []) []

-- ---- the whole call

-- the file is valid, and has n nodes
pub record Checked (t : List ℕ) (n : ℕ) : Type 0 where
  pub facts : Facts
  pub valid : judged t ≡ Ok facts
  pub nodes : facts.nodes ≡ n
