-- What is proved of valid trees, of every file that is judged valid.
use Rattle.std.specs.Prelude.{Ok}
use Prim.Native.Nat.{ℕ, ◌≤◌}
use native.Mathlib.Omega.{arith}
use mathlib.Core.Path.{◌≡◌}
use mathlib.Core.List.{List}
use lib.ListN.{length}
use Rattle.tree.specs.Forest.{Forest, Forest.none as leaf, node, tree_of}
use Rattle.tree.specs.Table.{table_of, spells, underscored}
use Rattle.tree.specs.declared.Mode.{Mode}
use Rattle.tree.specs.Judge.{judged}
use Rattle.tree.specs.code.Shape.{count}
use Rattle.tree.specs.declared.Facts.{Facts}
use Rattle.tree.proofs.Whole.{sound}
use Rattle.tree.proofs.Fits.{tree_valid, tree_count}
use Rattle.rules.specs.Order.{body, fail_name}
use Rattle.rules.specs.Joined.{lint_list, raise_all, no_tally, tally_of}
use Rattle.rules.specs.Premises.{Premises}
use Rattle.rules.specs.Letter.{Demand3Of, TheDemand}
use Rattle.rules.specs.code.Marks.{nodes, Every, start}
use Rattle.rules.proofs.Demand3.{demand3_of}
use Rattle.rules.proofs.Seven.{Capacity, capacity}
use Rattle.rules.proofs.Few.{lint_few}
use Rattle.rules.proofs.Tally.{lint_tally}

pub nodes_count : (f : Forest) → nodes f ≡ count f
unfolding count
nodes_count leaf = omega arith
nodes_count (node h k s) = let a = nodes_count k in let b = nodes_count s in omega arith

module _ (t : List ℕ) (f : Facts) (v : judged t ≡ Ok f) where
  pub file_nodes : nodes (tree_of t) ≡ f.nodes
  file_nodes = let a = nodes_count (tree_of t) in let b = tree_count t f v in omega arith

  file_few : nodes (tree_of t) ≤ 1024
  file_few =
      let s = sound t f v in
      let a = file_nodes in
      let b = s.nodes in
      let c = s.few_nodes in
      omega (arith, a, b, c)

  -- DEMAND 3
  pub file_demand3 : Premises (tree_of t) → Demand3Of t
  file_demand3 p = demand3_of t (tree_valid t f v) p

  -- the joined list, and its tally
  pub file_lint_few : (mode : Mode) → length (lint_list mode t) ≤ 10240
  file_lint_few mode = let a = lint_few mode t in let b = file_few in omega arith

  pub file_tally : (mode : Mode) → raise_all (lint_list mode t) no_tally ≡ tally_of (lint_list mode t)
  file_tally mode = lint_tally mode t file_few

  -- what the names engine has to hold
  pub file_capacity : Every (underscored (table_of t)) (Capacity (tree_of t)) 0 (body (spells (table_of t) fail_name) (tree_of t)) start
  file_capacity = capacity (underscored (table_of t)) (spells (table_of t) fail_name) (tree_of t) (tree_valid t f v)

pub the_demand : TheDemand
the_demand t f v p = file_demand3 t f v p
