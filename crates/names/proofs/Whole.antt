-- A judged file is ready for the walk, and its warnings are 01's list. Assumes nothing.
use Rattle.std.specs.Prelude.{Ok}
use Prim.Native.Nat.{ℕ, ◌≤◌, ◌<◌}
use native.Mathlib.Omega.{arith}
use mathlib.Core.Path.{◌≡◌, sym, ap, ◌∙◌}
use mathlib.Core.List.{List, map}
use lib.ListN.{get_or}
use Rattle.tree.specs.Bytes.{value_at}
use Rattle.tree.specs.Forest.{forest_of, tree_of}
use Rattle.tree.specs.Table.{table_of, underscored, spells, globals_of}
use Rattle.tree.specs.code.Numbers.{number_named}
use Rattle.tree.specs.Judge.{judged}
use Rattle.tree.specs.declared.Facts.{Facts}
use Rattle.tree.proofs.Whole.{sound, whole}
use Rattle.tree.proofs.ValidTable.{spells_number}
use Rattle.tree.proofs.Fields.{value_low}
use Rattle.rules.specs.Order.{body, fail_name, of_role, takes}
use Rattle.rules.specs.Names.{met, told, met_in, names_list}
use Rattle.rules.specs.code.Marks.{House, start, names_tour, nodes}
use Rattle.rules.proofs.Marked.{tour_names}
use Rattle.rules.proofs.Bounds.{every_map}
use Rattle.rules.proofs.Seven.{Capacity}
use Rattle.rules.proofs.Out.{names_few}
use Rattle.rules.proofs.Whole.{file_nodes, file_capacity}
use Rattle.scope.specs.Does.{RoomFor}
use Rattle.names.specs.Walk.{named_by, visit_of, module_of, Ready}
use Rattle.names.proofs.Fails.{takes_same}

module _ (t : List ℕ) (f : Facts) (v : judged t ≡ Ok f) (bytes : (k : ℕ) → get_or t k 0 < 256) where
  pub same_tree : module_of t f.nodes ≡ body (spells (table_of t) fail_name) (tree_of t)
  unfolding module_of visit_of tree_of
  same_tree =
      takes_same (named_by (number_named t fail_name)) (spells (table_of t) fail_name) (λ j. sym (spells_number t f v fail_name (value_at t j) (value_low t bytes j))) (whole t f v) (of_role 0)
      ∙ ap (λ (n : ℕ). takes (spells (table_of t) fail_name) (of_role 0) (forest_of t 0 n)) (sound t f v).nodes

  nodes_few : nodes (tree_of t) ≤ 1024
  nodes_few = let s = sound t f v in omega (arith, file_nodes t f v, s.nodes, s.few_nodes)

  has_room : (m : House) → Capacity (tree_of t) m → RoomFor m
  has_room m c = let n = nodes_few in (omega (arith, c.0), omega (arith, c.1.0), omega (arith, c.1.1.0), omega (arith, c.1.1.1))

  pub file_ready : Ready t f.nodes
  file_ready =
      record {
        part = whole t f v;
        room = rw same_tree (every_map (underscored (table_of t)) (Capacity (tree_of t)) RoomFor has_room (body (spells (table_of t) fail_name) (tree_of t)) 0 start (file_capacity t f v));
        few = rw (same_tree, tour_names (underscored (table_of t)) (globals_of t) (body (spells (table_of t) fail_name) (tree_of t)))
            (omega (arith, nodes_few, names_few (underscored (table_of t)) (spells (table_of t) fail_name) (tree_of t) (globals_of t)));
      }

  pub file_names : map (told (met (module_of t f.nodes))) (names_tour (underscored (table_of t)) (globals_of t) (module_of t f.nodes)) ≡ names_list t
  unfolding met_in names_list
  file_names = rw same_tree (ap (map (told (met_in t))) (tour_names (underscored (table_of t)) (globals_of t) (body (spells (table_of t) fail_name) (tree_of t))))
