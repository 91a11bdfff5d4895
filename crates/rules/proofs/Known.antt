-- The starred examples of 01 have the lists that 01 gives them, and their files are valid: one table, one statement.
use mathlib.Core.Path.{◌≡◌, refl}
use mathlib.Core.Bool.{true}
use Rattle.tree.specs.Search.{first}
use Rattle.tree.specs.Bytes.{u16_at, u32_at, version_of, node_count, value_count, global_count, kind_at, role_at, size_at, begin_at, end_at, value_at, last_at}
use Rattle.tree.specs.Forest.{node_spot, node_head, forest_in, forest_of, tree_of}
use Rattle.tree.specs.Values.{offset, formed, precedes}
use Rattle.tree.specs.Table.{wrong_value, wrong_global}
use Rattle.tree.specs.Nodes.{parent_in, parent_of, limit_of, known, wrong_node, depth_in, depth_of, too_deep}
use Rattle.tree.specs.Children.{class_of, slot_of, all_stand, many, all_filled, in_pairs, for_first, in_order, kids_fit, root_ok, wrong_children}
use Rattle.tree.specs.Judge.{checks, facts_of, judged}
use Rattle.rules.specs.Names.{met_in, names_list}
use Rattle.rules.specs.Flow.{flow_list}
use Rattle.rules.specs.Incompatible.{incompatible_list}
use Rattle.rules.specs.Dubious.{dubious_list}
use Rattle.rules.specs.Joined.{lint_list}
use Rattle.rules.specs.Known.{rows, rows_hold}

pub starred : rows_hold rows ≡ true
unfolding judged checks facts_of first u16_at u32_at version_of node_count value_count global_count kind_at role_at size_at begin_at end_at value_at last_at node_spot node_head forest_in forest_of tree_of offset formed precedes wrong_value wrong_global parent_in parent_of limit_of known wrong_node depth_in depth_of too_deep class_of slot_of all_stand many all_filled in_pairs for_first in_order kids_fit root_ok wrong_children met_in names_list flow_list incompatible_list dubious_list lint_list
starred = refl
