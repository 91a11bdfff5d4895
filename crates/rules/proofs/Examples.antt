-- The lists of more files and the judgements at the limits, computed: two tables, one statement.
use mathlib.Core.Path.{◌≡◌, refl}
use mathlib.Core.Bool.{true, ◌&&◌}
use mathlib.Core.List.{[]}
use lib.ListN.{length}
use Rattle.tree.specs.Search.{first}
use Rattle.tree.specs.Bytes.{u16_at, u32_at, version_of, node_count, value_count, global_count, kind_at, role_at, size_at, begin_at, end_at, value_at, last_at}
use Rattle.tree.specs.Forest.{node_spot, node_head, forest_in, forest_of, tree_of}
use Rattle.tree.specs.Values.{offset, formed, precedes}
use Rattle.tree.specs.Table.{wrong_value, wrong_global}
use Rattle.tree.specs.Nodes.{parent_in, parent_of, limit_of, known, wrong_node, depth_in, depth_of, too_deep}
use Rattle.tree.specs.Children.{class_of, slot_of, all_stand, many, all_filled, in_pairs, for_first, in_order, kids_fit, root_ok, wrong_children}
use Rattle.tree.specs.Judge.{checks, facts_of, judged}
use Rattle.tree.specs.Written.{file}
use Rattle.rules.specs.Names.{met_in, names_list}
use Rattle.rules.specs.Flow.{flow_list}
use Rattle.rules.specs.Incompatible.{incompatible_list}
use Rattle.rules.specs.Dubious.{dubious_list}
use Rattle.rules.specs.Joined.{lint_list}
use Rattle.rules.specs.Known.{rows_hold}
use Rattle.rules.specs.Examples.{one_literal, value_one, file_given, examples, borders, keep_to}

pub shown : (rows_hold examples && keep_to borders) ≡ true
unfolding judged checks facts_of first u16_at u32_at version_of node_count value_count global_count kind_at role_at size_at begin_at end_at value_at last_at node_spot node_head forest_in forest_of tree_of offset formed precedes wrong_value wrong_global parent_in parent_of limit_of known wrong_node depth_in depth_of too_deep class_of slot_of all_stand many all_filled in_pairs for_first in_order kids_fit root_ok wrong_children met_in names_list flow_list incompatible_list dubious_list lint_list
shown = refl

-- "47 bytes", either way
pub forty_seven : (length (file one_literal value_one) ≡ 47) × (length (file_given [] one_literal value_one) ≡ 47)
forty_seven = (refl, refl)
