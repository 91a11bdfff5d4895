-- The judgement of each sample, computed. Assumes nothing.
use Rattle.std.specs.Prelude.{Ok, Err}
use Prim.Native.Nat.{ℕ}
use mathlib.Core.Path.{◌≡◌, refl}
use mathlib.Core.Bool.{Bool, true, ◌&&◌}
use mathlib.Core.List.{List, [], ◌∷◌}
use lib.Dec.{eqb}
use Rattle.tree.specs.Search.{first}
use Rattle.tree.specs.Bytes.{u16_at, u32_at, version_of, node_count, value_count, global_count, kind_at, role_at, size_at, begin_at, end_at, value_at, last_at}
use Rattle.tree.specs.Forest.{node_spot, node_head, forest_in, forest_of}
use Rattle.tree.specs.Values.{offset, formed, precedes}
use Rattle.tree.specs.Table.{wrong_value, wrong_global}
use Rattle.tree.specs.Nodes.{parent_in, parent_of, limit_of, known, wrong_node, depth_in, depth_of, too_deep}
use Rattle.tree.specs.Children.{class_of, slot_of, all_stand, many, all_filled, in_pairs, for_first, in_order, kids_fit, root_ok, wrong_children}
use Rattle.tree.specs.Judge.{checks, facts_of, judged, number_of, place_of}
use Rattle.tree.specs.code.Samples.{Sample, samples}
use Rattle.tree.specs.Judge.{Judged}

abbrev pub says : Judged → ℕ → ℕ → Bool
says (Ok f) n p = eqb n 0 && eqb p 0
says (Err why) n p = eqb n (number_of why) && eqb p (place_of why)

abbrev pub agree : List Sample → Bool
agree [] = true
agree (s ∷ ss) = says (judged s.bytes) s.number s.place && agree ss

pub samples_agree : agree samples ≡ true
unfolding judged checks facts_of first u16_at u32_at version_of node_count value_count global_count kind_at role_at size_at begin_at end_at value_at last_at node_spot node_head forest_in forest_of offset formed precedes wrong_value wrong_global parent_in parent_of limit_of known wrong_node depth_in depth_of too_deep class_of slot_of all_stand many all_filled in_pairs for_first in_order kids_fit root_ok wrong_children samples
samples_agree = refl
