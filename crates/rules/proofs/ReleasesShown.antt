-- 02, §13, of small files: two releases that meet its premises, and why "The case without globals given stands outside". Their lists are
-- computed (Examples). Assumes nothing.
use Rattle.std.specs.Prelude.{Ok}
use Prim.Native.Nat.{ℕ}
use native.Mathlib.Omega.{arith}
use mathlib.Core.Path.{◌≡◌, refl, ap}
use mathlib.Core.Bool.{Bool, true, false, ◌||◌}
use mathlib.Core.List.{List}
use lib.Dec.{eqb}
use lib.ListN.{length}
use Rattle.tree.specs.Bytes.{u16_at, u32_at, version_of, node_count, value_count, global_count, kind_at, role_at, size_at, begin_at, end_at, value_at, last_at}
use Rattle.tree.specs.Forest.{node_spot, node_head, forest_in, forest_of, tree_of}
use Rattle.tree.specs.Search.{first}
use Rattle.tree.specs.Values.{offset, formed, precedes}
use Rattle.tree.specs.Table.{wrong_value, wrong_global}
use Rattle.tree.specs.Nodes.{parent_in, parent_of, limit_of, known, wrong_node, depth_in, depth_of, too_deep}
use Rattle.tree.specs.Children.{class_of, slot_of, all_stand, many, all_filled, in_pairs, for_first, in_order, kids_fit, root_ok, wrong_children}
use Rattle.tree.specs.Judge.{checks, facts_of, judged}
use Rattle.tree.specs.Releases.{Given, MoreKnown}
use Rattle.tree.specs.declared.Mode.{Mode}
use Rattle.tree.specs.declared.Mode.TheVariants.{Ordinary, Strict}
use Rattle.rules.specs.Names.{met_in, names_list}
use Rattle.rules.specs.Flow.{flow_list}
use Rattle.rules.specs.Incompatible.{incompatible_list}
use Rattle.rules.specs.Dubious.{dubious_list}
use Rattle.rules.specs.Joined.{lint_list}
use Rattle.rules.specs.Releases.{Outside}
use Rattle.rules.specs.Examples.{not_released, release_1, release_2}
use Rattle.rules.proofs.ReleasesCalled.{quieted_fewer}

given : (t : List ℕ) → eqb (global_count t) 65535 ≡ false → Given t
given t e q = let z : ◌≡◌ {A = ℕ} 0 1 = cc (ap (λ (n : ℕ). eqb n 65535) q, e) in omega arith

-- release-1's globals are among those of release-2, in either version
pub releases : (version : ℕ) → MoreKnown (release_1 version) (release_2 version)
unfolding u16_at version_of node_count value_count global_count offset
releases version =
    record {
      script = record { version = refl; nodes = refl; values = refl; bytes = refl };
      first_given = given (release_1 version) refl;
      second_given = given (release_2 version) refl;
      contains = λ v. among (eqb 0 v) (eqb 1 v) (eqb 2 v) (eqb 4 v) (eqb 5 v);
    }
  where
    among : (a b c d e : Bool) → (a || (d || false)) ≡ true → (a || (b || (c || (d || (e || false))))) ≡ true
    among true b c d e h = refl
    among false true c d e h = refl
    among false false true d e h = refl
    among false false false true e h = refl
    among false false false false e h = let z : ◌≡◌ {A = ℕ} 0 1 = cc h in absurd (omega arith)

-- .. and all these files are valid
abbrev IsValid : List ℕ → Type 0
IsValid t = judged t ≡ Ok (facts_of t)

pub releases_valid : ((IsValid (release_1 1) × IsValid (release_2 1)) × (IsValid (release_1 2) × IsValid (release_2 2))) × IsValid (not_released 1)
unfolding judged checks first u16_at u32_at version_of node_count value_count global_count kind_at role_at size_at begin_at end_at value_at last_at node_spot node_head forest_in forest_of tree_of offset formed precedes wrong_value wrong_global parent_in parent_of limit_of known wrong_node depth_in depth_of too_deep class_of slot_of all_stand many all_filled in_pairs for_first in_order kids_fit root_ok wrong_children
releases_valid = (((refl, refl), (refl, refl)), refl)

-- how many records the lists have, without globals and with two
lengths : (mode : Mode) → (length (lint_list mode (not_released 1)) ≡ 2) × (length (lint_list mode (release_1 1)) ≡ 3)
unfolding u16_at u32_at version_of node_count value_count global_count kind_at role_at size_at begin_at end_at value_at last_at node_spot node_head forest_in forest_of tree_of offset met_in names_list flow_list incompatible_list dubious_list lint_list
lengths Ordinary = (refl, refl)
lengths Strict = (refl, refl)

-- none is warned under code 5, then one is, at drift
pub outside : Outside (not_released 1) (release_1 1)
unfolding u16_at version_of node_count value_count global_count offset
outside =
    record {
      script = record { version = refl; nodes = refl; values = refl; bytes = refl };
      valid = (releases_valid.1, releases_valid.0.0.0);
      not_given = refl;
      second_given = given (release_1 1) refl;
      unquieted = λ mode q. let f = quieted_fewer (release_1 1) (lint_list mode (not_released 1)) (lint_list mode (release_1 1)) q in omega (arith, f, (lengths mode).0, (lengths mode).1);
    }
