-- The most unbound uses that stand in the open scopes at once, and a tree in which each of its uses stands in seven:
-- five loops gone round twice, and an assign-modify, which visits its target's expressions twice.
use Prim.Native.Nat.{ℕ, suc, max}
use mathlib.Core.Path.{◌≡◌, refl}
use mathlib.Core.Bool.{Bool, true, false}
use mathlib.Core.List.{List, [], ◌∷◌}
use lib.Dec.{leb, T}
use Rattle.tree.specs.Bytes.{u16_at, u32_at, node_count, kind_at, role_at, size_at, begin_at, end_at, value_at}
use Rattle.tree.specs.Forest.{node_spot, node_head, forest_in, forest_of, tree_of}
use Rattle.rules.specs.Order.{Cmd, skip, ◌⨟◌, use_of, set_of, stop, branch, loop, scope, body}
use Rattle.tree.specs.Children.{class_of, slot_of, kids_fit, all_stand, all_filled, many, in_order, in_pairs, for_first}
use Rattle.tree.specs.code.Shape.{valid, root_fits, fitting}
use Rattle.rules.specs.code.Marks.{House, round_house, enter_house, tour, total, unbound_in, mid, start}
use Rattle.tree.specs.Written.{node_bytes, value_of, file}

abbrev peak_rounds : Bool → (House → ℕ) → (House → House) → House → ℕ
peak_rounds true p f m = max (p m) (p (round_house f m))
peak_rounds false p f m = p m

-- as Every, of the total
abbrev pub peak : ℕ → Cmd → House → ℕ
peak d skip m = total unbound_in m
peak d (a ⨟ b) m = max (peak d a m) (peak d b (tour (λ x. false) d a m))
peak d (use_of s) m = total unbound_in (tour (λ x. false) d (use_of s) m)
peak d (set_of o s) m = total unbound_in m
peak d (stop w) m = total unbound_in m
peak d (branch a b) m = max (peak d a m) (peak d b (mid m (tour (λ x. false) d a m)))
peak d (loop c) m = peak_rounds (leb (suc d) 5) (peak (suc d) c) (tour (λ x. false) (suc d) c) m
peak d (scope c) m = peak d c (enter_house m)

-- for i1 in 0: def f1(): .. for i5 in 0: def f5(): (lambda: (y, z)).a += 0
abbrev nest : List ℕ
nest =
    file
    (node_bytes 11 0 32 0 63 65535
    ∷ node_bytes 40 5 1 1 2 7
    ∷ node_bytes 21 4 1 3 4 12
    ∷ node_bytes 12 1 29 5 62 65535
    ∷ node_bytes 40 6 1 6 7 2
    ∷ node_bytes 11 1 27 8 61 65535
    ∷ node_bytes 40 5 1 9 10 8
    ∷ node_bytes 21 4 1 11 12 12
    ∷ node_bytes 12 1 24 13 60 65535
    ∷ node_bytes 40 6 1 14 15 3
    ∷ node_bytes 11 1 22 16 59 65535
    ∷ node_bytes 40 5 1 17 18 9
    ∷ node_bytes 21 4 1 19 20 12
    ∷ node_bytes 12 1 19 21 58 65535
    ∷ node_bytes 40 6 1 22 23 4
    ∷ node_bytes 11 1 17 24 57 65535
    ∷ node_bytes 40 5 1 25 26 10
    ∷ node_bytes 21 4 1 27 28 12
    ∷ node_bytes 12 1 14 29 56 65535
    ∷ node_bytes 40 6 1 30 31 5
    ∷ node_bytes 11 1 12 32 55 65535
    ∷ node_bytes 40 5 1 33 34 11
    ∷ node_bytes 21 4 1 35 36 12
    ∷ node_bytes 12 1 9 37 54 65535
    ∷ node_bytes 40 6 1 38 39 6
    ∷ node_bytes 7 1 7 40 53 65535
    ∷ node_bytes 42 5 5 41 50 65535
    ∷ node_bytes 24 0 4 42 49 65535
    ∷ node_bytes 27 1 3 43 48 65535
    ∷ node_bytes 20 0 1 44 45 0
    ∷ node_bytes 20 0 1 46 47 1
    ∷ node_bytes 21 4 1 51 52 12
    ∷ [])
    (value_of 0 (0x79 ∷ [])
    ∷ value_of 0 (0x7a ∷ [])
    ∷ value_of 0 (0x66 ∷ 0x31 ∷ [])
    ∷ value_of 0 (0x66 ∷ 0x32 ∷ [])
    ∷ value_of 0 (0x66 ∷ 0x33 ∷ [])
    ∷ value_of 0 (0x66 ∷ 0x34 ∷ [])
    ∷ value_of 0 (0x66 ∷ 0x35 ∷ [])
    ∷ value_of 0 (0x69 ∷ 0x31 ∷ [])
    ∷ value_of 0 (0x69 ∷ 0x32 ∷ [])
    ∷ value_of 0 (0x69 ∷ 0x33 ∷ [])
    ∷ value_of 0 (0x69 ∷ 0x34 ∷ [])
    ∷ value_of 0 (0x69 ∷ 0x35 ∷ [])
    ∷ value_of 3 []
    ∷ [])

nest_valid : T (valid (tree_of nest))
unfolding valid root_fits fitting kids_fit all_stand all_filled many in_order in_pairs for_first class_of slot_of u16_at u32_at node_count kind_at role_at size_at begin_at end_at value_at node_spot node_head forest_in forest_of tree_of
nest_valid = tt

pub sevenfold : peak 0 (body (λ x. false) (tree_of nest)) start ≡ 14
unfolding u16_at u32_at node_count kind_at role_at size_at begin_at end_at value_at node_spot node_head forest_in forest_of tree_of
sevenfold = refl
