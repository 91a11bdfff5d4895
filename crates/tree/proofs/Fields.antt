-- How large the fields of a node are in a list of bytes, and how far on a value can start. Assumes nothing.
use Prim.Native.Nat.{ℕ, zero, suc, ◌+◌, ◌*◌, ◌≤◌, ◌<◌}
use native.Mathlib.Omega.{arith}
use mathlib.Core.Path.{◌≡◌}
use mathlib.Core.List.{List}
use lib.ListN.{get_or}
use borrow.Author.Tests.{lt-ltb}
use Rattle.tree.specs.Bytes.{u16_at, u32_at, node_count, node_at, kind_at, role_at, size_at, begin_at, end_at, value_at}
use Rattle.tree.specs.Values.{offset}
use Rattle.tree.specs.Forest.{Head, Forest, none, node, node_spot, node_head, forest_of}
use Rattle.tree.specs.code.Part.{Part}
use Rattle.tree.proofs.Laws.{forest_none, forest_node, induct}

-- every value number of a forest is below 65536
pub data Small : Forest → Type 0 where
  small_none : Small none
  small_node : {h : Head} {k s : Forest} → h.spot.value < 65536 → Small k → Small s → Small (node h k s)

module _ (t : List ℕ) (bytes : (k : ℕ) → get_or t k 0 < 256) where
  u16_low : (o : ℕ) → u16_at t o < 65536
  unfolding u16_at
  u16_low o = omega (arith, bytes o, bytes (o + 1))

  u32_low : (o : ℕ) → u32_at t o < 4294967296
  unfolding u32_at
  u32_low o = omega (arith, u16_low o, u16_low (o + 2))

  -- where value v starts
  pub offset_low : (v : ℕ) → offset t (node_count t) v ≤ 1048571 + 65538 * v
  unfolding offset node_count
  offset_low zero = omega (arith, u16_low 5)
  offset_low (suc v) = omega (arith, offset_low v, u16_low (offset t (node_count t) v + 1))

  pub kind_low : (i : ℕ) → kind_at t i < 256
  unfolding kind_at
  kind_low i = bytes (node_at i + 0)

  pub role_low : (i : ℕ) → role_at t i < 256
  unfolding role_at
  role_low i = bytes (node_at i + 1)

  pub size_low : (i : ℕ) → size_at t i < 65536
  unfolding size_at
  size_low i = u16_low (node_at i + 2)

  pub begin_low : (i : ℕ) → begin_at t i < 4294967296
  unfolding begin_at
  begin_low i = u32_low (node_at i + 4)

  pub end_low : (i : ℕ) → end_at t i < 4294967296
  unfolding end_at
  end_low i = u32_low (node_at i + 8)

  pub value_low : (i : ℕ) → value_at t i < 65536
  unfolding value_at
  value_low i = u16_low (node_at i + 12)

  pub part_small : {i e : ℕ} → Part t i e → Small (forest_of t i e)
  unfolding node_head node_spot
  part_small p =
      induct (λ i e. Small (forest_of t i e)) t (λ i e h. rw (forest_none t i e h) small_none)
      (λ i e p lt u v. rw (forest_node p lt) (small_node (value_low i) u v)) p

-- a node's number is the one that its head has
pub number_own : (t : List ℕ) (i : ℕ) → i < 65535 → (node_head t i).number ≡ i
unfolding node_head
number_own t i h = rw (lt-ltb i 65535 h)
