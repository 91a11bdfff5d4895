-- The longest valid file: what a reader of files has to take in. Assumes nothing.
use Rattle.std.specs.Prelude.{Ok}
use Prim.Native.Nat.{ℕ, zero, suc, ◌+◌, ◌*◌, ◌≤◌, ◌<◌}
use native.Mathlib.Omega.{arith}
use mathlib.Core.Path.{◌≡◌}
use mathlib.Core.List.{List}
use lib.Dec.{leb}
use lib.ListN.{length}
use borrow.Author.Tests.{leb-true}
use Rattle.tree.specs.Bytes.{node_at, node_count, value_count, u16_at}
use Rattle.tree.specs.Values.{formed, offset}
use Rattle.tree.specs.Judge.{judged}
use Rattle.tree.specs.code.Stages.{value_no, None5}
use Rattle.tree.specs.declared.Facts.{Facts}
use Rattle.tree.proofs.Link.{length_from}
use Rattle.tree.proofs.Names.{and_left, well_formed}
use Rattle.tree.proofs.Whole.{sound}

module _ (t : List ℕ) (n nv : ℕ) (none : None5 t n nv) where
  -- 5: a value has at most 255 bytes
  value_short : (i : ℕ) → i < nv → u16_at t (offset t n i + 1) ≤ 255
  unfolding formed
  value_short i h =
      let l = leb-true (length (value_no t n i).bytes) 255 (and_left (leb (length (value_no t n i).bytes) 255) _ (well_formed t n nv none i h)) in
      omega (arith, length_from (u16_at t (offset t n i + 1)) t (offset t n i + 3))

  -- so i values take at most 3 + 255 bytes each
  values_short : (i : ℕ) → i ≤ nv → offset t n i ≤ node_at n + i * (3 + 255)
  unfolding offset
  values_short zero h = omega arith
  values_short (suc i) h = omega (arith, value_short i h, values_short i (omega arith))

-- 3 and 4: header, nodes, values and globals fill the file, and there are at most so many of each
pub sections_longest : (t : List ℕ) (f : Facts) → judged t ≡ Ok f → length t ≤ 11 + 16 * 1024 + 512 * (3 + 255) + 2 * 512
sections_longest t f e =
    let s = sound t f e in
    omega (arith, values_short t (node_count t) (value_count t) s.none5 (value_count t) (omega arith))

pub file_longest : (t : List ℕ) (f : Facts) → judged t ≡ Ok f → length t ≤ 149515
file_longest t f e = sections_longest t f e
