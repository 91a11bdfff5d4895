-- Laws of the value table. Assumes nothing.
use Prim.Native.Nat.{ℕ, zero, suc, ◌+◌, ◌-◌, ◌≤◌, ◌<◌}
use native.Mathlib.Omega.{arith}
use native.Mathlib.Numerals.{add-one}
use native.Mathlib.Decide.{dec_lt}
use mathlib.Core.Path.{◌≡◌, refl, sym, ◌∙◌}
use mathlib.Core.List.{List}
use mathlib.Core.Bool.{true, false}
use lib.Dec.{ltb}
use lib.ListN.{get_or}
use borrow.Author.Tests.{lt-ltb, le-ltb}
use Rattle.tree.specs.Bytes.{u16_at, node_at}
use Rattle.tree.specs.Values.{offset}
use Rattle.tree.specs.code.Offsets.{bytes_less}

pub offset_next : (t : List ℕ) (n i : ℕ) → offset t n (i + 1) ≡ offset t n i + 3 + u16_at t (offset t n i + 1)
unfolding offset
offset_next t n i = rw add-one

pub offset_start : (t : List ℕ) (n : ℕ) → offset t n 0 ≡ node_at n
unfolding offset
offset_start t n = refl

-- an offset is no later than a later one
pub offset_later : (t : List ℕ) (n i k : ℕ) → offset t n i ≤ offset t n (i + k)
offset_later t n i zero = let e : i + 0 ≡ i = omega arith in rw e (omega arith)
offset_later t n i (suc k) =
    let e : i + suc k ≡ (i + k) + 1 = omega arith in
    rw e (omega (arith, offset_later t n i k, offset_next t n (i + k)))

module _ (t : List ℕ) (k i a b : ℕ) where
  pub less_lt : i < k → get_or t (a + i) 0 < get_or t (b + i) 0 → bytes_less (k - i) t (a + i) (b + i) ≡ true
  unfolding bytes_less
  less_lt h l = let q : k - i ≡ suc (k - (i + 1)) = omega arith in rw (q, lt-ltb _ _ l, bytes_less)

  pub less_gt : i < k → get_or t (b + i) 0 < get_or t (a + i) 0 → bytes_less (k - i) t (a + i) (b + i) ≡ false
  unfolding bytes_less
  less_gt h l = let q : k - i ≡ suc (k - (i + 1)) = omega arith in let w = le-ltb (get_or t (a + i) 0) (get_or t (b + i) 0) (omega arith) in rw (q, w, lt-ltb _ _ l, bytes_less)

  pub less_differ : i < k → (get_or t (a + i) 0 ≡ get_or t (b + i) 0 → ⊥) → bytes_less (k - i) t (a + i) (b + i) ≡ ltb (get_or t (a + i) 0) (get_or t (b + i) 0)
  less_differ h d = go (dec_lt (get_or t (a + i) 0) (get_or t (b + i) 0))
    where
      go : Dec (get_or t (a + i) 0 < get_or t (b + i) 0) → bytes_less (k - i) t (a + i) (b + i) ≡ ltb (get_or t (a + i) 0) (get_or t (b + i) 0)
      go (yes l) = less_lt h l ∙ sym (lt-ltb _ _ l)
      go (no l) = less_gt h (omega (arith, d)) ∙ sym (le-ltb (get_or t (a + i) 0) (get_or t (b + i) 0) (omega arith))

  pub less_eq : i < k → get_or t (a + i) 0 ≤ get_or t (b + i) 0 → get_or t (b + i) 0 ≤ get_or t (a + i) 0
      → bytes_less (k - (i + 1)) t (a + (i + 1)) (b + (i + 1)) ≡ bytes_less (k - i) t (a + i) (b + i)
  unfolding bytes_less
  less_eq h l m =
      let q : k - i ≡ suc (k - (i + 1)) = omega arith in
      let x : a + (i + 1) ≡ a + i + 1 = omega arith in
      let y : b + (i + 1) ≡ b + i + 1 = omega arith in
      rw (q, x, y, le-ltb _ _ m, le-ltb _ _ l, bytes_less)

  pub less_end : k ≤ i → bytes_less (k - i) t (a + i) (b + i) ≡ false
  unfolding bytes_less
  less_end h = let q : k - i ≡ 0 = omega arith in rw q

-- from where value i starts to where the next one does
pub offset_step : (t : List ℕ) (n i at u : ℕ) → at ≡ offset t n i → u ≡ u16_at t (at + 1) → at + (3 + u) ≡ offset t n (i + 1)
offset_step t n i at u f e = rw offset_next (rw (← f, ← e) (omega arith))
