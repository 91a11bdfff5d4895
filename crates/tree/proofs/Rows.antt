-- The children of a node, by number: how a walk goes from one to the next, and whose they are. Assumes nothing.
use Prim.Native.Nat.{ℕ, zero, suc, ◌+◌, ◌-◌, ◌≤◌, ◌<◌}
use native.Mathlib.Omega.{arith}
use native.Mathlib.Decide.{dec_lt}
use mathlib.Core.Path.{◌≡◌}
use mathlib.Core.List.{List}
use borrow.Author.Tests.{lt-ltb, le-ltb}
use Rattle.tree.specs.Bytes.{size_at}
use Rattle.tree.specs.Nodes.{parent_in, parent_of, depth_of}
use Rattle.tree.specs.code.Kids.{Sized}
use Rattle.tree.specs.code.Part.{Part}
use Rattle.tree.specs.code.Find.{Row}
use Rattle.tree.proofs.Laws.{later, kids}
use Rattle.tree.proofs.Above.{parent_below, parent_above, depth_next}

-- where a node stands in another, it stands in its parent
in_covers : (t : List ℕ) (i j m : ℕ) → i < j + size_at t j → j < m → i < parent_in t i m + size_at t (parent_in t i m)
unfolding parent_in
in_covers t i j zero h l = absurd (omega arith)
in_covers t i j (suc m) h l = go (dec_lt i (m + size_at t m)) (dec_lt j m) (in_covers t i j m h)
  where
    go : Dec (i < m + size_at t m) → Dec (j < m) → (j < m → i < parent_in t i m + size_at t (parent_in t i m)) → i < parent_in t i (suc m) + size_at t (parent_in t i (suc m))
    go (yes a) d g = let e : parent_in t i (suc m) ≡ m = rw (lt-ltb _ _ a, parent_in) in rw e a
    go (no a) (yes d) g = let e : parent_in t i (suc m) ≡ parent_in t i m = rw (le-ltb i (m + size_at t m) (omega arith), parent_in) in rw e (g d)
    go (no a) (no d) g = let q : m ≡ j = omega arith in absurd (a (rw q h))

parent_covers : (t : List ℕ) (i j : ℕ) → i < j + size_at t j → j < i → i < parent_of t i + size_at t (parent_of t i)
unfolding parent_of
parent_covers t i j h l = in_covers t i j i h l

-- the first child, where there is one
pub row_first : (t : List ℕ) (p : ℕ) → 1 ≤ size_at t p → Row t p (p + 1)
row_first t p s = record { after = omega arith; within = omega arith; clear = λ m a b. absurd (omega arith) }

module _ {t : List ℕ} {p c : ℕ} (row : Row t p c) (lt : c < p + size_at t p) where
  -- a child's parent
  pub row_parent : parent_of t c ≡ p
  row_parent =
      let a = parent_above t c p lt row.after in
      let b = parent_below t c (omega (arith, row.after)) in
      go a b (parent_covers t c p lt row.after) (dec_lt p (parent_of t c))
    where
      go : p ≤ parent_of t c → parent_of t c < c → c < parent_of t c + size_at t (parent_of t c) → Dec (p < parent_of t c) → parent_of t c ≡ p
      go a b h (yes d) = let z = row.clear (parent_of t c) d b in absurd (omega arith)
      go a b h (no d) = omega arith

  pub row_depth : depth_of t c ≡ depth_of t p + 1
  row_depth = let e = row_parent in rw e at (depth_next t c (omega (arith, row.after)))

module _ {t : List ℕ} {n p : ℕ} (w : Part t 0 n) (l : p < n) where
  pub part_sized : Sized t (p + size_at t p)
  part_sized j h = w.some j (omega arith) (omega (arith, w.ends p (omega arith) l))

  -- from a child on, p's children are a part
  pub row_part : {c : ℕ} → Row t p c → Part t c (p + size_at t p)
  row_part row = let a = row.after in later (kids (later w (omega arith)) l) (omega arith)

  -- the next child, or the end
  pub row_next : {c : ℕ} → Row t p c → c < p + size_at t p → Row t p (c + size_at t c)
  row_next {c} row lt =
      let e = w.ends p (omega arith) l in
      record {
        after = omega (arith, row.after);
        within = w.nest p c (omega arith) l row.after lt;
        clear = λ m a b. go m a b (dec_lt m c) (dec_lt c m);
      }
    where
      go : (m : ℕ) → p < m → m < c + size_at t c → Dec (m < c) → Dec (c < m) → m + size_at t m ≤ c + size_at t c
      go m a b (yes d) f = let z = row.clear m a d in omega arith
      go m a b (no d) (yes f) = w.nest c m (omega arith) (omega (arith, w.ends p (omega arith) l)) f b
      go m a b (no d) (no f) = let q : m ≡ c = omega arith in rw q (omega arith)

  -- what holds at one child and is carried over each child that follows holds at every later one, and at the end
  pub row_walk : (Q : ℕ → Type 0) {d c : ℕ} → Row t p d → Row t p c → d ≤ c → Q d
      → ((j : ℕ) → Row t p j → j < p + size_at t p → d ≤ j → j + size_at t j ≤ c → Q j → Q (j + size_at t j))
      → Q c
  row_walk Q {d} {c} from to a q carry = go (c - d) d from (omega arith) a (omega arith) q
    where
      go : (k j : ℕ) → Row t p j → d ≤ j → j ≤ c → c - j ≤ k → Q j → Q c
      go zero j at b h f q = let e : j ≡ c = omega arith in rw e at q
      go (suc k) j at b h f q = on (dec_lt j c) (go k (j + size_at t j))
        where
          on : Dec (j < c) → (Row t p (j + size_at t j) → d ≤ j + size_at t j → j + size_at t j ≤ c → c - (j + size_at t j) ≤ k → Q (j + size_at t j) → Q c) → Q c
          on (no z) more = let e : j ≡ c = omega arith in rw e at q
          on (yes z) more =
              let i : j < p + size_at t p = omega (arith, to.within) in
              let s = part_sized j i in
              let y = to.clear j at.after z in
              more (row_next at i) (omega arith) y (omega arith) (carry j at i b y q)
