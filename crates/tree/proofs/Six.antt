-- What it gives that 6 refuses no node. Assumes nothing.
use Prim.Native.Nat.{ℕ, zero, suc, ◌+◌, ◌≤◌, ◌<◌}
use native.Mathlib.Omega.{arith}
use native.Mathlib.Decide.{dec_lt}
use mathlib.Core.Path.{◌≡◌, refl}
use mathlib.Core.List.{List}
use mathlib.Core.Bool.{Bool, true, false, ◌&&◌, not}
use lib.Dec.{leb, eqb}
use borrow.Author.Tests.{leb-true, le-leb, lt-leb, eq-eqb, ne_eqb}
use Rattle.tree.specs.Bytes.{kind_at, size_at, begin_at, end_at, last_at, value_at, pick}
use Rattle.tree.specs.Nodes.{known, limit_of, parent_of}
use Rattle.tree.specs.code.Stages.{good6, bad6, value_fits, None6}
use Rattle.tree.specs.Children.{root_ok}
use Rattle.tree.specs.code.Kids.{Sized, bad7, good7}
use Rattle.tree.proofs.Search.{lowest_clear, not_so}
use Rattle.tree.proofs.Names.{and_left, and_right}
use Rattle.tree.proofs.Above.{parent_below, parent_above}

module _ (t : List ℕ) (n nv : ℕ) (none : None6 t n nv) where
  good : (i : ℕ) → i < n → good6 t n nv i ≡ true
  unfolding bad6
  good i h = not_so (good6 t n nv i) (lowest_clear n (bad6 t n nv) i (omega (arith, none)))

  tail : (i : ℕ) → i < n → (leb 1 (size_at t i) && (leb (i + size_at t i) (limit_of t n i) && value_fits t n nv (kind_at t i) (value_at t i))) ≡ true
  unfolding good6
  tail i h = and_right (eqb (last_at t i) 0) _ (and_right (leb (begin_at t i) (end_at t i)) _ (and_right (known (kind_at t i)) _ (good i h)))

  pub six_sized : Sized t n
  six_sized i h = leb-true 1 (size_at t i) (and_left (leb 1 (size_at t i)) _ (tail i h))

  within : (i : ℕ) → i < n → i + size_at t i ≤ limit_of t n i
  within i h = leb-true _ _ (and_left (leb (i + size_at t i) (limit_of t n i)) _ (and_right (leb 1 (size_at t i)) _ (tail i h)))

  ends : (k i : ℕ) → i ≤ k → i < n → i + size_at t i ≤ n
  unfolding limit_of
  ends zero i a h = let q : i ≡ 0 = omega arith in let w = within i h in let l : limit_of t n i ≡ n = simp (eq-eqb _ _ q) in omega arith
  ends (suc k) i a h = go (dec_lt 0 i) (dec_lt i (size_at t 0)) (λ b. ends k (parent_of t i) b)
    where
      go : Dec (0 < i) → Dec (i < size_at t 0) → (parent_of t i ≤ k → parent_of t i < n → parent_of t i + size_at t (parent_of t i) ≤ n) → i + size_at t i ≤ n
      go (no z) d g = let q : i ≡ 0 = omega arith in let w = within i h in let l : limit_of t n i ≡ n = simp (eq-eqb _ _ q) in omega arith
      go (yes z) (yes d) g =
          let w = within i h in let b = parent_below t i z in
          let l : limit_of t n i ≡ parent_of t i + size_at t (parent_of t i) = simp (ne_eqb i 0 (λ q. omega arith), lt-leb (size_at t 0) i d) in
          let r = g (omega arith) (omega arith) in omega arith
      go (yes z) (no d) g =
          let w = within i h in
          let l : limit_of t n i ≡ n = simp (ne_eqb i 0 (λ q. omega arith), le-leb (size_at t 0) i (omega arith)) in omega arith

  pub six_ends : (i : ℕ) → i < n → i + size_at t i ≤ n
  six_ends i h = ends i i (omega arith) h

  under : (i : ℕ) → 0 < i → i < n → size_at t 0 ≡ n → i + size_at t i ≤ parent_of t i + size_at t (parent_of t i)
  unfolding limit_of
  under i z h e =
      let w = within i h in
      let l : limit_of t n i ≡ parent_of t i + size_at t (parent_of t i) = simp (ne_eqb i 0 (λ q. omega arith), lt-leb (size_at t 0) i (omega arith)) in
      omega arith

  nest : (f k j : ℕ) → k ≤ f → j < k → k < j + size_at t j → k < n → size_at t 0 ≡ n → k + size_at t k ≤ j + size_at t j
  nest zero k j a l h b e = absurd (omega arith)
  nest (suc f) k j a l h b e = go (dec_lt j (parent_of t k)) (nest f (parent_of t k) j)
    where
      go : Dec (j < parent_of t k)
          → (parent_of t k ≤ f → j < parent_of t k → parent_of t k < j + size_at t j → parent_of t k < n → size_at t 0 ≡ n → parent_of t k + size_at t (parent_of t k) ≤ j + size_at t j)
          → k + size_at t k ≤ j + size_at t j
      go (yes d) g = let p = parent_below t k (omega arith) in let u = under k (omega arith) b e in let r = g (omega arith) d (omega arith) (omega arith) e in omega arith
      go (no d) g =
          let p = parent_above t k j h l in let u = under k (omega arith) b e in
          let q : parent_of t k ≡ j = omega arith in rw q at u

  -- the sizes nest: what a walk over subtrees asks
  pub six_nests : size_at t 0 ≡ n → (j k : ℕ) → j < k → k < j + size_at t j → k < n → k + size_at t k ≤ j + size_at t j
  six_nests e j k l h b = nest k k j (omega arith) l h b e

-- 7 under a good root
pub seven : (t : List ℕ) (n i : ℕ) → root_ok t n ≡ true → bad7 t n i ≡ not (good7 t i)
unfolding bad7
seven t n i e = rw e (go (eqb i 0))
  where
    go : (b : Bool) → not (pick b true true && good7 t i) ≡ not (good7 t i)
    go true = refl
    go false = refl

pub seven_root : (t : List ℕ) (n : ℕ) → root_ok t n ≡ false → bad7 t n 0 ≡ true
unfolding bad7
seven_root t n e = rw e
