-- Laws of parents and depth. Assumes nothing.
use Prim.Native.Nat.{ℕ, zero, suc, ◌+◌, ◌-◌, ◌≤◌, ◌<◌}
use native.Mathlib.Omega.{arith}
use native.Mathlib.Decide.{dec_lt}
use native.Mathlib.Numerals.{add-one}
use mathlib.Core.Path.{◌≡◌, refl, sym, ap, ◌∙◌}
use mathlib.Core.List.{List}
use borrow.Author.Tests.{lt-ltb, le-ltb, ne_eqb}
use Rattle.tree.specs.Bytes.{size_at}
use Rattle.tree.specs.Nodes.{parent_in, parent_of, depth_in, depth_of}

in_hit : (t : List ℕ) (i j : ℕ) → i < j + size_at t j → parent_in t i (suc j) ≡ j
unfolding parent_in
in_hit t i j h = rw (lt-ltb _ _ h, parent_in)

in_miss : (t : List ℕ) (i j : ℕ) → j + size_at t j ≤ i → parent_in t i (suc j) ≡ parent_in t i j
unfolding parent_in
in_miss t i j h = rw (le-ltb _ _ h, parent_in)

-- a parent stands before
in_below : (t : List ℕ) (i j : ℕ) → 0 < j → parent_in t i j < j
unfolding parent_in
in_below t i zero h = absurd (omega arith)
in_below t i (suc j) h = go (dec_lt i (j + size_at t j)) (in_below t i j) (dec_lt 0 j)
  where
    go : Dec (i < j + size_at t j) → (0 < j → parent_in t i j < j) → Dec (0 < j) → parent_in t i (suc j) < suc j
    go (yes l) g d = omega (arith, in_hit t i j l)
    go (no l) g (yes d) = omega (arith, in_miss t i j (omega arith), g d)
    go (no l) g (no d) = let q : j ≡ 0 = omega arith in zeroth q
      where
        zeroth : j ≡ 0 → parent_in t i (suc j) < suc j
        zeroth q = let e = in_miss t i j (omega arith) in let z : parent_in t i j ≡ 0 = rw q refl in omega arith

pub parent_below : (t : List ℕ) (i : ℕ) → 0 < i → parent_of t i < i
unfolding parent_of
parent_below t i h = in_below t i i h

pub parent_zero : (t : List ℕ) → parent_of t 0 ≡ 0
unfolding parent_of parent_in
parent_zero t = refl

-- what lies between a parent and its child ends at the child
in_between : (t : List ℕ) (i j : ℕ) (m : ℕ) → parent_in t i j < m → m < j → m + size_at t m ≤ i
in_between t i zero m a b = absurd (omega arith)
in_between t i (suc j) m a b = go (dec_lt i (j + size_at t j)) (in_between t i j m) (dec_lt m j)
  where
    go : Dec (i < j + size_at t j) → (parent_in t i j < m → m < j → m + size_at t m ≤ i) → Dec (m < j) → m + size_at t m ≤ i
    go (yes l) g d = let e = in_hit t i j l in absurd (omega arith)
    go (no l) g (yes d) = let e = in_miss t i j (omega arith) in g (omega arith) d
    go (no l) g (no d) = let q : m ≡ j = omega arith in rw q (omega arith)

-- nodes from q + 1 to p all end at or before i: they are passed
in_skip : (t : List ℕ) (i q k : ℕ) → ((m : ℕ) → q < m → m ≤ q + k → m + size_at t m ≤ i) → parent_in t i (suc (q + k)) ≡ parent_in t i (suc q)
in_skip t i q zero f = let e : q + 0 ≡ q = omega arith in rw e
in_skip t i q (suc k) f =
    let e : q + suc k ≡ suc (q + k) = omega arith in
    let m = f (suc (q + k)) (omega arith) (omega arith) in
    rw e (in_miss t i (suc (q + k)) m ∙ in_skip t i q k (λ m a b. f m a (omega arith)))

-- one jump: node p ends at or before i, and p's parent is next
pub jump : (t : List ℕ) (i p : ℕ) → 0 < p → p < i → p + size_at t p ≤ i → parent_in t i (parent_of t p + 1) ≡ parent_in t i (p + 1)
unfolding parent_of
jump t i p z l h =
    let b = in_below t p p z in
    let e : p ≡ parent_in t p p + (p - parent_in t p p) = omega arith in
    let w : parent_in t i (suc (parent_in t p p + (p - parent_in t p p))) ≡ parent_in t i (suc (parent_in t p p)) =
    in_skip t i (parent_in t p p) (p - parent_in t p p) (λ m a c. last m a (omega arith) (dec_lt m p)) in
    let v : parent_in t i (suc p) ≡ parent_in t i (suc (parent_in t p p + (p - parent_in t p p))) = ap (λ (x : ℕ). parent_in t i (suc x)) e in
    rw (add-one, add-one) (sym (v ∙ w))
  where
    last : (m : ℕ) → parent_in t p p < m → m ≤ p → Dec (m < p) → m + size_at t m ≤ i
    last m a c (yes d) = let x = in_between t p p m a d in omega arith
    last m a c (no d) = let q : m ≡ p = omega arith in rw q h

pub found : (t : List ℕ) (i p : ℕ) → i < p + size_at t p → parent_in t i (p + 1) ≡ p
found t i p h = rw add-one (in_hit t i p h)

pub at_zero : (t : List ℕ) (i : ℕ) → parent_in t i (0 + 1) ≡ 0
unfolding parent_in
at_zero t i = rw add-one (go (dec_lt i (0 + size_at t 0)))
  where
    go : Dec (i < 0 + size_at t 0) → parent_in t i (suc 0) ≡ 0
    go (yes l) = in_hit t i 0 l
    go (no l) = in_miss t i 0 (omega arith)

pub from_last : (t : List ℕ) (i : ℕ) → 0 < i → parent_in t i (i - 1 + 1) ≡ parent_of t i
unfolding parent_of
from_last t i h = let e : i - 1 + 1 ≡ i = omega arith in rw e

-- depth
depth_more : (k : ℕ) (t : List ℕ) (i : ℕ) → 0 < i → depth_in (suc k) t i ≡ depth_in k t (parent_of t i) + 1
unfolding depth_in
depth_more k t i h = let n = ne_eqb i 0 (λ (q : i ≡ 0). omega arith) in rw (n, depth_in)

depth_root : (k : ℕ) (t : List ℕ) → depth_in k t 0 ≡ 1
unfolding depth_in
depth_root zero t = refl
depth_root (suc k) t = refl

depth_enough : (k l : ℕ) (t : List ℕ) (i : ℕ) → i ≤ k → i ≤ l → depth_in k t i ≡ depth_in l t i
depth_enough zero l t i a b = let e : i ≡ 0 = omega arith in rw e (depth_root 0 t ∙ sym (depth_root l t))
depth_enough (suc k) zero t i a b = let e : i ≡ 0 = omega arith in rw e (depth_root (suc k) t ∙ sym (depth_root 0 t))
depth_enough (suc k) (suc l) t i a b = go (dec_lt 0 i) (λ h. depth_enough k l t (parent_of t i))
  where
    go : Dec (0 < i) → ((h : 0 < i) → parent_of t i ≤ k → parent_of t i ≤ l → depth_in k t (parent_of t i) ≡ depth_in l t (parent_of t i)) → depth_in (suc k) t i ≡ depth_in (suc l) t i
    go (yes h) g = let p = parent_below t i h in let w = g h (omega arith) (omega arith) in depth_more k t i h ∙ ap (λ (x : ℕ). x + 1) w ∙ sym (depth_more l t i h)
    go (no h) g = let e : i ≡ 0 = omega arith in rw e (depth_root (suc k) t ∙ sym (depth_root (suc l) t))

pub depth_zero : (t : List ℕ) → depth_of t 0 ≡ 1
unfolding depth_of
depth_zero t = depth_root 0 t

pub depth_next : (t : List ℕ) (i : ℕ) → 0 < i → depth_of t i ≡ depth_of t (parent_of t i) + 1
unfolding depth_of
depth_next t i h =
    let p = parent_below t i h in
    depth_enough i (suc i) t i (omega arith) (omega arith) ∙ depth_more i t i h
    ∙ ap (λ (x : ℕ). x + 1) (depth_enough i (parent_of t i) t (parent_of t i) (omega arith) (omega arith))

-- a node that i stands in is its parent or stands before it
in_above : (t : List ℕ) (i j m : ℕ) → i < j + size_at t j → j < m → j ≤ parent_in t i m
in_above t i j zero h l = absurd (omega arith)
in_above t i j (suc m) h l = go (dec_lt i (m + size_at t m)) (dec_lt j m) (in_above t i j m h)
  where
    go : Dec (i < m + size_at t m) → Dec (j < m) → (j < m → j ≤ parent_in t i m) → j ≤ parent_in t i (suc m)
    go (yes a) d g = let e = in_hit t i m a in omega arith
    go (no a) (yes d) g = let e = in_miss t i m (omega arith) in let r = g d in omega arith
    go (no a) (no d) g = let q : m ≡ j = omega arith in absurd (a (rw q h))

pub parent_above : (t : List ℕ) (i j : ℕ) → i < j + size_at t j → j < i → j ≤ parent_of t i
unfolding parent_of
parent_above t i j h l = in_above t i j i h l

pub from_root : (t : List ℕ) (i : ℕ) → (0 < i → parent_in t i (0 + 1) ≡ parent_of t i) → 0 ≡ parent_of t i
from_root t i h = go (dec_lt 0 i)
  where
    go : Dec (0 < i) → 0 ≡ parent_of t i
    go (yes l) = sym (at_zero t i) ∙ h l
    go (no l) = let q : i ≡ 0 = omega arith in rw q (sym (parent_zero t))
