-- Laws of the code's tables as they are filled. Assumes nothing.
use Prim.Native.Nat.{ℕ, zero, suc, ◌+◌, ◌≤◌, ◌<◌, min}
use native.Mathlib.Omega.{arith}
use native.Mathlib.Decide.{dec_lt}
use mathlib.Core.Path.{◌≡◌, refl, sym, ap, ◌∙◌}
use mathlib.Core.Bool.{Bool}
use mathlib.Core.List.{List}
use lib.Dec.{ltb}
use lib.ListN.{length, get_or, set, replicate}
use borrow.Author.Tests.{lt-ltb, le-ltb}
use Rattle.tree.specs.Bytes.{pick}
use lib.Seq.{get_or-set_same, get_or-set_other}

-- a table of the values of f below i, with one more written
pub entry_more : {A : Type 0} (d : A) (f : ℕ → A) (l : List A) (i : ℕ) (v : A) → i < length l → v ≡ f i → ((k : ℕ) → k < i → get_or l k d ≡ f k)
    → (k : ℕ) → k < i + 1 → get_or (set l i v) k d ≡ f k
entry_more {A} d f l i v h e g k b = go (dec_lt k i)
  where
    go : Dec (k < i) → get_or (set l i v) k d ≡ f k
    go (yes a) = get_or-set_other l i k v d (λ q. omega arith) ∙ g k a
    go (no a) = let q : k ≡ i = omega arith in rw q (get_or-set_same l i v d h ∙ e)

pub table_more : (f : ℕ → ℕ) (l : List ℕ) (i v : ℕ) → i < length l → v ≡ f i → ((k : ℕ) → k < i → get_or l k 0 ≡ f k)
    → (k : ℕ) → k < i + 1 → get_or (set l i v) k 0 ≡ f k
table_more f l i v h e g k b = entry_more 0 f l i v h e g k b

-- the same of a table that is filled up to i, and has the values of g from there on
pub filled_more : (n : ℕ) (f g : ℕ → ℕ) (l : List ℕ) (i v : ℕ) → i < length l → v ≡ f i → ((k : ℕ) → k < n → get_or l k 0 ≡ pick (ltb k i) (f k) (g k))
    → (k : ℕ) → k < n → get_or (set l i v) k 0 ≡ pick (ltb k (i + 1)) (f k) (g k)
filled_more n f g l i v h e t k b = go (dec_lt k i) (dec_lt i k)
  where
    go : Dec (k < i) → Dec (i < k) → get_or (set l i v) k 0 ≡ pick (ltb k (i + 1)) (f k) (g k)
    go (yes a) d = rw (lt-ltb k (i + 1) (omega arith)) (get_or-set_other l i k v 0 (λ q. omega arith) ∙ (t k b ∙ ap (λ (x : Bool). pick x (f k) (g k)) (lt-ltb k i a)))
    go (no a) (yes d) = rw (le-ltb k (i + 1) (omega arith)) (get_or-set_other l i k v 0 (λ q. omega arith) ∙ (t k b ∙ ap (λ (x : Bool). pick x (f k) (g k)) (le-ltb k i (omega arith))))
    go (no a) (no d) = let q : k ≡ i = omega arith in rw (lt-ltb k (i + 1) (omega arith)) (rw q (get_or-set_same l i v 0 h ∙ e))

pub zeros_none : (n k : ℕ) → get_or {A = ℕ} (replicate n 0) k 0 ≡ 0
zeros_none zero k = refl
zeros_none (suc n) zero = refl
zeros_none (suc n) (suc k) = zeros_none n k

-- filled up to the last value that it holds
pub filled_all : (n m : ℕ) (f g : ℕ → ℕ) (l : List ℕ) (i : ℕ) → min m n ≤ i → i ≤ min m n → ((k : ℕ) → k < n → get_or l k 0 ≡ pick (ltb k i) (f k) (g k))
    → (k : ℕ) → k < n → get_or l k 0 ≡ pick (ltb k m) (f k) (g k)
filled_all n m f g l i h e t k b = t k b ∙ ap (λ (x : Bool). pick x (f k) (g k)) (go (dec_lt k m))
  where
    go : Dec (k < m) → ltb k i ≡ ltb k m
    go (yes a) = lt-ltb k i (omega arith) ∙ sym (lt-ltb k m a)
    go (no a) = le-ltb k i (omega arith) ∙ sym (le-ltb k m (omega arith))
