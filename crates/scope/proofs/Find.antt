-- Laws of searches among nodes. Assumes nothing.
use Prim.Native.Nat.{ℕ, zero, suc, ◌+◌, ◌-◌, ◌≤◌, ◌<◌}
use native.Mathlib.Decide.{dec_lt}
use mathlib.Core.Path.{◌≡◌, refl, sym, ◌∙◌}
use mathlib.Core.Bool.{Bool, true, false}
use mathlib.Core.List.{List}
use native.Mathlib.Omega.{arith}
use borrow.Author.Tests.{lt-ltb, le-ltb}
use Rattle.std.specs.Prelude.{Option, Some, None, MatchOption}
use Rattle.tree.specs.Bytes.{pick}
use Rattle.tree.specs.Forest.{node_spot}
use Rattle.rules.proofs.Bools.{so}
use Rattle.rules.proofs.Spots.{same_exact}
use Rattle.scope.specs.State.{node_in}
use Rattle.scope.specs.Words.{alike_at, find_in, found_in, is_in}
use Rattle.scope.specs.declared.table.Like.{Like}
use Rattle.scope.specs.declared.table.Like.TheVariants.{Spot}
use Rattle.scope.proofs.Lists.{seek_hit, seek_miss, seek_end, seek_below}

module _ (t w : List ℕ) (how : Like) (i : ℕ) where
  pub find_end : (a b : ℕ) → b ≤ a → find_in t w how a b i ≡ a
  unfolding find_in
  find_end a b h = seek_end (λ k. alike_at t how i (node_in w k)) a b h

  pub find_hit : (a b : ℕ) → a < b → alike_at t how i (node_in w a) ≡ true → find_in t w how a b i ≡ a
  unfolding find_in
  find_hit a b h q = seek_hit (λ k. alike_at t how i (node_in w k)) a b h q

  pub find_miss : (a b : ℕ) → a < b → alike_at t how i (node_in w a) ≡ false → find_in t w how a b i ≡ find_in t w how (a + 1) b i
  unfolding find_in
  find_miss a b h q = seek_miss (λ k. alike_at t how i (node_in w k)) a b h q

  -- what the search answered says of the place
  pub found_some : (a b p : ℕ) → Some p ≡ found_in t w how a b i → (is_in t w how a b i ≡ true) × (find_in t w how a b i ≡ p)
  found_some a b p e = go (is_in t w how a b i) refl e
    where
      go : (x : Bool) → is_in t w how a b i ≡ x → Some p ≡ pick x (Some (find_in t w how a b i)) None
          → (is_in t w how a b i ≡ true) × (find_in t w how a b i ≡ p)
      go true q z = (q, cc)
      go false q z = cc

  pub found_none : (a b : ℕ) → None ≡ found_in t w how a b i → is_in t w how a b i ≡ false
  found_none a b e = go (is_in t w how a b i) refl e
    where
      go : (x : Bool) → is_in t w how a b i ≡ x → None ≡ pick x (Some (find_in t w how a b i)) None → is_in t w how a b i ≡ false
      go true q z = cc
      go false q z = q

  -- what a search from place to place comes to
  find_at : (n a b p : ℕ) → b - a ≡ n → a ≤ p → p < b → alike_at t how i (node_in w p) ≡ true
      → ((k : ℕ) → a ≤ k → k < p → alike_at t how i (node_in w k) ≡ false) → find_in t w how a b i ≡ p
  find_at zero a b p e h l y f = absurd (omega arith)
  find_at (suc n) a b p e h l y f = go (dec_lt a p) (λ m. find_at n (a + 1) b p (omega arith) (omega arith) l y (λ k q. f k (omega arith)))
    where
      go : Dec (a < p) → (a < p → find_in t w how (a + 1) b i ≡ p) → find_in t w how a b i ≡ p
      go (yes m) g = find_miss a b (omega arith) (f a (omega arith) m) ∙ g m
      go (no m) g = let z : p ≡ a = omega arith in find_hit a b (omega arith) (rw z at y) ∙ sym z

  find_none : (n a b : ℕ) → b - a ≡ n → a ≤ b → ((k : ℕ) → a ≤ k → k < b → alike_at t how i (node_in w k) ≡ false) → find_in t w how a b i ≡ b
  find_none zero a b e h f = let z : a ≡ b = omega arith in find_end a b (omega arith) ∙ z
  find_none (suc n) a b e h f = find_miss a b (omega arith) (f a (omega arith) (omega arith)) ∙ find_none n (a + 1) b (omega arith) (omega arith) (λ k q. f k (omega arith))

  pub found_first : (a b : ℕ) (r : Option ℕ) → a ≤ b
      → MatchOption r ((k : ℕ) → a ≤ k → k < b → alike_at t how i (node_in w k) ≡ false)
      (λ p. (a ≤ p) × (p < b) × (alike_at t how i (node_in w p) ≡ true) × ((k : ℕ) → a ≤ k → k < p → alike_at t how i (node_in w k) ≡ false))
      → r ≡ found_in t w how a b i
  found_first a b None h f = rw (find_none (b - a) a b refl h f, le-ltb b b (omega arith))
  found_first a b (Some p) h f = rw (find_at (b - a) a b p refl f.0 f.1 f.2 f.3, lt-ltb p b f.1)

-- a node is found no later than it stands
pub find_self : (t w : List ℕ) (j a b : ℕ) → a ≤ j → j < b → find_in t w Spot a b (node_in w j) ≤ j
unfolding find_in alike_at
find_self t w j a b h k = seek_below (λ m. alike_at t Spot (node_in w j) (node_in w m)) a b j h k (so _ (same_exact (node_spot t (node_in w j))))

pub found_self : (t w : List ℕ) (j a b : ℕ) → a ≤ j → j < b → found_in t w Spot a b (node_in w j) ≡ Some (find_in t w Spot a b (node_in w j))
found_self t w j a b h k =
    let z = find_self t w j a b h k in
    rw (lt-ltb (find_in t w Spot a b (node_in w j)) b (omega arith))
