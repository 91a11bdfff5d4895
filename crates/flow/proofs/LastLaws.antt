-- The last of some siblings: what the loop over them shows, and what a rule asks of it. Assumes nothing.
use Rattle.std.specs.Prelude.{Option as Maybe, Some, None}
use Prim.Native.Nat.{ℕ, ◌+◌, ◌≤◌, ◌<◌}
use native.Mathlib.Omega.{arith}
use mathlib.Core.Path.{◌≡◌, refl, sym, ap, ◌∙◌}
use mathlib.Core.Bool.{Bool, true, false, cond, ◌||◌}
use mathlib.Core.List.{List}
use lib.Dec.{eqb}
use borrow.Author.Tests.{eq-eqb, ne_eqb}
use Rattle.tree.specs.Bytes.{role_at, size_at}
use Rattle.tree.specs.Forest.{Head, Forest, Forest.none as leaf, node, node_head, forest_of}
use Rattle.tree.specs.code.Part.{Part}
use Rattle.tree.proofs.Laws.{forest_none, forest_node}
use Rattle.rules.specs.Visit.{has, last_of}
use Rattle.flow.specs.Returns.{later_of, last_node, node_if, Last}

later_later : (a b x : Forest) → later_of (later_of a b) x ≡ later_of a (later_of b x)
unfolding later_of
later_later leaf b x = refl
later_later (node h k s) b x = refl

later_leaf : (a : Forest) → later_of a leaf ≡ a
unfolding later_of
later_leaf leaf = refl
later_leaf (node h k s) = refl

-- ---- the loop: last is the last one before node j

pub record Looked (t : List ℕ) (r i e : ℕ) (last : Maybe ℕ) (j : ℕ) : Type 0 where
  pub on : i ≤ j
  pub within : (k : ℕ) → last ≡ Some k → (i ≤ k) × (k < e)
  pub left : later_of (last_node r (forest_of t j e)) (node_if t last) ≡ last_node r (forest_of t i e)

pub looked_start : (t : List ℕ) (r i e : ℕ) → Looked t r i e None i
unfolding node_if
looked_start t r i e =
    record {
      on = omega arith;
      within = λ k h. cc;
      left = later_leaf (last_node r (forest_of t i e));
    }

pub looked_end : {t : List ℕ} {r i e : ℕ} {last : Maybe ℕ} {j : ℕ} → Looked t r i e last j → e ≤ j → Last t r i e last
unfolding last_node later_of
looked_end {t} {r} {i} {e} {last} {j} l h = record { within = l.within; so = sym (rw (forest_none t j e h) at l.left) }

module _ {t : List ℕ} {r i e : ℕ} {last : Maybe ℕ} {j : ℕ} (l : Looked t r i e last j) (p : Part t j e) (lt : j < e) where
  -- node j alone, where it has the role
  abbrev this : Forest
  this = cond (eqb r (role_at t j)) (node (node_head t j) (forest_of t (j + 1) (j + size_at t j)) leaf) leaf

  over_one : (f : Forest) → later_of this (node_if t last) ≡ f
      → later_of (last_node r (forest_of t (j + size_at t j) e)) f ≡ last_node r (forest_of t i e)
  unfolding last_node later_of node_head
  over_one f q =
      ap (later_of (last_node r (forest_of t (j + size_at t j) e))) (sym q)
      ∙ sym (later_later (last_node r (forest_of t (j + size_at t j) e)) this (node_if t last))
      ∙ ap (λ (f : Forest). later_of (last_node r f) (node_if t last)) (sym (forest_node p lt))
      ∙ l.left

  pub looked_here : role_at t j ≡ r → Looked t r i e (Some j) (j + size_at t j)
  unfolding node_if later_of
  looked_here q =
      record {
        on = omega (arith, l.on);
        within = λ k h. let z : j ≡ k = cc in (omega (arith, l.on), omega arith);
        left = over_one _ (rw (eq-eqb r (role_at t j) (sym q)));
      }

  pub looked_past : (role_at t j ≡ r → ⊥) → Looked t r i e last (j + size_at t j)
  unfolding later_of
  looked_past q =
      record {
        on = omega (arith, l.on);
        within = l.within;
        left = over_one _ (rw (ne_eqb r (role_at t j) (λ z. q (sym z))));
      }

-- ---- a rule that takes the last of a role: A of its head and children, z where there is none

abbrev some_node : Forest → Bool
some_node leaf = false
some_node (node h k s) = true

has_last : (r : ℕ) (f : Forest) → has r f ≡ some_node (last_node r f)
unfolding last_node later_of
has_last r leaf = refl
has_last r (node h k s) = rw (has_last r s) (go (eqb r h.role) (last_node r s))
  where
    go : (b : Bool) (l : Forest) → (b || some_node l) ≡ some_node (later_of l (cond b (node h k leaf) leaf))
    go true leaf = refl
    go false leaf = refl
    go true (node a b c) = refl
    go false (node a b c) = refl

module _ {B : Type 0} (r : ℕ) (v : Forest → B) (A : Head → Forest → B) (z : B) (nil : v leaf ≡ z)
    (cons : (h : Head) (k s : Forest) → v (node h k s) ≡ last_of (eqb r h.role) (has r s) (A h k) (v s)) where
  abbrev alone : Forest → B
  alone leaf = z
  alone (node h k s) = A h k

  by_last : (f : Forest) → v f ≡ alone (last_node r f)
  unfolding last_node later_of
  by_last leaf = nil
  by_last (node h k s) = cons h k s ∙ rw (has_last r s, by_last s) (go (eqb r h.role) (last_node r s))
    where
      go : (b : Bool) (l : Forest) → last_of b (some_node l) (A h k) (alone l) ≡ alone (later_of l (cond b (node h k leaf) leaf))
      go true leaf = refl
      go false leaf = refl
      go true (node a b c) = refl
      go false (node a b c) = refl

  pub last_there : {t : List ℕ} {i e j : ℕ} → Last t r i e (Some j)
      → v (forest_of t i e) ≡ A (node_head t j) (forest_of t (j + 1) (j + size_at t j))
  unfolding node_if
  last_there {t} {i} {e} {j} l = by_last (forest_of t i e) ∙ ap alone l.so

  pub last_absent : {t : List ℕ} {i e : ℕ} → Last t r i e None → v (forest_of t i e) ≡ z
  unfolding node_if
  last_absent {t} {i} {e} l = by_last (forest_of t i e) ∙ ap alone l.so
