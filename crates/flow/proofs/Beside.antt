-- Siblings beside siblings. Assumes nothing.
use Prim.Native.Nat.{ℕ, ◌+◌, ◌≤◌, ◌<◌}
use native.Mathlib.Omega.{arith}
use mathlib.Core.Path.{◌≡◌, sym, ap, ◌∙◌}
use mathlib.Core.List.{List}
use Rattle.tree.specs.Bytes.{size_at}
use Rattle.tree.specs.Forest.{Forest, none, node, node_head, forest_of}
use Rattle.tree.specs.code.Part.{Part}
use Rattle.tree.proofs.Laws.{sized, ended, kids, rest, forest_none, forest_node, induct}
use Rattle.answer.proofs.Flat.{joined}

abbrev pub beside : Forest → Forest → Forest
beside none b = b
beside (node h k s) b = node h k (beside s b)

pub forest_split : {t : List ℕ} {i j : ℕ} → Part t i j → (e : ℕ) → Part t j e → i ≤ j → j ≤ e
    → forest_of t i e ≡ beside (forest_of t i j) (forest_of t j e)
forest_split {t} p = induct (λ i j. (e : ℕ) → Part t j e → i ≤ j → j ≤ e → forest_of t i e ≡ beside (forest_of t i j) (forest_of t j e)) t base more p
  where
    base : (i j : ℕ) → j ≤ i → (e : ℕ) → Part t j e → i ≤ j → j ≤ e → forest_of t i e ≡ beside (forest_of t i j) (forest_of t j e)
    base i j h e q a b = let z : i ≡ j = omega arith in rw z (rw (forest_none t j j (omega arith)))

    more : (i j : ℕ) → Part t i j → i < j
        → ((e : ℕ) → Part t (i + size_at t i) e → i + 1 ≤ i + size_at t i → i + size_at t i ≤ e → forest_of t (i + 1) e ≡ beside (forest_of t (i + 1) (i + size_at t i)) (forest_of t (i + size_at t i) e))
        → ((e : ℕ) → Part t j e → i + size_at t i ≤ j → j ≤ e → forest_of t (i + size_at t i) e ≡ beside (forest_of t (i + size_at t i) j) (forest_of t j e))
        → (e : ℕ) → Part t j e → i ≤ j → j ≤ e → forest_of t i e ≡ beside (forest_of t i j) (forest_of t j e)
    more i j p lt below on e q a b =
        forest_node (joined p q b) (omega arith)
        ∙ ap (node (node_head t i) (forest_of t (i + 1) (i + size_at t i))) (on e q (ended p lt) b)
        ∙ ap (λ (f : Forest). beside f (forest_of t j e)) (sym (forest_node p lt))

-- what is below node i, and what follows it
pub below_split : {t : List ℕ} {i e : ℕ} → Part t i e → i < e
    → forest_of t (i + 1) e ≡ beside (forest_of t (i + 1) (i + size_at t i)) (forest_of t (i + size_at t i) e)
below_split {t} {i} {e} p lt = forest_split (kids p lt) e (rest p lt) (omega (arith, sized p lt)) (ended p lt)
