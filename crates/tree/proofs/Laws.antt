-- A part of the file is a forest: a walk over node numbers is a walk over the forest. Assumes nothing.
use Prim.Native.Nat.{ℕ, zero, suc, ◌+◌, ◌-◌, ◌≤◌, ◌<◌}
use native.Mathlib.Omega.{arith}
use native.Mathlib.Decide.{dec_lt}
use mathlib.Core.Path.{◌≡◌, refl, sym, ap, ap₂, ◌∙◌}
use mathlib.Core.List.{List}
use borrow.Author.Tests.{lt-ltb, le-ltb}
use Rattle.tree.specs.Bytes.{size_at}
use Rattle.tree.specs.Forest.{Forest, none, node, node_head, forest_in, forest_of}
use Rattle.tree.specs.code.Part.{Part}
use Rattle.tree.specs.code.Shape.{count}

-- from any later node on
pub later : {t : List ℕ} {i e : ℕ} → Part t i e → {j : ℕ} → i ≤ j → Part t j e
later p a =
    record {
      few = p.few;
      some = λ j b. p.some j (omega arith);
      ends = λ j b. p.ends j (omega arith);
      nest = λ j k b. p.nest j k (omega arith);
    }

module _ {t : List ℕ} {i e : ℕ} (p : Part t i e) (lt : i < e) where
  -- node i has a size, and ends within the part
  pub sized : 1 ≤ size_at t i
  sized = p.some i (omega arith) lt

  pub ended : i + size_at t i ≤ e
  ended = p.ends i (omega arith) lt

  -- the part below node i
  pub kids : Part t (i + 1) (i + size_at t i)
  kids =
      record {
        few = omega (arith, p.few, ended);
        some = λ j a b. p.some j (omega arith) (omega (arith, ended));
        ends = λ j a b. p.nest i j (omega arith) lt (omega arith) b;
        nest = λ j k a b. p.nest j k (omega arith) (omega (arith, ended));
      }

  -- node i with what is below it
  pub first : Part t i (i + size_at t i)
  first =
      let f = ended in
      record {
        few = omega (arith, p.few);
        some = λ j a b. p.some j a (omega arith);
        ends = λ j a b. go j a b (dec_lt i j);
        nest = λ j k a b. p.nest j k a (omega arith);
      }
    where
      go : (j : ℕ) → i ≤ j → j < i + size_at t i → Dec (i < j) → j + size_at t j ≤ i + size_at t i
      go j a b (yes h) = p.nest i j (omega arith) lt h b
      go j a b (no h) = let e : j ≡ i = omega arith in rw e (omega arith)

  -- the part after node i and what is below it
  pub rest : Part t (i + size_at t i) e
  rest = later p (omega arith)

-- one step with fuel left, from what the two calls below it are
step : (t : List ℕ) (i e k : ℕ) {a b : Forest} → i < e
    → forest_in k t (i + 1) (i + size_at t i) ≡ a → forest_in k t (i + size_at t i) e ≡ b
    → forest_in (suc k) t i e ≡ node (node_head t i) a b
unfolding forest_in
step t i e k lt p q = rw (lt-ltb i e lt, forest_in) (ap₂ (node (node_head t i)) p q)

none_left : (k : ℕ) (t : List ℕ) (i e : ℕ) → e ≤ i → forest_in k t i e ≡ none
unfolding forest_in
none_left zero t i e h = refl
none_left (suc k) t i e h = rw (le-ltb i e h, forest_in)

-- more fuel changes nothing
enough : (k l : ℕ) {t : List ℕ} {i e : ℕ} → Part t i e → e - i ≤ k → e - i ≤ l → forest_in k t i e ≡ forest_in l t i e
enough zero l {t} {i} {e} p a b = none_left 0 t i e (omega arith) ∙ sym (none_left l t i e (omega arith))
enough (suc k) zero {t} {i} {e} p a b = none_left (suc k) t i e (omega arith) ∙ sym (none_left 0 t i e (omega arith))
enough (suc k) (suc l) {t} {i} {e} p a b =
    go (λ lt s f. enough k l (kids p lt) (omega arith) (omega arith)) (λ lt s f. enough k l (rest p lt) (omega arith) (omega arith)) (dec_lt i e)
  where
    go : ((lt : i < e) → 1 ≤ size_at t i → i + size_at t i ≤ e → forest_in k t (i + 1) (i + size_at t i) ≡ forest_in l t (i + 1) (i + size_at t i))
        → ((lt : i < e) → 1 ≤ size_at t i → i + size_at t i ≤ e → forest_in k t (i + size_at t i) e ≡ forest_in l t (i + size_at t i) e)
        → Dec (i < e) → forest_in (suc k) t i e ≡ forest_in (suc l) t i e
    go f g (no h) = none_left (suc k) t i e (omega arith) ∙ sym (none_left (suc l) t i e (omega arith))
    go f g (yes lt) = step t i e k lt (f lt (sized p lt) (ended p lt)) (g lt (sized p lt) (ended p lt)) ∙ sym (step t i e l lt refl refl)

-- past the end there is nothing
pub forest_none : (t : List ℕ) (i e : ℕ) → e ≤ i → forest_of t i e ≡ none
unfolding forest_of
forest_none t i e h = none_left (e - i) t i e h

-- the first node, its children, its later siblings
pub forest_node : {t : List ℕ} {i e : ℕ} → Part t i e → i < e
    → forest_of t i e ≡ node (node_head t i) (forest_of t (i + 1) (i + size_at t i)) (forest_of t (i + size_at t i) e)
unfolding forest_of
forest_node {t} {i} {e} p lt =
    let s = sized p lt in
    let n = ended p lt in
    enough (e - i) (suc (e - i)) p (omega arith) (omega arith)
    ∙ step t i e (e - i) lt (enough _ _ (kids p lt) (omega arith) (omega arith)) (enough _ _ (rest p lt) (omega arith) (omega arith))

-- one node with what is below it
pub forest_one : {t : List ℕ} {i e : ℕ} → Part t i e → i < e → forest_of t i (i + size_at t i) ≡ node (node_head t i) (forest_of t (i + 1) (i + size_at t i)) none
forest_one {t} {i} p lt =
    forest_node (first p lt) (omega (arith, sized p lt))
    ∙ ap (node (node_head t i) (forest_of t (i + 1) (i + size_at t i))) (forest_none t (i + size_at t i) (i + size_at t i) (omega arith))

-- What holds of nothing, and of a part where it holds below its first node and of what follows, holds of every part.
pub induct : (Q : ℕ → ℕ → Type 0) (t : List ℕ)
    → ((i e : ℕ) → e ≤ i → Q i e)
    → ((i e : ℕ) → Part t i e → i < e → Q (i + 1) (i + size_at t i) → Q (i + size_at t i) e → Q i e)
    → {i e : ℕ} → Part t i e → Q i e
induct Q t base more {i} {e} p = go (e - i) i e p (omega arith)
  where
    go : (k i e : ℕ) → Part t i e → e - i ≤ k → Q i e
    go zero i e p a = base i e (omega arith)
    go (suc k) i e p a = on (dec_lt i e) (λ lt s f. go k (i + 1) (i + size_at t i) (kids p lt) (omega arith)) (λ lt s f. go k (i + size_at t i) e (rest p lt) (omega arith))
      where
        on : Dec (i < e) → (i < e → 1 ≤ size_at t i → i + size_at t i ≤ e → Q (i + 1) (i + size_at t i))
            → (i < e → 1 ≤ size_at t i → i + size_at t i ≤ e → Q (i + size_at t i) e) → Q i e
        on (no h) f g = base i e (omega arith)
        on (yes lt) f g = more i e p lt (f lt (sized p lt) (ended p lt)) (g lt (sized p lt) (ended p lt))

-- a part has as many nodes as places
pub count_of : {t : List ℕ} {i e : ℕ} → Part t i e → count (forest_of t i e) ≡ e - i
unfolding count
count_of {t} p = induct (λ i e. count (forest_of t i e) ≡ e - i) t nothing more p
  where
    nothing : (i e : ℕ) → e ≤ i → count (forest_of t i e) ≡ e - i
    nothing i e h = rw (forest_none t i e h) (omega arith)

    more : (i e : ℕ) → Part t i e → i < e → count (forest_of t (i + 1) (i + size_at t i)) ≡ i + size_at t i - (i + 1)
        → count (forest_of t (i + size_at t i) e) ≡ e - (i + size_at t i) → count (forest_of t i e) ≡ e - i
    more i e p lt a b = let s = sized p lt in let n = ended p lt in rw (forest_node p lt) (omega arith)
