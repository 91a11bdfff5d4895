-- A walk in file order over the numbers of the nodes is a walk over the forest. Assumes nothing.
use Prim.Native.Nat.{ℕ, zero, suc, ◌+◌, ◌-◌, ◌≤◌, ◌<◌}
use native.Mathlib.Omega.{arith}
use native.Mathlib.Decide.{dec_lt}
use mathlib.Core.Path.{◌≡◌, refl, sym, ap, ◌∙◌}
use mathlib.Core.List.{List, [], ◌++◌, append_assoc}
use Rattle.tree.specs.Bytes.{size_at}
use Rattle.tree.specs.Forest.{Head, Forest, none, node, node_head, forest_of}
use Rattle.tree.specs.code.Part.{Part}
use Rattle.tree.proofs.Laws.{sized, ended, kids, first, rest, forest_none, forest_node}
use Rattle.rules.specs.Record.{Rec}
use lib.ListN.{length}
use Rattle.answer.specs.declared.LentSheet.{LentSheet}
use Rattle.answer.specs.Page.{Added, Page, writes, page}
use Rattle.answer.proofs.Laws.{writes_none, writes_append, writes_length}

-- a step of a walk: p is what is written before it, q after it; ys is what is still to come
pub stepped : (p : Page) (xs ys : List Rec) {q : Page} {zs : List Rec} → q ≡ writes p xs → zs ≡ xs ++ ys → writes q ys ≡ writes p zs
stepped p xs ys a b = rw (a, b) (sym (writes_append p xs ys))

-- parts side by side
pub joined : {t : List ℕ} {i j e : ℕ} → Part t i j → Part t j e → j ≤ e → Part t i e
joined {t} {i} {j} {e} p q h =
    record {
      few = q.few;
      some = λ m a b. some_at m a b (dec_lt m j);
      ends = λ m a b. ends_at m a b (dec_lt m j);
      nest = λ m k a b. nest_at m k a b (dec_lt m j);
    }
  where
    some_at : (m : ℕ) → i ≤ m → m < e → Dec (m < j) → 1 ≤ size_at t m
    some_at m a b (yes l) = p.some m a l
    some_at m a b (no l) = q.some m (omega arith) b

    ends_at : (m : ℕ) → i ≤ m → m < e → Dec (m < j) → m + size_at t m ≤ e
    ends_at m a b (yes l) = omega (arith, p.ends m a l)
    ends_at m a b (no l) = q.ends m (omega arith) b

    nest_at : (m k : ℕ) → i ≤ m → m < e → Dec (m < j) → m < k → k < m + size_at t m → k + size_at t k ≤ m + size_at t m
    nest_at m k a b (yes l) c d = p.nest m k a l c d
    nest_at m k a b (no l) c d = q.nest m k (omega arith) b c d

-- up to the sibling after node j
pub onward : {t : List ℕ} {i j e : ℕ} → Part t i j → Part t j e → j < e → Part t i (j + size_at t j)
onward p q lt = joined p (first q lt) (omega arith)

pub empty : (t : List ℕ) (i : ℕ) {e : ℕ} → Part t i e → i ≤ e → Part t i i
empty t i p h =
    record {
      few = omega (arith, p.few);
      some = λ m a b. absurd (omega arith);
      ends = λ m a b. absurd (omega arith);
      nest = λ m k a b. absurd (omega arith);
    }

-- g lists something of each sibling in turn: G of a node's head and children
module _ {A : Type 0} (g : Forest → List A) (G : Head → Forest → List A) (nil : g none ≡ [])
    (cons : (h : Head) (k s : Forest) → g (node h k s) ≡ G h k ++ g s) where
  pub past : (t : List ℕ) (i e : ℕ) → e ≤ i → g (forest_of t i e) ≡ []
  past t i e h = ap g (forest_none t i e h) ∙ nil

  -- node i, and its later siblings
  pub over : {t : List ℕ} {i e : ℕ} → Part t i e → i < e
      → g (forest_of t i e) ≡ G (node_head t i) (forest_of t (i + 1) (i + size_at t i)) ++ g (forest_of t (i + size_at t i) e)
  over {t} {i} {e} p lt = ap g (forest_node p lt) ∙ cons (node_head t i) (forest_of t (i + 1) (i + size_at t i)) (forest_of t (i + size_at t i) e)

  split_in : (n : ℕ) {t : List ℕ} {i j e : ℕ} → Part t i j → Part t j e → i ≤ j → j ≤ e → j - i ≤ n
      → g (forest_of t i e) ≡ g (forest_of t i j) ++ g (forest_of t j e)
  split_in zero {t} {i} {j} {e} p q a b n =
      let z : i ≡ j = omega arith in rw z (rw (past t j j (omega arith)))
  split_in (suc n) {t} {i} {j} {e} p q a b c =
      on (dec_lt i j) (λ lt. split_in n (rest p lt) q (ended p lt) b (omega (arith, sized p lt)))
    where
      on : Dec (i < j) → (i < j → g (forest_of t (i + size_at t i) e) ≡ g (forest_of t (i + size_at t i) j) ++ g (forest_of t j e))
          → g (forest_of t i e) ≡ g (forest_of t i j) ++ g (forest_of t j e)
      on (no h) f = let z : i ≡ j = omega arith in rw z (rw (past t j j (omega arith)))
      on (yes lt) f =
          over (joined p q b) (omega arith)
          ∙ rw (f lt) (sym (append_assoc (G (node_head t i) (forest_of t (i + 1) (i + size_at t i))) (g (forest_of t (i + size_at t i) j)) (g (forest_of t j e))))
          ∙ ap (λ (l : List A). l ++ g (forest_of t j e)) (sym (over p lt))

  -- two parts side by side
  pub split : {t : List ℕ} {i j e : ℕ} → Part t i j → Part t j e → i ≤ j → j ≤ e
      → g (forest_of t i e) ≡ g (forest_of t i j) ++ g (forest_of t j e)
  split {t} {i} {j} {e} p q a b = split_in (j - i) p q a b (omega arith)

  -- G goes down: F of a node, and then what its children give
  module _ (F : Head → Forest → List A) (down : (h : Head) (k : Forest) → G h k ≡ F h k ++ g k) where
    -- node i, and whatever has a higher number
    pub next : {t : List ℕ} {i e : ℕ} → Part t i e → i < e
        → g (forest_of t i e) ≡ F (node_head t i) (forest_of t (i + 1) (i + size_at t i)) ++ g (forest_of t (i + 1) e)
    next {t} {i} {e} p lt =
        let z = sized p lt in
        over p lt
        ∙ rw (down, append_assoc)
        (ap (λ (l : List A). F (node_head t i) (forest_of t (i + 1) (i + size_at t i)) ++ l) (sym (split (kids p lt) (rest p lt) (omega arith) (ended p lt))))

-- A walk's loop: what is written so far, with what is still left to list, comes to the whole list.
pub record Going (s₀ : LentSheet) (all : List Rec) (s : LentSheet) (left : List Rec) : Type 0 where
  pub yet : writes (page s) left ≡ writes (page s₀) all
  pub same_room : s.out.ghost_name ≡ s₀.out.ghost_name

pub going : (s : LentSheet) (all : List Rec) → Going s all s all
going s all = record { yet = refl; same_room = refl }

pub going_on : {s₀ s s' : LentSheet} {all zs : List Rec} → Going s₀ all s zs → (xs ys : List Rec) → Added s s' xs → zs ≡ xs ++ ys → Going s₀ all s' ys
going_on {s = s} g xs ys w e =
    record { yet = stepped (page s) xs ys w.so e ∙ g.yet; same_room = w.same_room ∙ g.same_room }

pub going_end : {s₀ s : LentSheet} {all zs : List Rec} → Going s₀ all s zs → zs ≡ [] → Added s₀ s all
going_end {s = s} g e = record { so = sym (writes_none (page s)) ∙ (rw e at g.yet); same_room = g.same_room }

-- ---- what functions wrote

pub added_none : (s : LentSheet) → Added s s []
added_none s = record { so = sym (writes_none (page s)); same_room = refl }

-- the same records, in other words
pub added_as : {s s' : LentSheet} {xs : List Rec} (ys : List Rec) → ys ≡ xs → Added s s' xs → Added s s' ys
added_as {s = s} ys e w = record { so = w.so ∙ ap (writes (page s)) (sym e); same_room = w.same_room }

-- one after another
pub added_both : {s s₁ s₂ : LentSheet} {xs ys : List Rec} → Added s s₁ xs → Added s₁ s₂ ys → Added s s₂ (xs ++ ys)
added_both {s = s} {xs = xs} {ys = ys} a b = record {
  so = b.so ∙ rw a.so (sym (writes_append (page s) xs ys));
  same_room = b.same_room ∙ a.same_room;
}
