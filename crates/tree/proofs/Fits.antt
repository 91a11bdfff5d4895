-- The tree of a valid file is valid, as many nodes as the file says and no deeper than 48. Assumes nothing.
use Rattle.std.specs.Prelude.{Ok}
use Prim.Native.Nat.{ℕ, ◌+◌, ◌≤◌, ◌<◌}
use native.Mathlib.Omega.{arith}
use native.Mathlib.Decide.{dec_lt}
use mathlib.Core.Path.{◌≡◌, refl, ap, ◌∙◌}
use mathlib.Core.List.{List}
use mathlib.Core.Bool.{Bool, true, false, ◌&&◌, not}
use lib.Dec.{T, eqb}
use borrow.Author.Tests.{ltb-false, eq-eqb}
use Rattle.tree.specs.Bytes.{pick, node_count, size_at, kind_at}
use Rattle.tree.specs.Nodes.{depth_of, too_deep}
use Rattle.tree.specs.Children.{root_ok, kids_fit, wrong_children}
use Rattle.tree.specs.code.Kids.{good7, bad7}
use Rattle.tree.specs.Forest.{Forest, none, node, node_head, forest_of, tree_of}
use Rattle.tree.specs.code.Part.{Part}
use Rattle.tree.specs.code.Shape.{count, height, fitting, root_fits, valid}
use Rattle.tree.specs.code.Sound.{Sound}
use Rattle.tree.specs.code.Find.{Row}
use Rattle.tree.specs.Judge.{judged}
use Rattle.tree.specs.declared.Facts.{Facts}
use Rattle.tree.proofs.Search.{not_so}
use Rattle.tree.proofs.Names.{and_left, and_right}
use Rattle.tree.proofs.Above.{depth_zero}
use Rattle.tree.proofs.Listed.{kids_same}
use Rattle.tree.proofs.Laws.{later, sized, ended, kids, forest_none, forest_node, induct, count_of}
use Rattle.tree.proofs.Rows.{row_first, row_next, row_depth}
use Rattle.tree.proofs.Whole.{sound, whole_part}
use Rattle.tree.proofs.Shape.{truth, valid_root, valid_fits, fits_here, fits_kids, fits_rest}

-- no node is refused by 7
good_kids : {t : List ℕ} {f : Facts} → Sound t f → (i : ℕ) → i < node_count t → good7 t i ≡ true
unfolding bad7
good_kids {t} s i h = and_right (pick (eqb i 0) (root_ok t (node_count t)) true) (good7 t i) (not_so _ (s.none7 i h))

good_root : {t : List ℕ} {f : Facts} → Sound t f → root_ok t (node_count t) ≡ true
unfolding bad7
good_root {t} s = and_left (root_ok t (node_count t)) (good7 t 0) (not_so _ (s.none7 0 s.some_nodes))

-- a node's children fit its kind
pub kids_fitting : {t : List ℕ} {f : Facts} → Sound t f → (p : ℕ) → p < node_count t → T (kids_fit (kind_at t p) (forest_of t (p + 1) (p + size_at t p)))
kids_fitting {t} {f} s p l = rw (kids_same t p, good_kids s p l) tt

part_same : {t : List ℕ} {f : Facts} → Sound t f → {i e : ℕ} → Part t i e → e ≤ node_count t → fitting (forest_of t i e) ≡ true
unfolding fitting node_head
part_same {t} {f} s p le = induct (λ i e. e ≤ node_count t → fitting (forest_of t i e) ≡ true) t nothing more p le
  where
    nothing : (i e : ℕ) → e ≤ i → e ≤ node_count t → fitting (forest_of t i e) ≡ true
    nothing i e h le = rw (forest_none t i e h)

    more : (i e : ℕ) → Part t i e → i < e → (i + size_at t i ≤ node_count t → fitting (forest_of t (i + 1) (i + size_at t i)) ≡ true)
        → (e ≤ node_count t → fitting (forest_of t (i + size_at t i) e) ≡ true) → e ≤ node_count t → fitting (forest_of t i e) ≡ true
    more i e p lt a b le =
        let l : i < node_count t = omega arith in
        rw (forest_node p lt)
        (rw (kids_same t i ∙ good_kids s i l, a (omega (arith, ended p lt)), b le))

-- every part of a valid file fits
pub part_fits : {t : List ℕ} {f : Facts} → Sound t f → {i e : ℕ} → Part t i e → e ≤ node_count t → T (fitting (forest_of t i e))
part_fits s p le = rw (part_same s p le) tt

tree_fits : {t : List ℕ} {f : Facts} → Sound t f → fitting (tree_of t) ≡ true
unfolding tree_of
tree_fits {t} {f} s = part_same s (whole_part t f s) (omega arith)

-- the tree of a valid file: its root, and what is below
pub tree_node : {t : List ℕ} {f : Facts} → Sound t f → tree_of t ≡ node (node_head t 0) (forest_of t 1 (node_count t)) none
unfolding tree_of
tree_node {t} {f} s =
    let n = node_count t in
    let a = s.root in
    let z : 0 + size_at t 0 ≡ node_count t = omega arith in
    forest_node (whole_part t f s) s.some_nodes
    ∙ ap (λ (x : ℕ). node (node_head t 0) (forest_of t 1 x) (forest_of t x (node_count t))) z
    ∙ ap (λ (x : Forest). node (node_head t 0) (forest_of t 1 (node_count t)) x) (forest_none t (node_count t) (node_count t) (omega arith))

root_same : {t : List ℕ} {f : Facts} → Sound t f → root_fits (tree_of t) ≡ true
unfolding root_fits node_head root_ok
root_same {t} s = rw (tree_node s) (and_right (eqb (size_at t 0) (node_count t)) _ (good_root s))

pub tree_valid : (t : List ℕ) (f : Facts) → judged t ≡ Ok f → T (valid (tree_of t))
unfolding valid
tree_valid t f e = let s = sound t f e in rw (root_same s, tree_fits s) tt

-- and the other way: where the tree is valid, 7 refuses no node
abbrev fit : List ℕ → ℕ → Bool
fit t j = kids_fit (kind_at t j) (forest_of t (j + 1) (j + size_at t j))

fits_good : {t : List ℕ} {i e : ℕ} → Part t i e → T (fitting (forest_of t i e)) → (j : ℕ) → i ≤ j → j < e → fit t j ≡ true
unfolding node_head
fits_good {t} p = induct (λ i e. T (fitting (forest_of t i e)) → (j : ℕ) → i ≤ j → j < e → fit t j ≡ true) t (λ i e h v j a b. absurd (omega arith)) more p
  where
    more : (i e : ℕ) → Part t i e → i < e
        → (T (fitting (forest_of t (i + 1) (i + size_at t i))) → (j : ℕ) → i + 1 ≤ j → j < i + size_at t i → fit t j ≡ true)
        → (T (fitting (forest_of t (i + size_at t i) e)) → (j : ℕ) → i + size_at t i ≤ j → j < e → fit t j ≡ true)
        → T (fitting (forest_of t i e)) → (j : ℕ) → i ≤ j → j < e → fit t j ≡ true
    more i e p lt f g v j a b = go (dec_lt i j) (dec_lt j (i + size_at t i)) (rw (forest_node p lt) at v)
      where
        go : Dec (i < j) → Dec (j < i + size_at t i) → T (fitting (node (node_head t i) (forest_of t (i + 1) (i + size_at t i)) (forest_of t (i + size_at t i) e))) → fit t j ≡ true
        go (no x) y v =
            let q : j ≡ i = omega arith in
            rw q (truth _ (fits_here (node_head t i) (forest_of t (i + 1) (i + size_at t i)) _ v))
        go (yes x) (yes y) v = f (fits_kids (node_head t i) _ _ v) j (omega arith) y
        go (yes x) (no y) v = g (fits_rest (node_head t i) _ _ v) j (omega arith) b

pub valid_seven : (t : List ℕ) → Part t 0 (node_count t) → 1 ≤ node_count t → T (valid (tree_of t)) → (i : ℕ) → i < node_count t → wrong_children t i ≡ false
unfolding tree_of wrong_children root_ok root_fits node_head
valid_seven t w some v i h = seven (eqb i 0) (fits_good w (valid_fits (forest_of t 0 (node_count t)) v) i (omega arith) h)
  where
    root : T (root_fits (node (node_head t 0) (forest_of t (0 + 1) (0 + size_at t 0)) (forest_of t (0 + size_at t 0) (node_count t))))
    root = rw (forest_node w some) at (valid_root (forest_of t 0 (node_count t)) v)

    -- the root has no sibling: it reaches to the end
    whole_size : Dec (0 + size_at t 0 < node_count t) → size_at t 0 ≡ node_count t
    whole_size (yes l) = absurd (rw (forest_node (later w (omega arith)) l) at root)
    whole_size (no l) = omega (arith, ended w some)

    size : size_at t 0 ≡ node_count t
    size = whole_size (dec_lt (0 + size_at t 0) (node_count t))

    good : root_ok t (node_count t) ≡ true
    good =
        let q : 0 + size_at t 0 ≡ node_count t = omega (arith, size) in
        let r = rw (q, forest_none t (node_count t) (node_count t) (omega arith)) at root in
        simp (eq-eqb (size_at t 0) (node_count t) size) (truth _ r)

    seven : (b : Bool) → fit t i ≡ true → not (pick b (root_ok t (node_count t)) true && fit t i) ≡ false
    seven true e = rw (good, e)
    seven false e = rw e

pub tree_count : (t : List ℕ) (f : Facts) → judged t ≡ Ok f → count (tree_of t) ≡ f.nodes
unfolding tree_of
tree_count t f e = let s = sound t f e in let c = count_of (whole_part t f s) in let n = s.nodes in omega arith

shallow : {t : List ℕ} {f : Facts} → Sound t f → (i : ℕ) → i < node_count t → depth_of t i ≤ 48
unfolding too_deep
shallow {t} s i h = ltb-false 48 (depth_of t i) (s.none8 i h)

-- from one of p's children on, no more levels than p's depth leaves
levels : {t : List ℕ} {f : Facts} → Sound t f → {i e : ℕ} → Part t i e → (p : ℕ) → p < node_count t → Row t p i → e ≡ p + size_at t p → height (forest_of t i e) + depth_of t p ≤ 48
unfolding height
levels {t} {f} s part = induct (λ i e. (p : ℕ) → p < node_count t → Row t p i → e ≡ p + size_at t p → height (forest_of t i e) + depth_of t p ≤ 48) t nothing more part
  where
    nothing : (i e : ℕ) → e ≤ i → (p : ℕ) → p < node_count t → Row t p i → e ≡ p + size_at t p → height (forest_of t i e) + depth_of t p ≤ 48
    nothing i e h p l row q = rw (forest_none t i e h) (omega (arith, shallow s p l))

    more : (i e : ℕ) → Part t i e → i < e
        → ((p : ℕ) → p < node_count t → Row t p (i + 1) → i + size_at t i ≡ p + size_at t p → height (forest_of t (i + 1) (i + size_at t i)) + depth_of t p ≤ 48)
        → ((p : ℕ) → p < node_count t → Row t p (i + size_at t i) → e ≡ p + size_at t p → height (forest_of t (i + size_at t i) e) + depth_of t p ≤ 48)
        → (p : ℕ) → p < node_count t → Row t p i → e ≡ p + size_at t p → height (forest_of t i e) + depth_of t p ≤ 48
    more i e part lt a b p l row q =
        let w = whole_part t f s in
        let h : i < p + size_at t p = omega arith in
        let le = w.ends p (omega arith) l in
        let d = row_depth row h in
        let x = a i (omega arith) (row_first t i (sized part lt)) refl in
        let y = b p l (row_next w l row h) q in
        rw (forest_node part lt) (omega arith)

pub tree_height : (t : List ℕ) (f : Facts) → judged t ≡ Ok f → height (tree_of t) ≤ 48
unfolding height
tree_height t f e =
    let s = sound t f e in
    let w = whole_part t f s in
    let r = s.root in
    let some = s.some_nodes in
    let q : 0 + size_at t 0 ≡ node_count t = omega arith in
    let below : Part t 1 (node_count t) = rw q at (kids w some) in
    let x = levels s below 0 some (row_first t 0 (omega arith)) (omega arith) in
    let d = depth_zero t in
    rw (tree_node s) (omega arith)
