-- A valid file's nodes: what holds of each by its number holds throughout the tree. None ends before it begins, for refusal 6 was not
-- given; each has its own number; and the expression of a statement is there, for refusal 7 was not given. Assumes nothing.
use Prim.Native.Nat.{ℕ, ◌+◌, ◌≤◌, ◌<◌}
use native.Mathlib.Omega.{arith}
use mathlib.Core.Path.{◌≡◌, refl, sym, subst}
use mathlib.Core.List.{List}
use mathlib.Core.Bool.{Bool, true, false, ◌||◌}
use lib.Dec.{leb, eqb, T, eqb→eq, eqb_refl}
use borrow.Author.Tests.{leb-true}
use Rattle.tree.specs.Bytes.{node_count, value_count, kind_at, size_at, begin_at, end_at, pick}
use Rattle.tree.specs.Nodes.{known}
use Rattle.tree.specs.Children.{slot_of, many}
use Rattle.tree.specs.code.Stages.{good6, bad6}
use Rattle.tree.specs.code.Sound.{Sound}
use Rattle.tree.specs.Forest.{Head, Forest, Forest.none as leaf, node, node_head, node_spot, forest_of, tree_of}
use Rattle.tree.specs.code.Part.{Part}
use Rattle.tree.specs.declared.Facts.{Facts}
use Rattle.tree.proofs.Search.{lowest_clear, not_so}
use Rattle.tree.proofs.Names.{and_left, and_right}
use Rattle.tree.proofs.Fields.{number_own}
use Rattle.tree.proofs.Laws.{forest_none, forest_node, ended, induct}
use Rattle.tree.proofs.Roles.{kid_many}
use Rattle.tree.proofs.Whole.{whole_part}
use Rattle.rules.specs.Visit.{has}
use Rattle.rules.proofs.Bools.{or_left, or_right}
use Rattle.spans.proofs.Made.{Throughout}

-- a node that doesn't end before it begins
abbrev pub Straight : Head → Type 0
Straight h = h.spot.begin ≤ h.spot.end

-- a node of the file t: its span and value are those of the node of its number
pub record Sits (t : List ℕ) (h : Head) : Type 0 where
  pub below : h.number < node_count t
  pub there : h.spot ≡ node_spot t h.number

head_spot : (t : List ℕ) (i : ℕ) → (node_head t i).spot ≡ node_spot t i
unfolding node_head
head_spot t i = refl

-- a role that one or more of these have is there
many_has : (k : Forest) (r : ℕ) → 1 ≤ many r k → T (has r k)
unfolding many
many_has leaf r l = absurd (let z : ⊥ = omega arith in z)
many_has (node h k s) r l = go (eqb h.role r) refl (many_has s r) l
  where
    go : (b : Bool) → eqb h.role r ≡ b → (1 ≤ many r s → T (has r s)) → 1 ≤ pick b 1 0 + many r s → T (eqb r h.role || has r s)
    go true e f l =
        or_left (eqb r h.role) (has r s)
        (subst (λ (x : ℕ). T (eqb r x)) (sym (eqb→eq h.role r (subst T (sym e) tt))) (eqb_refl r))
    go false e f l = or_right (eqb r h.role) (has r s) (f (omega arith))

module _ (t : List ℕ) (f : Facts) (s : Sound t f) where
  -- "5 expression: E4": a statement of kind 5 has a child of role 4
  stated : (i : ℕ) → i < node_count t → T (eqb (node_head t i).kind 5) → T (has 4 (forest_of t (i + 1) (i + size_at t i)))
  unfolding node_head slot_of
  stated i l q =
      let e : kind_at t i ≡ 5 = eqb→eq (kind_at t i) 5 q in
      let m : (slot_of (kind_at t i) 4).least ≤ many 4 (forest_of t (i + 1) (i + size_at t i)) = (kid_many s l 4 (omega arith)).0 in
      let u : (slot_of 5 4).least ≤ many 4 (forest_of t (i + 1) (i + size_at t i)) = rw e at m in
      many_has (forest_of t (i + 1) (i + size_at t i)) 4 u

  module _ (P : Head → Type 0) (holds : (i : ℕ) → i < node_count t → P (node_head t i)) where
    part_held : {i e : ℕ} → Part t i e → e ≤ node_count t → Throughout P (forest_of t i e)
    part_held p = induct (λ i e. e ≤ node_count t → Throughout P (forest_of t i e)) t
        (λ i e h b. rw (forest_none t i e h) tt)
        (λ i e p lt a c b. let d = ended p lt in let l : i < node_count t = omega arith in
        rw (forest_node p lt) ((holds i l, stated i l), (a (omega arith), c b))) p

    tree_held : Throughout P (tree_of t)
    unfolding tree_of
    tree_held = part_held (whole_part t f s) (omega arith)

  node_straight : (i : ℕ) → i < node_count t → Straight (node_head t i)
  unfolding bad6 good6 node_head node_spot
  node_straight i h =
      let n = node_count t in
      let nv = value_count t in
      let clear = s.none6 in
      let g : good6 t n nv i ≡ true = not_so (good6 t n nv i) (lowest_clear n (bad6 t n nv) i (omega (arith, clear))) in
      leb-true _ _ (and_left (leb (begin_at t i) (end_at t i)) _ (and_right (known (kind_at t i)) _ g))

  node_sits : (i : ℕ) → i < node_count t → Sits t (node_head t i)
  node_sits i h =
      let few = s.few_nodes in
      let e : (node_head t i).number ≡ i = number_own t i (omega arith) in
      record { below = omega arith; there = rw e (head_spot t i) }

  pub tree_straight : Throughout Straight (tree_of t)
  tree_straight = tree_held Straight node_straight

  pub tree_sits : Throughout (Sits t) (tree_of t)
  tree_sits = tree_held (Sits t) node_sits
