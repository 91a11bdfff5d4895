-- What the rules ask of the first child of a role, by its number. Assumes nothing.
use Prim.Native.Nat.{ℕ, ◌+◌, ◌≤◌, ◌<◌}
use mathlib.Core.Path.{◌≡◌, refl, sym, ap, ◌∙◌}
use mathlib.Core.List.{List}
use mathlib.Core.Bool.{Bool, true, false}
use lib.Dec.{eqb}
use borrow.Author.Tests.{eq-eqb}
use Rattle.tree.specs.Bytes.{kind_at, role_at, size_at}
use Rattle.tree.specs.Forest.{Head, Forest, none, node, node_spot, node_head, forest_of}
use Rattle.tree.specs.code.Part.{Part}
use Rattle.tree.specs.code.Find.{child_of, from_role}
use Rattle.tree.proofs.Laws.{forest_none, forest_node}
use Rattle.tree.proofs.Find.{child_role, child_part, child_forest}
use Rattle.rules.specs.Visit.{no_head, head_at, spot_at, kind_among, under}

-- v asks something of the first node of role r: A of its head and children, z where there is none
module _ {B : Type 0} (r : ℕ) (v : Forest → B) (A : Head → Forest → B) (z : B) (nil : v none ≡ z)
    (here : (h : Head) (k s : Forest) → eqb r h.role ≡ true → v (node h k s) ≡ A h k)
    (on : (h : Head) (k s : Forest) → eqb r h.role ≡ false → v (node h k s) ≡ v s) where
  same : (f : Forest) → v f ≡ v (from_role r f)
  unfolding from_role
  same none = refl
  same (node h k s) = go (eqb r h.role) refl (same s)
    where
      go : (b : Bool) → eqb r h.role ≡ b → v s ≡ v (from_role r s)
          → v (node h k s) ≡ v (elim b [ true ↦ node h k s | false ↦ from_role r s ])
      go true e f = refl
      go false e f = on h k s e ∙ f

  pub there : {t : List ℕ} {i e : ℕ} → Part t i e → i ≤ e → child_of t r i e < e
      → v (forest_of t i e) ≡ A (node_head t (child_of t r i e)) (forest_of t (child_of t r i e + 1) (child_of t r i e + size_at t (child_of t r i e)))
  unfolding node_head
  there {t} {i} {e} p h lt =
      same (forest_of t i e)
      ∙ ap v (child_forest p r ∙ forest_node (child_part p r h) lt)
      ∙ here (node_head t (child_of t r i e)) _ _ (eq-eqb r (role_at t (child_of t r i e)) (sym (child_role p r lt)))

  pub absent : {t : List ℕ} {i e : ℕ} → Part t i e → e ≤ child_of t r i e → v (forest_of t i e) ≡ z
  absent {t} {i} {e} p h = same (forest_of t i e) ∙ ap v (child_forest p r ∙ forest_none t (child_of t r i e) e h) ∙ nil

module _ (r : ℕ) {t : List ℕ} {i e : ℕ} (p : Part t i e) (h : i ≤ e) (lt : child_of t r i e < e) where
  pub head_there : head_at r (forest_of t i e) ≡ node_head t (child_of t r i e)
  head_there = there r (head_at r) (λ g k. g) no_head refl (λ g k s b. rw (b, head_at)) (λ g k s b. rw (b, head_at)) p h lt

  pub kind_there : kind_among r (forest_of t i e) ≡ kind_at t (child_of t r i e)
  unfolding node_head
  kind_there = ap (λ (g : Head). g.kind) head_there

  pub place_there : spot_at r (forest_of t i e) ≡ node_spot t (child_of t r i e)
  unfolding node_head
  place_there = ap (λ (g : Head). g.spot) head_there

  pub under_there : under r (forest_of t i e) ≡ forest_of t (child_of t r i e + 1) (child_of t r i e + size_at t (child_of t r i e))
  under_there = there r (under r) (λ g k. k) none refl (λ g k s b. rw (b, under)) (λ g k s b. rw (b, under)) p h lt

module _ (r : ℕ) {t : List ℕ} {i e : ℕ} (p : Part t i e) (h : e ≤ child_of t r i e) where
  pub kind_absent : kind_among r (forest_of t i e) ≡ 0
  kind_absent =
      absent r (λ f. (head_at r f).kind) (λ g k. g.kind) 0 refl (λ g k s b. rw (b, head_at)) (λ g k s b. rw (b, head_at)) p h
