-- The children of a node of a valid file, by role: one statement for all kinds, through the slot of kind and role. Assumes nothing.
use Prim.Native.Nat.{ℕ, suc, ◌+◌, ◌≤◌, ◌<◌}
use native.Mathlib.Omega.{arith}
use native.Mathlib.Decide.{dec_lt, ℕ_discrete}
use mathlib.Core.Path.{◌≡◌, refl, sym, ap, ◌∙◌}
use mathlib.Core.List.{List}
use mathlib.Core.Logic.{◌⊎◌, inl, inr}
use lib.Dec.{T}
use Rattle.tree.specs.Bytes.{node_count, size_at, kind_at, role_at}
use Rattle.tree.specs.Children.{in_class, Slot, slot_of, all_stand, many, in_pairs, for_first}
use Rattle.tree.specs.Forest.{node_head, forest_of}
use Rattle.tree.specs.code.Part.{Part}
use Rattle.tree.specs.code.Find.{Row, child_of, kid_of}
use Rattle.tree.specs.code.Sound.{Sound}
use Rattle.tree.specs.declared.Facts.{Facts}
use Rattle.tree.proofs.Slots.{far_role}
use Rattle.tree.proofs.Laws.{forest_node}
use Rattle.tree.proofs.Rows.{row_first, row_part, row_next, row_walk}
use Rattle.tree.proofs.Find.{child_end, child_here, child_next, child_role, child_node, child_there, child_many, seek, many_here, many_next}
use Rattle.tree.proofs.Shape.{fit_stand, fit_many, fit_pairs, fit_clauses, fit_dict_clauses, stand_here, stand_rest, first_for}
use Rattle.tree.proofs.Classes.{class_range}
use Rattle.tree.proofs.Whole.{whole_part}
use Rattle.tree.proofs.Fits.{kids_fitting}

-- among p's children the first of a role is a child, or the end
pub child_row : {t : List ℕ} {n p : ℕ} → Part t 0 n → p < n → (r : ℕ) {c : ℕ} → Row t p c → Row t p (child_of t r c (p + size_at t p))
child_row {t} {n} {p} w l r row = seek r (λ i e. e ≡ p + size_at t p → Row t p i → Row t p (child_of t r i e)) t nothing here next (row_part w l row) refl row
  where
    nothing : (i e : ℕ) → e ≤ i → e ≡ p + size_at t p → Row t p i → Row t p (child_of t r i e)
    nothing i e h q row = let z : child_of t r i e ≡ i = omega (arith, child_end t r i e h, row.within) in rw z row

    here : (i e : ℕ) → Part t i e → i < e → role_at t i ≡ r → e ≡ p + size_at t p → Row t p i → Row t p (child_of t r i e)
    here i e part lt y q row = rw (child_here t r i e lt y) row

    next : (i e : ℕ) → Part t i e → i < e → (role_at t i ≡ r → ⊥) → (e ≡ p + size_at t p → Row t p (i + size_at t i) → Row t p (child_of t r (i + size_at t i) e))
        → e ≡ p + size_at t p → Row t p i → Row t p (child_of t r i e)
    next i e part lt y ih q row = rw (child_next part lt r y) (ih q (row_next w l row (omega arith)))

module _ {t : List ℕ} {f : Facts} (s : Sound t f) {p : ℕ} (l : p < node_count t) where
  -- p's children begin behind it, and are a part
  pub kids_row : Row t p (p + 1)
  kids_row = row_first t p ((whole_part t f s).some p (omega arith) l)

  pub kids_part : Part t (p + 1) (p + size_at t p)
  kids_part = row_part (whole_part t f s) l kids_row

  -- a child is itself a node of the file
  pub kid_below : {c : ℕ} → Row t p c → c < p + size_at t p → c < node_count t
  kid_below row h = omega (arith, (whole_part t f s).ends p (omega arith) l)

  stand_from : {c : ℕ} → Row t p c → T (all_stand (kind_at t p) (forest_of t c (p + size_at t p)))
  stand_from {c} row =
      row_walk (whole_part t f s) l (λ j. T (all_stand (kind_at t p) (forest_of t j (p + size_at t p)))) kids_row row (omega (arith, row.after))
      (fit_stand (kind_at t p) _ (kids_fitting s p l))
      (λ j at h a b v. stand_rest (kind_at t p) (node_head t j) _ _ (rw (forest_node (row_part (whole_part t f s) l at) h) at v))

  -- a child is of the class that the slot of its role says
  pub kid_class : {c : ℕ} → Row t p c → c < p + size_at t p → T (in_class (slot_of (kind_at t p) (role_at t c)).class (kind_at t c))
  unfolding node_head
  kid_class {c} row h =
      stand_here (kind_at t p) (node_head t c) _ _ (rw (forest_node (row_part (whole_part t f s) l row) h) at (stand_from row))

  -- a child's role is below 9
  pub kid_role : {c : ℕ} → Row t p c → c < p + size_at t p → role_at t c < 9
  kid_role {c} row h = go (dec_lt (role_at t c) 9)
    where
      go : Dec (role_at t c < 9) → role_at t c < 9
      go (yes d) = d
      go (no d) =
          let v = kid_class row h in
          let u : T (in_class 9 (kind_at t c)) = rw (ap (λ (x : Slot). x.class) (far_role (kind_at t p) (role_at t c) (omega arith))) at v in
          absurd (class_range 9 (kind_at t c) (omega arith) u)

  -- a node with a slot for no role has no children
  pub kid_none : ((r : ℕ) → (slot_of (kind_at t p) r).class ≡ 9) → size_at t p ≡ 1
  kid_none q = go (dec_lt (p + 1) (p + size_at t p))
    where
      go : Dec (p + 1 < p + size_at t p) → size_at t p ≡ 1
      go (yes d) = absurd (class_range 9 (kind_at t (p + 1)) (omega arith) (rw (q (role_at t (p + 1))) at (kid_class kids_row d)))
      go (no d) = omega (arith, (whole_part t f s).some p (omega arith) l)

  -- as many children of a role as the slot says
  pub kid_many : (r : ℕ) → r < 9
      → ((slot_of (kind_at t p) r).least ≤ many r (forest_of t (p + 1) (p + size_at t p))) × (many r (forest_of t (p + 1) (p + size_at t p)) ≤ (slot_of (kind_at t p) r).most)
  kid_many r h = fit_many (kind_at t p) _ (kids_fitting s p l) r h

  -- the first of a role: there where the slot says at least one, and of the slot's class
  pub kid_there : (r : ℕ) → r < 9 → 1 ≤ (slot_of (kind_at t p) r).least → kid_of t r p < p + size_at t p
  kid_there r h a = child_there kids_part r (omega (arith, (kid_many r h).0))

  pub kid_row : (r : ℕ) → Row t p (kid_of t r p)
  kid_row r = child_row (whole_part t f s) l r kids_row

  pub kid_is : (r : ℕ) → kid_of t r p < p + size_at t p → role_at t (kid_of t r p) ≡ r
  kid_is r h = child_role kids_part r h

  pub kid_fits : (r : ℕ) → kid_of t r p < p + size_at t p → T (in_class (slot_of (kind_at t p) r).class (kind_at t (kid_of t r p)))
  kid_fits r h = rw (kid_is r h) at (kid_class (kid_row r) h)

  -- how many of role r from a child on
  onward : ℕ → ℕ → ℕ
  onward r j = many r (forest_of t j (p + size_at t p))

  -- up to a child, the first of the role is still to come, or is passed and counted
  passing : (r : ℕ) {c : ℕ} → Row t p c
      → (onward r c ≤ onward r (p + 1)) × ((child_of t r c (p + size_at t p) ≡ kid_of t r p) ⊎ (suc (onward r c) ≤ onward r (p + 1)))
  unfolding onward
  passing r {c} row = row_walk (whole_part t f s) l Passed kids_row row (omega (arith, row.after)) (omega arith, inl refl) carry
    where
      Passed : ℕ → Type 0
      Passed j = (onward r j ≤ onward r (p + 1)) × ((child_of t r j (p + size_at t p) ≡ kid_of t r p) ⊎ (suc (onward r j) ≤ onward r (p + 1)))

      carry : (j : ℕ) → Row t p j → j < p + size_at t p → p + 1 ≤ j → j + size_at t j ≤ c → Passed j → Passed (j + size_at t j)
      carry j at h a b v = go (ℕ_discrete (role_at t j) r) v.1
        where
          part : Part t j (p + size_at t p)
          part = row_part (whole_part t f s) l at

          go : Dec (role_at t j ≡ r) → (child_of t r j (p + size_at t p) ≡ kid_of t r p) ⊎ (suc (onward r j) ≤ onward r (p + 1)) → Passed (j + size_at t j)
          go (yes q) d = let m = many_here part h r q in (omega (arith, v.0), inr (omega (arith, v.0)))
          go (no q) (inl d) = (omega (arith, v.0, many_next part h r q), inl (sym (child_next part h r q) ∙ d))
          go (no q) (inr d) = (omega (arith, v.0, many_next part h r q), inr (omega (arith, many_next part h r q)))

  -- the only one, where the slot says at most one
  pub kid_only : (r : ℕ) → r < 9 → (slot_of (kind_at t p) r).most ≤ 1 → {c : ℕ} → Row t p c → c < p + size_at t p → role_at t c ≡ r → c ≡ kid_of t r p
  unfolding onward
  kid_only r small most {c} row h q = go (passing r row).1
    where
      go : (child_of t r c (p + size_at t p) ≡ kid_of t r p) ⊎ (suc (onward r c) ≤ onward r (p + 1)) → c ≡ kid_of t r p
      go (inl d) = sym (child_here t r c (p + size_at t p) h q) ∙ d
      go (inr d) = absurd (omega (arith, (kid_many r small).1, many_here (row_part (whole_part t f s) l row) h r q))

  pub kid_last : (r : ℕ) → r < 9 → (slot_of (kind_at t p) r).most ≤ 1 → kid_of t r p < p + size_at t p
      → many r (forest_of t (kid_of t r p + size_at t (kid_of t r p)) (p + size_at t p)) ≡ 0
  kid_last r small most h =
      omega (arith, many_here (row_part (whole_part t f s) l (kid_row r)) h r (kid_is r h), child_many kids_part r, (kid_many r small).1)

  -- a dict's pairs
  pub kid_pairs : kind_at t p ≡ 29 → T (in_pairs 8 (forest_of t (p + 1) (p + size_at t p)))
  kid_pairs q = fit_pairs _ (rw q at (kids_fitting s p l))

  -- a comprehension's first clause is a for
  pub kid_for : (kind_at t p ≡ 25) ⊎ (kind_at t p ≡ 26) → kid_of t 0 p < p + size_at t p → kind_at t (kid_of t 0 p) ≡ 45
  unfolding node_head
  kid_for k h = first_for _ (go k) (child_node kids_part 0 (omega (arith, kids_row.within)) h)
    where
      go : (kind_at t p ≡ 25) ⊎ (kind_at t p ≡ 26) → T (for_first (forest_of t (p + 1) (p + size_at t p)))
      go (inl q) = fit_clauses _ (rw q at (kids_fitting s p l))
      go (inr q) = fit_dict_clauses _ (rw q at (kids_fitting s p l))
