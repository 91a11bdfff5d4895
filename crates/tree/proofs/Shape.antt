-- What a valid tree gives at each node. Assumes nothing.
use Prim.Native.Nat.{ℕ, zero, suc, ◌≤◌, ◌<◌}
use native.Mathlib.Omega.{arith}
use native.Mathlib.Decide.{dec_lt, ℕ_discrete}
use mathlib.Core.Path.{◌≡◌, refl, sym, ap, ◌∙◌}
use mathlib.Core.Bool.{Bool, true, false, ◌&&◌}
use lib.Dec.{T, leb, eqb, leb→le, eqb→eq}
use borrow.Author.Tests.{eq-eqb, ne_eqb}
use Rattle.tree.specs.Children.{in_class, slot_of, all_stand, many, all_filled, in_pairs, for_first, in_order, kids_fit}
use Rattle.tree.specs.Forest.{Head, Forest, none, node}
use Rattle.tree.specs.code.Shape.{fitting, root_fits, valid}
use Rattle.tree.specs.code.Find.{from_role}

pub both : (a b : Bool) → T a → T b → T (a && b)
both true b s t = t
both false b s t = absurd s

pub left : (a b : Bool) → T (a && b) → T a
left true b t = tt
left false b t = absurd t

pub right : (a b : Bool) → T (a && b) → T b
right true b t = t
right false b t = absurd t

pub truth : (b : Bool) → T b → b ≡ true
truth true t = refl
truth false t = absurd t

pub valid_root : (f : Forest) → T (valid f) → T (root_fits f)
unfolding valid
valid_root f v = left (root_fits f) (fitting f) v

pub valid_fits : (f : Forest) → T (valid f) → T (fitting f)
unfolding valid
valid_fits f v = right (root_fits f) (fitting f) v

module _ (h : Head) (k r : Forest) (v : T (fitting (node h k r))) where
  pub fits_here : T (kids_fit h.kind k)
  unfolding fitting
  fits_here = left (kids_fit h.kind k) (fitting k && fitting r) v

  pub fits_kids : T (fitting k)
  unfolding fitting
  fits_kids = left (fitting k) (fitting r) (right (kids_fit h.kind k) (fitting k && fitting r) v)

  pub fits_rest : T (fitting r)
  unfolding fitting
  fits_rest = right (fitting k) (fitting r) (right (kids_fit h.kind k) (fitting k && fitting r) v)

filled_at : (n k : ℕ) (f : Forest) (r : ℕ) → r < n → T (all_filled n k f) → ((slot_of k r).least ≤ many r f) × (many r f ≤ (slot_of k r).most)
unfolding all_filled
filled_at zero k f r h v = absurd (omega arith)
filled_at (suc n) k f r h v = go (dec_lt r n) (λ l. filled_at n k f r l (left (all_filled n k f) _ v))
  where
    go : Dec (r < n) → (r < n → ((slot_of k r).least ≤ many r f) × (many r f ≤ (slot_of k r).most)) → ((slot_of k r).least ≤ many r f) × (many r f ≤ (slot_of k r).most)
    go (yes l) g = g l
    go (no l) g =
        let q : n ≡ r = omega arith in
        let u : T (leb (slot_of k r).least (many r f) && leb (many r f) (slot_of k r).most) = rw q at (right (all_filled n k f) _ v) in
        (leb→le _ _ (left (leb (slot_of k r).least (many r f)) _ u), leb→le _ _ (right (leb (slot_of k r).least (many r f)) _ u))

module _ (k : ℕ) (f : Forest) (v : T (kids_fit k f)) where
  pub fit_stand : T (all_stand k f)
  unfolding kids_fit
  fit_stand = left (all_stand k f) (all_filled 9 k f && in_order k f) v

  -- as many as the slot says
  pub fit_many : (r : ℕ) → r < 9 → ((slot_of k r).least ≤ many r f) × (many r f ≤ (slot_of k r).most)
  unfolding kids_fit
  fit_many r h = filled_at 9 k f r h (left (all_filled 9 k f) (in_order k f) (right (all_stand k f) (all_filled 9 k f && in_order k f) v))

  fit_order : T (in_order k f)
  unfolding kids_fit
  fit_order = right (all_filled 9 k f) (in_order k f) (right (all_stand k f) (all_filled 9 k f && in_order k f) v)

-- a dict's pairs
pub fit_pairs : (f : Forest) → T (kids_fit 29 f) → T (in_pairs 8 f)
unfolding in_order
fit_pairs f v = fit_order 29 f v

-- a comprehension's clauses
pub fit_clauses : (f : Forest) → T (kids_fit 25 f) → T (for_first f)
unfolding in_order
fit_clauses f v = fit_order 25 f v

pub fit_dict_clauses : (f : Forest) → T (kids_fit 26 f) → T (for_first f)
unfolding in_order
fit_dict_clauses f v = fit_order 26 f v

module _ (k : ℕ) (h : Head) (below r : Forest) (v : T (all_stand k (node h below r))) where
  pub stand_here : T (in_class (slot_of k h.role).class h.kind)
  unfolding all_stand
  stand_here = left (in_class (slot_of k h.role).class h.kind) (all_stand k r) v

  pub stand_rest : T (all_stand k r)
  unfolding all_stand
  stand_rest = right (in_class (slot_of k h.role).class h.kind) (all_stand k r) v

-- the first clause
pub first_for : (f : Forest) {h : Head} {below r : Forest} → T (for_first f) → from_role 0 f ≡ node h below r → h.kind ≡ 45
unfolding for_first from_role
first_for none v e = let z : ◌≡◌ {A = ℕ} 0 1 = cc in absurd (omega arith)
first_for (node g b s) {h} {below} {r} v e = go (ℕ_discrete g.role 0) (first_for s)
  where
    same : (x y : Head) (a b c d : Forest) → node x a c ≡ node y b d → x ≡ y
    same x y a b c d q = cc

    go : Dec (g.role ≡ 0) → (T (for_first s) → from_role 0 s ≡ node h below r → h.kind ≡ 45) → h.kind ≡ 45
    go (yes q) f =
        let a : for_first (node g b s) ≡ eqb g.kind 45 = rw (eq-eqb g.role 0 q, for_first) in
        let c : from_role 0 (node g b s) ≡ node g b s = rw (eq-eqb 0 g.role (sym q), from_role) in
        let z = same g h b below s r (sym c ∙ e) in
        ap (λ (x : Head). x.kind) (sym z) ∙ eqb→eq g.kind 45 (rw a at v)
    go (no q) f =
        let a : for_first (node g b s) ≡ for_first s = rw (ne_eqb g.role 0 q, for_first) in
        let c : from_role 0 (node g b s) ≡ from_role 0 s = rw (ne_eqb 0 g.role (λ z. q (sym z)), from_role) in
        f (rw a at v) (sym c ∙ e)

-- where none has the role, none is found
pub role_none : (r : ℕ) (f : Forest) → many r f ≡ 0 → from_role r f ≡ none
unfolding many from_role
role_none r none e = refl
role_none r (node h k s) e = go (ℕ_discrete h.role r) (role_none r s)
  where
    go : Dec (h.role ≡ r) → (many r s ≡ 0 → from_role r s ≡ none) → from_role r (node h k s) ≡ none
    go (yes q) f = absurd (omega (arith, simp (eq-eqb h.role r q) at e))
    go (no q) f =
        let z : many r s ≡ 0 = omega (arith, simp (ne_eqb h.role r q) at e) in
        rw (ne_eqb r h.role (λ y. q (sym y)), from_role) (f z)
