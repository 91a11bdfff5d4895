-- In a valid file each def has its name, its one body, and no return in what is not its body. Assumes nothing.
use Prim.Native.Nat.{ℕ, ◌+◌, ◌≤◌, ◌<◌}
use native.Mathlib.Omega.{arith}
use native.Mathlib.Decide.{ℕ_discrete}
use mathlib.Core.Path.{◌≡◌, refl, sym, ap, ◌∙◌}
use mathlib.Core.Bool.{Bool, true, false, ◌||◌, not}
use mathlib.Core.List.{List, []}
use lib.Dec.{T, eqb, eqb→eq}
use borrow.Author.Tests.{eq-eqb, ne_eqb}
use Rattle.tree.specs.Bytes.{node_count, kind_at, size_at}
use Rattle.tree.specs.Children.{class_of, in_class, slot_of, all_stand, many}
use Rattle.tree.specs.Forest.{Head, Forest, Forest.none as leaf, node, forest_of}
use Rattle.tree.specs.code.Shape.{fitting}
use Rattle.tree.specs.code.Sound.{Sound}
use Rattle.tree.specs.declared.Facts.{Facts}
use Rattle.tree.proofs.Classes.{slot_so, slot_role}
use Rattle.tree.proofs.Shape.{fits_here, fits_kids, fits_rest, fit_stand, stand_here, stand_rest}
use Rattle.tree.proofs.Fits.{kids_fitting, part_fits}
use Rattle.tree.proofs.Roles.{kids_part, kid_many, kid_there}
use Rattle.tree.proofs.Whole.{sound, whole, whole_part}
use Rattle.rules.specs.Record.{listed}
use Rattle.rules.specs.Visit.{look}
use Rattle.rules.specs.Flow.{Return, Which, everything, the_rest, wanted, returns_part, returns}
use Rattle.rules.proofs.Look.{row}
use Rattle.flow.specs.Returns.{Shaped, Tidy, Checked}

-- a child that does not stand in a statement's slot is no statement
class_other : (c j : ℕ) → (c ≡ 1 → ⊥) → T (in_class c j) → class_of j ≡ 1 → ⊥
unfolding class_of
class_other c j n v q = go (ℕ_discrete c 7)
  where
    go : Dec (c ≡ 7) → ⊥
    go (yes e) =
        let z : j ≡ 40 = eqb→eq j 40 (rw (eq-eqb c 7 e) at v) in
        let y : ◌≡◌ {A = ℕ} 3 1 = rw z at q in
        omega arith
    go (no e) = let z : class_of j ≡ c = eqb→eq (class_of j) c (rw (ne_eqb c 7 e) at v) in n (sym z ∙ q)

-- what is no statement has no slot for one
slot_below : (k r : ℕ) → (class_of k ≡ 1 → ⊥) → (slot_of k r).class ≡ 1 → ⊥
unfolding class_of
slot_below k r n q = n (eqb→eq (class_of k) 1 (rw (eq-eqb _ 1 q) at (slot_so (λ k s. not (eqb s.class 1) || eqb (class_of k) 1) tt k r tt)))

-- a def has one only for its body
slot_def : (r : ℕ) → (r ≡ 1 → ⊥) → (slot_of 12 r).class ≡ 1 → ⊥
slot_def r n q =
    let v : T (eqb (slot_of 12 r).role 1) = rw (eq-eqb _ 1 q) at (slot_so (λ k s. not (eqb s.class 1) || (not (eqb k 12) || eqb s.role 1)) tt 12 r tt) in
    n (sym (slot_role 12 r) ∙ eqb→eq _ 1 v)

part_quiet : (h : Head) (k : Forest) (down : Which → List Return) → (class_of h.kind ≡ 1 → ⊥) → ((v : Which) → down v ≡ []) → returns_part h.kind h k down ≡ []
unfolding class_of
part_quiet h k down n q =
    rw (ne_eqb h.kind 4 (λ z. n (ap class_of z)), look)
    (row (λ (l : List Return). l ≡ []) (eqb h.kind 12) (down the_rest) (down everything) (q the_rest) (q everything))

listed_none : (b : Bool) (xs ys : List Return) → xs ≡ [] → ys ≡ [] → listed b xs ys ≡ []
listed_none true xs ys p q = rw (p, q)
listed_none false xs ys p q = q

-- below what is no statement there is no return
quiet : (k : ℕ) → (class_of k ≡ 1 → ⊥) → (f : Forest) → T (all_stand k f) → T (fitting f) → (w : Which) → returns w f ≡ []
quiet k n leaf a v w = refl
quiet k n (node h kk s) a v w =
    let c = class_other (slot_of k h.role).class h.kind (slot_below k h.role n) (stand_here k h kk s a) in
    listed_none (wanted w h.role) _ _
    (part_quiet h kk (λ v. returns v kk) c (λ u. quiet h.kind c kk (fit_stand h.kind kk (fits_here h kk s v)) (fits_kids h kk s v) u))
    (quiet k n s (stand_rest k h kk s a) (fits_rest h kk s v) w)

rest_quiet : (f : Forest) → T (all_stand 12 f) → T (fitting f) → returns the_rest f ≡ []
rest_quiet leaf a v = refl
rest_quiet (node h k s) a v = go (ℕ_discrete h.role 1) (rest_quiet s (stand_rest 12 h k s a) (fits_rest h k s v))
  where
    go : Dec (h.role ≡ 1) → returns the_rest s ≡ [] → returns the_rest (node h k s) ≡ []
    go (yes q) r = rw (eq-eqb 1 h.role (sym q)) r
    go (no q) r =
        let c = class_other (slot_of 12 h.role).class h.kind (slot_def h.role q) (stand_here 12 h k s a) in
        listed_none (not (eqb 1 h.role)) _ _
        (part_quiet h k (λ v. returns v k) c (λ u. quiet h.kind c k (fit_stand h.kind k (fits_here h k s v)) (fits_kids h k s v) u)) r

shaped : {t : List ℕ} {f : Facts} → Sound t f → (i : ℕ) → i < node_count t → kind_at t i ≡ 12 → Shaped t i
unfolding slot_of
shaped {t} {f} s i l k =
    let m : many 1 (forest_of t (i + 1) (i + size_at t i)) ≤ (slot_of 12 1).most = rw k at (kid_many s l 1 (omega arith)).1 in
    record {
      name = kid_there s l 6 (omega arith) (rw k (omega arith));
      body = kid_there s l 1 (omega arith) (rw k (omega arith));
      one = m;
      rest =
          rest_quiet (forest_of t (i + 1) (i + size_at t i)) (fit_stand 12 (forest_of t (i + 1) (i + size_at t i)) (rw k at (kids_fitting s i l)))
          (part_fits s (kids_part s l) ((whole_part t f s).ends i (omega arith) l));
    }

pub tidy_valid : {t : List ℕ} {n : ℕ} → Checked t n → Tidy t 0 n
tidy_valid {t} {n} c =
    let s = sound t c.facts c.valid in
    record {
      part = rw c.nodes at (whole t c.facts c.valid);
      defs = λ j a b k. shaped s j (omega (arith, s.nodes, c.nodes)) k;
    }

pub root_whole : {t : List ℕ} {n : ℕ} → Checked t n → size_at t 0 ≡ n
root_whole {t} c = let s = sound t c.facts c.valid in s.root ∙ sym s.nodes ∙ c.nodes
