-- Demand 3, the names half: what it needs of a valid tree, and the theorem.
use Prim.Native.Nat.{ℕ, ◌+◌, ◌≤◌, ◌<◌}
use mathlib.Core.Path.{◌≡◌, sym, subst}
use mathlib.Core.Bool.{Bool, true, false, ◌&&◌, ◌||◌, not, cond}
use mathlib.Core.List.{List, [], ◌∷◌, ◌++◌}
use mathlib.Core.Logic.{◌⊎◌, inl, inr}
use mathlib.Core.Option.{Option}
use native.Mathlib.Omega.{arith}
use native.Mathlib.Decide.{dec_lt}
use lib.Dec.{le→leb, eqb, leb, T, eqb→eq, leb→le, not_T}
use Rattle.tree.specs.Forest.{Spot, Head, Forest, Forest.none as leaf, node}
use Rattle.rules.specs.Visit.{look}
use Rattle.rules.specs.Order.{Form, forms, form_of, Cmd, nothing, bindings, bind_of}
use Rattle.rules.specs.Names.{names, same, among}
use Rattle.tree.specs.Bytes.{pick}
use Rattle.tree.specs.Children.{class_of, in_class, slot_of, all_stand}
use Rattle.tree.specs.code.Shape.{fitting, root_fits, valid}
use Rattle.tree.proofs.Classes.{slot_so, slot_role, kinds, class_range}
use Rattle.tree.proofs.Shape.{valid_root, valid_fits, fits_here, fits_kids, fits_rest, fit_stand, stand_here, stand_rest}
use Rattle.rules.proofs.Bools.{or_cases, and_left, and_right, nor_both, nor_left, nor_right, or_other, never, or_left, or_right, both, implies, decide, imply}
use Rattle.rules.proofs.Unique.{hit, ident_hit, bind_hit, count, one_each, params, params_of, shaped, me, only}
use Rattle.rules.proofs.Demand.{is_def, may_hold, has_def, kids_placed, placed, roots, Unique, module_uses, def_uses}
use Rattle.rules.proofs.Look.{look_so, look_all, case}
use Rattle.rules.specs.Runs.{Body, of_module, of_def, nobody, Reach, own}
use Rattle.rules.specs.Premises.{name_spots, distinct, names_apart}
use Rattle.tree.specs.Nodes.{holds_name}
use Rattle.rules.proofs.Flag.{good}
use Rattle.rules.proofs.Spots.{same_sound}

pick_out : (b x y : Bool) → (T x → ⊥) → T (pick b x y) → T y
pick_out true x y n t = absurd (n t)
pick_out false x y n t = t

pick_cases : (b x y : Bool) → T (pick b x y) → T b ⊎ T y
pick_cases true x y t = inl tt
pick_cases false x y t = inr t

between : (lo hi k : ℕ) → T (leb lo k && leb k hi) → (lo ≤ k) × (k ≤ hi)
between lo hi k t = (leb→le lo k (and_left (leb lo k) (leb k hi) t), leb→le k hi (and_right (leb lo k) (leb k hi) t))

-- what has a statement's kind has a statement's class (or none, kind 0)
pub low_class : (c k : ℕ) → T (in_class c k) → T (leb k 13) → T (leb c 1)
low_class c k t u = go (dec_lt 0 c)
  where
    m : k ≤ 13
    m = leb→le k 13 u

    away : (lo hi : ℕ) → 13 < lo → T (leb lo k && leb k hi) → ⊥
    away lo hi l t = let b = between lo hi k t in absurd (omega (arith, b.0, l, m))

    other : T (pick (eqb c 2) (leb 20 k && leb k 33)
        (pick (eqb c 3) (leb 40 k && leb k 42)
        (pick (eqb c 4) (leb 43 k && leb k 44)
        (pick (eqb c 5) (leb 45 k && leb k 46) (pick (eqb c 6) (eqb k 47) (eqb c 7 && eqb k 40)))))) → ⊥
    other t =
        let a = pick_out (eqb c 2) _ _ (away 20 33 (omega arith)) t in
        let b = pick_out (eqb c 3) _ _ (away 40 42 (omega arith)) a in
        let d = pick_out (eqb c 4) _ _ (away 43 44 (omega arith)) b in
        let e = pick_out (eqb c 5) _ _ (away 45 46 (omega arith)) d in
        let f = pick_out (eqb c 6) _ _ (λ z. let q = eqb→eq k 47 z in absurd (omega (arith, q, m))) e in
        let q = eqb→eq k 40 (and_right (eqb c 7) (eqb k 40) f) in
        absurd (omega (arith, q, m))

    one_or : T (eqb c 1) ⊎ T (pick (eqb c 2) (leb 20 k && leb k 33)
        (pick (eqb c 3) (leb 40 k && leb k 42)
        (pick (eqb c 4) (leb 43 k && leb k 44)
        (pick (eqb c 5) (leb 45 k && leb k 46) (pick (eqb c 6) (eqb k 47) (eqb c 7 && eqb k 40)))))) → T (leb c 1)
    one_or (inl e) = let q = eqb→eq c 1 e in le→leb c 1 (omega arith)
    one_or (inr z) = absurd (other z)

    go : Dec (0 < c) → T (leb c 1)
    go (yes l) = one_or (pick_cases (eqb c 1) (leb 1 k && leb k 13) _ (class_range c k l t))
    go (no l) = le→leb c 1 (omega arith)

-- statements stand only where a statement has them
stmt_slot : (z kind role : ℕ) → T (in_class (slot_of z role).class kind) → T (leb kind 13) → T (may_hold (look z forms Form.plain) role)
stmt_slot z kind role t u =
    subst (λ (x : ℕ). T (may_hold (look z forms Form.plain) x)) (slot_role z role)
    (implies (leb (slot_of z role).class 1) (may_hold (look z forms Form.plain) (slot_of z role).role)
    (slot_so (λ n s. not (leb s.class 1) || may_hold (look n forms Form.plain) s.role) tt z role tt)
    (low_class (slot_of z role).class kind t u))

def_stmt : (k : ℕ) → T (not (is_def (look k forms Form.plain)) || leb k 13)
def_stmt k = look_so (λ n z. not (is_def z) || leb n 13) k forms Form.plain tt tt

none_held : (k ρ : ℕ) → T (leb k 13 || not (may_hold (look k forms Form.plain) ρ))
none_held k ρ = look_so (λ n z. leb n 13 || not (may_hold z ρ)) k forms Form.plain tt (or_right (leb k 13) true tt)

-- no statement at the top of these
abbrev quiet : Forest → Bool
quiet leaf = true
quiet (node h k r) = not (leb h.kind 13) && quiet r

kids_quiet : (h : Head) (k : Forest) → T (not (leb h.kind 13)) → T (all_stand h.kind k) → T (quiet k)
kids_quiet h leaf n t = tt
kids_quiet h (node g j r) n t = both (not (leb g.kind 13)) (quiet r)
    (not_T (leb g.kind 13) (λ u. never (may_hold (form_of h) g.role)
    (stmt_slot h.kind g.kind g.role (stand_here h.kind g j r t) u)
    (or_other (leb h.kind 13) (not (may_hold (form_of h) g.role)) n (none_held h.kind g.role))))
    (kids_quiet h r n (stand_rest h.kind g j r t))

fits_stand : (h : Head) (k r : Forest) → T (fitting (node h k r)) → T (all_stand h.kind k)
fits_stand h k r t = fit_stand h.kind k (fits_here h k r t)

nor_three : (a b c : Bool) → T (not a) → T (not b) → T (not c) → T (not (a || (b || c)))
nor_three true b c p q r = p
nor_three false true c p q r = q
nor_three false false c p q r = r

not_def : (k : ℕ) → T (not (leb k 13)) → T (not (is_def (look k forms Form.plain)))
not_def k n = not_T (is_def (look k forms Form.plain))
    (λ d. never (leb k 13) (implies (is_def (look k forms Form.plain)) (leb k 13) (def_stmt k) d) n)

no_def : (f : Forest) → T (fitting f) → T (quiet f) → T (not (has_def f))
no_def leaf t q = tt
no_def (node h k r) t q = let n = and_left (not (leb h.kind 13)) (quiet r) q in
    nor_three (is_def (form_of h)) (has_def k) (has_def r) (not_def h.kind n)
    (no_def k (fits_kids h k r t) (kids_quiet h k n (fits_stand h k r t)))
    (no_def r (fits_rest h k r t) (and_right (not (leb h.kind 13)) (quiet r) q))

kid_placed : (h g : Head) (j r : Forest) → T (in_class (slot_of h.kind g.role).class g.kind) → T (fitting (node g j r))
    → T (leb g.kind 13) ⊎ T (not (leb g.kind 13)) → T (may_hold (form_of h) g.role || not (is_def (form_of g) || has_def j))
kid_placed h g j r t f (inl u) = or_left (may_hold (form_of h) g.role) (not (is_def (form_of g) || has_def j))
    (stmt_slot h.kind g.kind g.role t u)
kid_placed h g j r t f (inr n) = or_right (may_hold (form_of h) g.role) (not (is_def (form_of g) || has_def j))
    (nor_both (is_def (form_of g)) (has_def j) (not_def g.kind n)
    (no_def j (fits_kids g j r f) (kids_quiet g j n (fits_stand g j r f))))

all_placed : (h : Head) (k : Forest) → T (all_stand h.kind k) → T (fitting k) → T (kids_placed (form_of h) k)
all_placed h leaf t f = tt
all_placed h (node g j r) t f = both (may_hold (form_of h) g.role || not (is_def (form_of g) || has_def j)) (kids_placed (form_of h) r)
    (kid_placed h g j r (stand_here h.kind g j r t) f (decide (leb g.kind 13)))
    (all_placed h r (stand_rest h.kind g j r t) (fits_rest g j r f))

placed_of : (f : Forest) → T (fitting f) → T (placed f)
placed_of leaf t = tt
placed_of (node h k r) t = both (kids_placed (form_of h) k) (placed k && placed r)
    (all_placed h k (fits_stand h k r t) (fits_kids h k r t))
    (both (placed k) (placed r) (placed_of k (fits_kids h k r t)) (placed_of r (fits_rest h k r t)))

-- parameters
abbrev scoped : Form → Bool
scoped z = case z ((Form.def, true) ∷ (Form.lambda, true) ∷ []) false

p_one : (k : ℕ) → T (not (leb 43 k && leb k 44) || one_each (look k bindings nothing))
p_one k = look_so (λ n z. not (leb 43 n && leb n 44) || one_each z) k bindings nothing tt (or_right (not (leb 43 k && leb k 44)) true tt)

-- what stands in role 0 of a def or a lambda is a parameter (class 4)
slots_params : (z role : ℕ) → T (not (scoped (look z forms Form.plain))
    || (not (eqb 0 (slot_of z role).role) || (eqb (slot_of z role).class 4 || eqb (slot_of z role).class 9)))
slots_params z role =
    slot_so (λ n s. not (scoped (look n forms Form.plain)) || (not (eqb 0 s.role) || (eqb s.class 4 || eqb s.class 9))) tt z role
    (or_right (not (scoped (look z forms Form.plain))) (not (eqb 0 role) || true) (or_right (not (eqb 0 role)) true tt))

first_one : (z kind role : ℕ) → T (scoped (look z forms Form.plain)) → T (in_class (slot_of z role).class kind) → T (eqb 0 role)
    → T (one_each (look kind bindings nothing))
first_one z kind role o t u = go (or_cases (eqb (slot_of z role).class 4) (eqb (slot_of z role).class 9)
    (implies (eqb 0 (slot_of z role).role) (eqb (slot_of z role).class 4 || eqb (slot_of z role).class 9)
    (implies (scoped (look z forms Form.plain)) (not (eqb 0 (slot_of z role).role)
    || (eqb (slot_of z role).class 4 || eqb (slot_of z role).class 9))
    (slots_params z role) o) (subst (λ (x : ℕ). T (eqb 0 x)) (sym (slot_role z role)) u)))
  where
    as_class : (c : ℕ) → (slot_of z role).class ≡ c → 1 ≤ c → T (kinds c kind)
    as_class c e l = class_range c kind l (subst (λ (x : ℕ). T (in_class x kind)) e t)

    go : T (eqb (slot_of z role).class 4) ⊎ T (eqb (slot_of z role).class 9) → T (one_each (look kind bindings nothing))
    go (inl p) = implies (leb 43 kind && leb kind 44) (one_each (look kind bindings nothing)) (p_one kind)
        (as_class 4 (eqb→eq (slot_of z role).class 4 p) (omega arith))
    go (inr p) = absurd (as_class 9 (eqb→eq (slot_of z role).class 9 p) (omega arith))

params_fit : (z : ℕ) (k : Forest) → T (scoped (look z forms Form.plain)) → T (all_stand z k) → T (params k)
params_fit z leaf o t = tt
params_fit z (node g j r) o t = both (not (eqb 0 g.role) || one_each (bind_of g)) (params r)
    (imply (eqb 0 g.role) (one_each (bind_of g)) (first_one z g.kind g.role o (stand_here z g j r t)))
    (params_fit z r o (stand_rest z g j r t))

params_at : (z : Form) (k : Forest) → (T (scoped z) → T (params k)) → T (params_of z k)
params_at Form.breaking k f = tt
params_at Form.returning k f = tt
params_at Form.expression k f = tt
params_at Form.assign k f = tt
params_at Form.modify k f = tt
params_at Form.statements k f = tt
params_at Form.if k f = tt
params_at Form.if_else k f = tt
params_at Form.for k f = tt
params_at Form.def k f = f tt
params_at Form.load k f = tt
params_at Form.identifier k f = tt
params_at Form.lambda k f = f tt
params_at Form.comprehension k f = tt
params_at Form.plain k f = tt

shaped_of : (f : Forest) → T (fitting f) → T (shaped f)
shaped_of leaf t = tt
shaped_of (node h k r) t = both (params_of (form_of h) k) (shaped k && shaped r)
    (params_at (form_of h) k (λ s. params_fit h.kind k s (fits_stand h k r t)))
    (both (shaped k) (shaped r) (shaped_of k (fits_kids h k r t)) (shaped_of r (fits_rest h k r t)))

roots_of : (f : Forest) → T (root_fits f) → T (roots f)
unfolding root_fits
roots_of leaf t = absurd t
roots_of (node h k leaf) t = both (eqb 0 h.role) true
    (subst (λ (x : ℕ). T (eqb 0 x)) (sym (eqb→eq h.role 0 (and_right (eqb (class_of h.kind) 1) (eqb h.role 0) t))) tt) tt
roots_of (node h k (node g j r)) t = absurd t

-- how often a place stands in a list
abbrev occ : Spot → List Spot → ℕ
occ s [] = 0
occ s (p ∷ ps) = hit (same s p) + occ s ps

occ_append : (s : Spot) (ps qs : List Spot) → occ s (ps ++ qs) ≡ occ s ps + occ s qs
occ_append s [] qs = omega arith
occ_append s (p ∷ ps) qs = let e = occ_append s ps qs in omega arith

-- a node counts only where it holds a name
abbrev binding : ℕ → Bool
binding k = eqb k 40 || (eqb k 43 || eqb k 47)

ident_le : (s : Spot) (h : Head) → ident_hit (form_of h) s h ≤ only (eqb h.kind 20) (hit (same s h.spot))
ident_le s h = look_all (λ n z. ident_hit z s h ≤ only (eqb n 20) (hit (same s h.spot))) h.kind forms Form.plain (omega arith)
    (omega arith)

bind_le : (s : Spot) (h : Head) → bind_hit (bind_of h) s h ≤ only (binding h.kind) (hit (same s h.spot))
bind_le s h = look_all (λ n z. bind_hit z s h ≤ only (binding n) (hit (same s h.spot))) h.kind bindings nothing (omega arith)
    (omega arith)

once_le : (s p : Spot) (b c : Bool) → (T b → T c → ⊥)
    → only b (hit (same s p)) + only c (hit (same s p)) ≤ occ s (cond (b || c) (p ∷ []) [])
once_le s p true true n = absurd (n tt tt)
once_le s p true false n = omega arith
once_le s p false true n = omega arith
once_le s p false false n = omega arith

me_le : (s : Spot) (h : Head) → me s h ≤ occ s (cond (holds_name h.kind) (h.spot ∷ []) [])
me_le s h = let a = ident_le s h in let b = bind_le s h in
    let c = once_le s h.spot (eqb h.kind 20) (binding h.kind)
    (λ t u. subst (λ (x : ℕ). T (binding x)) (eqb→eq h.kind 20 t) u) in omega arith

count_le : (s : Spot) (f : Forest) → count s f ≤ occ s (name_spots f)
count_le s leaf = omega arith
count_le s (node h k r) = let a = count_le s k in let b = count_le s r in let c = me_le s h in
    let d = occ_append s (cond (holds_name h.kind) (h.spot ∷ []) []) (name_spots k ++ name_spots r) in let e =
    occ_append s (name_spots k) (name_spots r) in omega arith

same_swap : (s a b : Spot) → T (same s a) → T (same s b) → T (same a b)
same_swap s a b t u = subst (λ (x : Spot). T (same x b)) (same_sound s a t) u

hit_none : (b : Bool) → (T b → ⊥) → hit b ≤ 0
hit_none true n = absurd (n tt)
hit_none false n = omega arith

occ_none : (s p : Spot) (ps : List Spot) → T (same s p) → T (not (among p ps)) → occ s ps ≤ 0
occ_none s p [] t n = omega arith
occ_none s p (q ∷ ps) t n = let a = hit_none (same s q) (λ u. never (same p q) (same_swap s p q t u)
    (nor_left (same p q) (among p ps) n)) in let b = occ_none s p ps t (nor_right (same p q) (among p ps) n) in omega arith

hit_step : (b : Bool) (n : ℕ) → n ≤ 1 → (T b → n ≤ 0) → hit b + n ≤ 1
hit_step true n p f = let q : n ≤ 0 = f tt in omega arith
hit_step false n p f = omega arith

distinct_le : (s : Spot) (ps : List Spot) → T (distinct ps) → occ s ps ≤ 1
distinct_le s [] t = omega arith
distinct_le s (p ∷ ps) t = hit_step (same s p) (occ s ps) (distinct_le s ps (and_right (not (among p ps)) (distinct ps) t))
    (λ u. occ_none s p ps u (and_left (not (among p ps)) (distinct ps) t))

pub unique_of : (f : Forest) → T (names_apart f) → Unique f
unique_of f t s = let a = distinct_le s (name_spots f) t in let b = count_le s f in omega arith

-- DEMAND 3, the names half, of a valid tree in which no two nodes that hold a name share span and name:
-- a use of one of its own names that a run of a body reaches unset is in the names list under 4 or 6.
pub names_demand : (is_fail underscore : ℕ → Bool) (globals : Option (ℕ → Bool)) (f : Forest) → T (valid f) → T (names_apart f)
    → {b : Cmd} → Body is_fail f b → (g : Head) → Reach g b nobody → T (own g.spot.value b) → T (good g.spot (names underscore is_fail globals f))
names_demand is_fail underscore globals f v u of_module g r w =
    module_uses is_fail underscore globals f g (shaped_of f (valid_fits f v)) (unique_of f u) r w
names_demand is_fail underscore globals f v u (of_def {h = h} {k = k} n e) g r w =
    def_uses is_fail underscore globals f h k g (roots_of f (valid_root f v))
    (placed_of f (valid_fits f v)) (shaped_of f (valid_fits f v)) (unique_of f u) n e r w
