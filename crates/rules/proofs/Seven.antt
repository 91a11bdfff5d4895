-- Of a valid tree: no assign-modify stands in another, so that the walk with marks holds at most seven times the nodes as unbound uses.
use Prim.Native.Nat.{ℕ, ◌*◌, ◌≤◌}
use native.Mathlib.Omega.{arith}
use mathlib.Core.Path.{◌≡◌, refl, sym, subst}
use mathlib.Core.Bool.{Bool, true, false, ◌||◌, ◌&&◌, not}
use mathlib.Core.List.{[], ◌∷◌}
use lib.Dec.{eqb, leb, T, eqb→eq, T_not, not_T}
use Rattle.tree.specs.Forest.{Forest, Forest.none as leaf, node}
use Rattle.rules.specs.Visit.{look}
use Rattle.rules.specs.Order.{Form, forms, form_of, body}
use Rattle.rules.proofs.Out.{out_nodes}
use lib.ListN.{length}
use Rattle.rules.proofs.Bools.{or_left, or_right, and_left, and_right, both, implies}
use Rattle.tree.specs.Children.{slot_of, all_stand}
use Rattle.tree.specs.code.Shape.{fitting, valid}
use Rattle.tree.proofs.Classes.{slot_so}
use Rattle.tree.proofs.Shape.{valid_fits, fits_here, fits_kids, fits_rest, fit_stand, stand_here, stand_rest}
use Rattle.rules.proofs.Look.{look_so, case}
use Rattle.rules.proofs.Valid.{low_class}
use Rattle.rules.specs.code.Marks.{House, total, start, Every, settings_in, cant_in, unbound_in, nodes}
use Rattle.rules.proofs.Bounds.{every_both}
use Rattle.rules.proofs.Nodes.{entries_nodes, cant_nodes}
use Rattle.rules.proofs.Ways.{modified, modifies, unbound_seven}

abbrev is_modify : Form → Bool
is_modify z = case z ((Form.modify, true) ∷ []) false

only_modify : (y : Form) (n : ℕ) → (T (is_modify y) → n ≤ 0) → n ≤ 1 → modified y n ≤ 1
only_modify Form.breaking n f p = p
only_modify Form.returning n f p = p
only_modify Form.expression n f p = p
only_modify Form.assign n f p = p
only_modify Form.modify n f p = let q : n ≤ 0 = f tt in omega arith
only_modify Form.statements n f p = p
only_modify Form.if n f p = p
only_modify Form.if_else n f p = p
only_modify Form.for n f p = p
only_modify Form.def n f p = p
only_modify Form.load n f p = p
only_modify Form.identifier n f p = p
only_modify Form.lambda n f p = p
only_modify Form.comprehension n f p = p
only_modify Form.plain n f p = p

not_modify : (y : Form) (n : ℕ) → T (not (is_modify y)) → modified y n ≡ n
not_modify Form.breaking n t = refl
not_modify Form.returning n t = refl
not_modify Form.expression n t = refl
not_modify Form.assign n t = refl
not_modify Form.modify n t = absurd t
not_modify Form.statements n t = refl
not_modify Form.if n t = refl
not_modify Form.if_else n t = refl
not_modify Form.for n t = refl
not_modify Form.def n t = refl
not_modify Form.load n t = refl
not_modify Form.identifier n t = refl
not_modify Form.lambda n t = refl
not_modify Form.comprehension n t = refl
not_modify Form.plain n t = refl

-- no statement stands below an assign-modify, nor below what is no statement
abbrev free : ℕ → Bool
free k = not (leb k 13) || eqb 7 k

or_true : (a : Bool) → T (a || true)
or_true a = or_right a true tt

free_slots : (k r : ℕ) → T (free k) → T (not (leb (slot_of k r).class 1))
free_slots k r t = implies (free k) (not (leb (slot_of k r).class 1))
    (slot_so (λ n s. not (free n) || not (leb s.class 1)) tt k r (or_true (not (free k)))) t

modify_kind : (k : ℕ) → T (is_modify (look k forms Form.plain)) → T (eqb 7 k)
modify_kind k t = implies (is_modify (look k forms Form.plain)) (eqb 7 k)
    (look_so (λ n y. not (is_modify y) || eqb 7 n) k forms Form.plain tt tt) t

abbrev off : Forest → Bool
off leaf = true
off (node h k r) = not (leb h.kind 13) && off r

kids_off : (z : ℕ) (k : Forest) → T (free z) → T (all_stand z k) → T (off k)
kids_off z leaf o t = tt
kids_off z (node h k r) o t = both (not (leb h.kind 13)) (off r)
    (not_T (leb h.kind 13) (λ u. T_not (leb (slot_of z h.role).class 1) (free_slots z h.role o)
    (low_class (slot_of z h.role).class h.kind (stand_here z h k r t) u)))
    (kids_off z r o (stand_rest z h k r t))

seven_no : (k : ℕ) → T (not (leb k 13)) → T (not (is_modify (look k forms Form.plain)))
seven_no k t = not_T (is_modify (look k forms Form.plain))
    (λ u. T_not (leb 7 13) (subst (λ (n : ℕ). T (not (leb n 13))) (sym (eqb→eq 7 k (modify_kind k u))) t) tt)

below : (x : Forest) → T (off x) → T (fitting x) → modifies x ≤ 0
below leaf o t = omega arith
below (node h k r) o t =
    let n : T (not (leb h.kind 13)) = and_left (not (leb h.kind 13)) (off r) o in
    let s = fit_stand h.kind k (fits_here h k r t) in
    let a : modifies k ≤ 0
    = below k (kids_off h.kind k (or_left (not (leb h.kind 13)) (eqb 7 h.kind) n) s) (fits_kids h k r t) in
    let b : modifies r ≤ 0 = below r (and_right (not (leb h.kind 13)) (off r) o) (fits_rest h k r t) in
    let e : modified (form_of h) (modifies k) ≡ modifies k = not_modify (form_of h) (modifies k) (seven_no h.kind n) in
    omega (arith, a, b, e)

pub one_deep : (x : Forest) → T (fitting x) → modifies x ≤ 1
one_deep leaf t = omega arith
one_deep (node h k r) t =
    let s = fit_stand h.kind k (fits_here h k r t) in
    let a : modifies k ≤ 1 = one_deep k (fits_kids h k r t) in
    let b : modifies r ≤ 1 = one_deep r (fits_rest h k r t) in
    let e : modified (form_of h) (modifies k) ≤ 1
    = only_modify (form_of h) (modifies k)
    (λ u. below k (kids_off h.kind k (or_right (not (leb h.kind 13)) (eqb 7 h.kind) (modify_kind h.kind u)) s)
    (fits_kids h k r t)) a in
    omega (arith, a, b, e)

-- THE BOUND: of a valid tree, at every moment and over all open scopes together, at most 7 unbound uses for each node (Peak has a tree that comes to 7 for each of its uses)
pub valid_seven : (u is_fail : ℕ → Bool) (x : Forest) → T (valid x)
    → Every u (λ m. total unbound_in m ≤ 7 * nodes x) 0 (body is_fail x) start
valid_seven u is_fail x v = unbound_seven u is_fail x (one_deep x (valid_fits x v))

-- all four at once: what an engine needs to know of its room
abbrev pub Capacity : Forest → House → Type 0
Capacity x m =
    (total settings_in m ≤ nodes x)
    × ((total cant_in m ≤ nodes x) × ((total unbound_in m ≤ 7 * nodes x) × (length m.out ≤ nodes x)))

pub capacity : (u is_fail : ℕ → Bool) (x : Forest) → T (valid x) → Every u (Capacity x) 0 (body is_fail x) start
capacity u is_fail x v =
    every_both u (λ m. total settings_in m ≤ nodes x)
    (λ m. (total cant_in m ≤ nodes x) × ((total unbound_in m ≤ 7 * nodes x) × (length m.out ≤ nodes x)))
    (body is_fail x) 0 start (entries_nodes u is_fail x)
    (every_both u (λ m. total cant_in m ≤ nodes x) (λ m. (total unbound_in m ≤ 7 * nodes x) × (length m.out ≤ nodes x))
    (body is_fail x) 0 start (cant_nodes u is_fail x)
    (every_both u (λ m. total unbound_in m ≤ 7 * nodes x) (λ m. length m.out ≤ nodes x)
    (body is_fail x) 0 start (valid_seven u is_fail x v) (out_nodes u is_fail x)))
