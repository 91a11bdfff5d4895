-- Demand 3, the names half, of trees.
use Prim.Native.Nat.{ℕ, ◌+◌, ◌≤◌}
use native.Mathlib.Omega.{arith}
use mathlib.Core.Path.{◌≡◌, sym, ◌∙◌, subst}
use mathlib.Core.Bool.{Bool, true, false, ◌&&◌, ◌||◌, not}
use mathlib.Core.List.{[], ◌∷◌}
use mathlib.Core.Logic.{◌⊎◌, inl, inr}
use mathlib.Core.Option.{Option}
use lib.Dec.{eqb, T, eqb→eq, eqb_refl, not_T}
use Rattle.tree.specs.Forest.{Spot, Head, Forest, Forest.none as leaf, node}
use Rattle.rules.specs.Visit.{look}
use Rattle.rules.specs.Order.{Form, forms, form_of, Cmd, skip, ◌⨟◌, use_of, set_of, stop, branch, loop, scope, of_role, picked, part, takes, binds, body, def_body}
use Rattle.rules.specs.Names.{names}
use Rattle.rules.proofs.Flag.{sets_at, inner_sets, Holds, this, into, first, second, left_side, right_side, looped, module_flagged, def_flagged, good}
use Rattle.rules.proofs.Bools.{or_cases, and_left, and_right, or_left, or_right}
use Rattle.rules.proofs.Unique.{count, tally, me, only, Use, AnySet, Inner, shaped, apart, use_tally, sets_tally, sets_count, part_set, binds_no_inner, binds_no_use, tally_le, shaped_kids, shaped_rest}
use Rattle.rules.specs.Runs.{Node, at, below, beside, Held, nobody, Reach, here, first as before, second as after, left, right, now, later, continued, own}
use Rattle.rules.proofs.Spots.{same_exact}
use Rattle.rules.proofs.Look.{case}

-- a run's use is a use of the part
reach_use : {g : Head} {c : Cmd} {σ : Held} → Reach g c σ → Use g.spot c
reach_use {g} (here n) = same_exact g.spot
reach_use (before r) = inl (reach_use r)
reach_use (after q r) = inr (reach_use r)
reach_use (left r) = inl (reach_use r)
reach_use (right r) = inr (reach_use r)
reach_use (now r) = reach_use r
reach_use (later q r) = reach_use r
reach_use (continued q r) = reach_use r

sum_map : {A B C D : Type 0} → (A → C) → (B → D) → A ⊎ B → C ⊎ D
sum_map f g (inl a) = inl (f a)
sum_map f g (inr b) = inr (g b)

sum_one : {A B C : Type 0} → (A → C) → (B → C) → A ⊎ B → C
sum_one f g (inl a) = f a
sum_one f g (inr b) = g b

any_of_sets : (s : Spot) (c : Cmd) → T (sets_at s c) → AnySet s c
any_of_sets s skip t = t
any_of_sets s (a ⨟ b) t = sum_map (any_of_sets s a) (any_of_sets s b) (or_cases (sets_at s a) (sets_at s b) t)
any_of_sets s (use_of u) t = t
any_of_sets s (set_of o u) t = t
any_of_sets s (stop w) t = t
any_of_sets s (branch a b) t = sum_map (any_of_sets s a) (any_of_sets s b) (or_cases (sets_at s a) (sets_at s b) t)
any_of_sets s (loop c) t = any_of_sets s c t
any_of_sets s (scope c) t = absurd t

any_of_inner : (s : Spot) (c : Cmd) → T (inner_sets s c) → AnySet s c
any_of_inner s skip t = t
any_of_inner s (a ⨟ b) t = sum_map (any_of_inner s a) (any_of_inner s b) (or_cases (inner_sets s a) (inner_sets s b) t)
any_of_inner s (use_of u) t = t
any_of_inner s (set_of o u) t = absurd t
any_of_inner s (stop w) t = t
any_of_inner s (branch a b) t = sum_map (any_of_inner s a) (any_of_inner s b) (or_cases (inner_sets s a) (inner_sets s b) t)
any_of_inner s (loop c) t = any_of_inner s c t
any_of_inner s (scope c) t = sum_one (any_of_sets s c) (any_of_inner s c) (or_cases (sets_at s c) (inner_sets s c) t)

inner_of : (s : Spot) (c : Cmd) → T (inner_sets s c) → Inner s c
inner_of s skip t = t
inner_of s (a ⨟ b) t = sum_map (inner_of s a) (inner_of s b) (or_cases (inner_sets s a) (inner_sets s b) t)
inner_of s (use_of u) t = t
inner_of s (set_of o u) t = t
inner_of s (stop w) t = t
inner_of s (branch a b) t = sum_map (inner_of s a) (inner_of s b) (or_cases (inner_sets s a) (inner_sets s b) t)
inner_of s (loop c) t = inner_of s c t
inner_of s (scope c) t = sum_one (any_of_sets s c) (any_of_inner s c) (or_cases (sets_at s c) (inner_sets s c) t)

-- No two nodes that hold a name share span and name.
abbrev pub Unique : Forest → Type 0
Unique f = (s : Spot) → count s f ≤ 1

-- THE MODULE: a use of one of its own names that a run reaches unset is in the names list under 4 or 6.
pub module_uses : (is_fail underscore : ℕ → Bool) (globals : Option (ℕ → Bool)) (f : Forest) (g : Head) → T (shaped f) → Unique f
    → Reach g (body is_fail f) nobody → T (own g.spot.value (body is_fail f)) → T (good g.spot (names underscore is_fail globals f))
module_uses is_fail underscore globals f g o u r w = module_flagged underscore globals (body is_fail f) g
    (not_T (inner_sets g.spot (body is_fail f)) (λ t. apart is_fail g.spot 0 f o (u g.spot) (reach_use r) (inner_of g.spot (body is_fail f) t))) r w

-- where defs may stand
abbrev pub is_def : Form → Bool
is_def z = case z ((Form.def, true) ∷ []) false

abbrev pub may_hold : Form → ℕ → Bool
may_hold z ρ = case z ((Form.statements, eqb 0 ρ) ∷ (Form.if, eqb 1 ρ) ∷ (Form.if_else, eqb 1 ρ || eqb 2 ρ) ∷ (Form.for, eqb 1 ρ)
    ∷ (Form.def, eqb 1 ρ) ∷ []) false

abbrev pub has_def : Forest → Bool
has_def leaf = false
has_def (node h k r) = is_def (form_of h) || (has_def k || has_def r)

abbrev pub kids_placed : Form → Forest → Bool
kids_placed z leaf = true
kids_placed z (node h k r) = (may_hold z h.role || not (is_def (form_of h) || has_def k)) && kids_placed z r

abbrev pub placed : Forest → Bool
placed leaf = true
placed (node h k r) = kids_placed (form_of h) k && (placed k && placed r)

abbrev pub roots : Forest → Bool
roots leaf = true
roots (node h k r) = eqb 0 h.role && roots r

-- a node's place, with the role of the topmost node above it
data Way (h : Head) (k : Forest) : ℕ → Forest → Type 0 where
  way_at : {r : Forest} → Way h k h.role (node h k r)
  way_below : {ρ : ℕ} {g : Head} {j r : Forest} → Way h k ρ j → Way h k g.role (node g j r)
  way_beside : {ρ : ℕ} {g : Head} {j r : Forest} → Way h k ρ r → Way h k ρ (node g j r)

way_of : {h : Head} {k f : Forest} → Node h k f → (ρ : ℕ) × Way h k ρ f
way_of {h} at = (h.role, way_at)
way_of (below {g = g} n) = (g.role, way_below (way_of n).1)
way_of (beside n) = let w = way_of n in (w.0, way_beside w.1)

way_root : {h : Head} {k f : Forest} {ρ : ℕ} → Way h k ρ f → T (roots f) → 0 ≡ ρ
way_root {h} (way_at {r = r}) t = eqb→eq 0 h.role (and_left (eqb 0 h.role) (roots r) t)
way_root (way_below {g = g} {r = r} w) t = eqb→eq 0 g.role (and_left (eqb 0 g.role) (roots r) t)
way_root (way_beside {g = g} {r = r} w) t = way_root w (and_right (eqb 0 g.role) (roots r) t)

only_true : (b : Bool) (n : ℕ) → T b → n ≤ only b n
only_true true n t = omega arith
only_true false n t = absurd t

way_tally : {h : Head} {k f : Forest} {ρ : ℕ} (s : Spot) → Way h k ρ f → count s k ≤ tally s ρ f
way_tally {h} {k} s way_at = let p = only_true (eqb h.role h.role) (me s h + count s k) (eqb_refl h.role) in omega arith
way_tally s (way_below {ρ = ρ} {g = g} {j = j} w) = let a = way_tally s w in let b = tally_le s ρ j in let p =
    only_true (eqb g.role g.role) (me s g + count s j) (eqb_refl g.role) in omega arith
way_tally s (way_beside w) = let a = way_tally s w in omega arith

way_def : {h : Head} {k f : Forest} {ρ : ℕ} → Way h k ρ f → T (is_def (form_of h)) → T (has_def f)
way_def {h} {k} (way_at {r = r}) d = or_left (is_def (form_of h)) (has_def k || has_def r) d
way_def (way_below {g = g} {j = j} {r = r} w) d =
    or_right (is_def (form_of g)) (has_def j || has_def r) (or_left (has_def j) (has_def r) (way_def w d))
way_def (way_beside {g = g} {j = j} {r = r} w) d =
    or_right (is_def (form_of g)) (has_def j || has_def r) (or_right (has_def j) (has_def r) (way_def w d))

or_not : (a b : Bool) → T (a || not b) → T b → T a
or_not true b t u = tt
or_not false true t u = t
or_not false false t u = u

way_held : {h : Head} {k f : Forest} {ρ : ℕ} (z : Form) → Way h k ρ f → T (is_def (form_of h)) → T (kids_placed z f) → T (may_hold z ρ)
way_held {h} {k} z (way_at {r = r}) d t = or_not (may_hold z h.role) (is_def (form_of h) || has_def k)
    (and_left (may_hold z h.role || not (is_def (form_of h) || has_def k)) (kids_placed z r) t)
    (or_left (is_def (form_of h)) (has_def k) d)
way_held z (way_below {g = g} {j = j} {r = r} w) d t =
    or_not (may_hold z g.role) (is_def (form_of g) || has_def j)
    (and_left (may_hold z g.role || not (is_def (form_of g) || has_def j)) (kids_placed z r) t)
    (or_right (is_def (form_of g)) (has_def j) (way_def w d))
way_held z (way_beside {g = g} {j = j} {r = r} w) d t =
    way_held z w d (and_right (may_hold z g.role || not (is_def (form_of g) || has_def j)) (kids_placed z r) t)

-- two roles share no place
two_only : (a b : Bool) (n : ℕ) → (T a → T b → ⊥) → only a n + only b n ≤ n
two_only true true n x = absurd (x tt tt)
two_only true false n x = omega arith
two_only false true n x = omega arith
two_only false false n x = omega arith

two_tally : (s : Spot) (a b : ℕ) (f : Forest) → (a ≡ b → ⊥) → tally s a f + tally s b f ≤ count s f
two_tally s a b leaf x = omega arith
two_tally s a b (node h k r) x = let p = two_tally s a b r x in
    let q = two_only (eqb a h.role) (eqb b h.role) (me s h + count s k)
    (λ y z. x (eqb→eq a h.role y ∙ sym (eqb→eq b h.role z))) in omega arith

first_if : (s : Spot) (b : Cmd) (t : Bool) (X Y : Cmd) → T t → Holds s b X → Holds s b (picked t X Y)
first_if s b true X Y t h = first h
first_if s b false X Y t h = absurd t

rest_if : (s : Spot) (b : Cmd) (t : Bool) (X Y : Cmd) → T (not (inner_sets s X)) → Holds s b Y → Holds s b (picked t X Y)
rest_if s b true X Y c h = second c h
rest_if s b false X Y c h = h

module _ (is_fail : ℕ → Bool) (s : Spot) where
  -- nothing else of the list sets at a place that stands in a child of the role ρ
  clear : (a ρ : ℕ) (f : Forest) → (a ≡ ρ → ⊥) → count s f ≤ 1 → 1 ≤ tally s ρ f → T (not (inner_sets s (takes is_fail (of_role a) f)))
  clear a ρ f x u t = not_T (inner_sets s (takes is_fail (of_role a) f))
      (λ i. let p = sets_tally is_fail s a f (any_of_inner s (takes is_fail (of_role a) f) i) in let q = two_tally s a ρ f x in omega arith)

  clear_binds : (a : ℕ) (f : Forest) → T (not (inner_sets s (binds a f)))
  clear_binds a f = not_T (inner_sets s (binds a f)) (λ i. binds_no_inner s a f (inner_of s (binds a f) i))

  both_clear : (a b : Cmd) → T (not (inner_sets s a)) → T (not (inner_sets s b)) → T (not (inner_sets s (a ⨟ b)))
  both_clear a b p q = go (inner_sets s a) (inner_sets s b) p q
    where
      go : (x y : Bool) → T (not x) → T (not y) → T (not (x || y))
      go true y p q = p
      go false y p q = q

  -- the def itself
  def_holds : (h : Head) (k : Forest) → T (shaped k) → count s k ≤ 1 → Use s (takes is_fail (of_role 1) k)
      → Holds s (def_body is_fail k) (part is_fail Form.def h k (λ v. takes is_fail v k))
  def_holds h k o u p = let t : 1 ≤ tally s 1 k = use_tally is_fail s 1 k p in
      second (clear 0 1 k (λ e. omega arith) u t) (second (clear 3 1 k (λ e. omega arith) u t) (second (clear_binds 6 k)
      (this (both_clear (binds 0 k) (takes is_fail (of_role 1) k) (clear_binds 0 k)
      (not_T (inner_sets s (takes is_fail (of_role 1) k))
      (λ i. apart is_fail s 1 k o u p (inner_of s (takes is_fail (of_role 1) k) i)))))))

  at_role : (b : Cmd) (a ρ : ℕ) (j : Forest) → T (eqb a ρ) → Holds s b (takes is_fail (of_role ρ) j)
      → Holds s b (takes is_fail (of_role a) j)
  at_role b a ρ j t h = subst (λ (x : ℕ). Holds s b (takes is_fail (of_role x) j)) (sym (eqb→eq a ρ t)) h

  at_tally : (a ρ : ℕ) (j : Forest) → T (eqb a ρ) → 1 ≤ tally s ρ j → 1 ≤ tally s a j
  at_tally a ρ j t h = subst (λ (x : ℕ). 1 ≤ tally s x j) (sym (eqb→eq a ρ t)) h

  -- a statement that holds the def in a child of the role ρ
  part_holds : (z : Form) (g : Head) (j : Forest) (b : Cmd) (ρ : ℕ) → T (may_hold z ρ) → count s j ≤ 1 → 1 ≤ tally s ρ j
      → Holds s b (takes is_fail (of_role ρ) j) → Holds s b (part is_fail z g j (λ v. takes is_fail v j))
  part_holds Form.statements g j b ρ t u n h = at_role b 0 ρ j t h
  part_holds Form.if g j b ρ t u n h = second (clear 4 1 j (λ e. omega arith) u (at_tally 1 ρ j t n)) (left_side (at_role b 1 ρ j t h))
  part_holds Form.if_else g j b ρ t u n h = go (or_cases (eqb 1 ρ) (eqb 2 ρ) t)
    where
      go : T (eqb 1 ρ) ⊎ T (eqb 2 ρ) → Holds s b (part is_fail Form.if_else g j (λ v. takes is_fail v j))
      go (inl e) = second (clear 4 1 j (λ x. omega arith) u (at_tally 1 ρ j e n)) (left_side (at_role b 1 ρ j e h))
      go (inr e) = second (clear 4 2 j (λ x. omega arith) u (at_tally 2 ρ j e n))
          (right_side (clear 1 2 j (λ x. omega arith) u (at_tally 2 ρ j e n)) (at_role b 2 ρ j e h))
  part_holds Form.for g j b ρ t u n h = let m = at_tally 1 ρ j t n in
      second (clear 4 1 j (λ e. omega arith) u m)
      (looped (second (clear 5 1 j (λ e. omega arith) u m) (second (clear_binds 5 j) (at_role b 1 ρ j t h))))
  part_holds Form.def g j b ρ t u n h = let m = at_tally 1 ρ j t n in
      second (clear 0 1 j (λ e. omega arith) u m)
      (second (clear 3 1 j (λ e. omega arith) u m) (second (clear_binds 6 j) (into (second (clear_binds 0 j) (at_role b 1 ρ j t h)))))
  part_holds Form.breaking g j b ρ t u n h = absurd t
  part_holds Form.returning g j b ρ t u n h = absurd t
  part_holds Form.expression g j b ρ t u n h = absurd t
  part_holds Form.assign g j b ρ t u n h = absurd t
  part_holds Form.modify g j b ρ t u n h = absurd t
  part_holds Form.load g j b ρ t u n h = absurd t
  part_holds Form.identifier g j b ρ t u n h = absurd t
  part_holds Form.lambda g j b ρ t u n h = absurd t
  part_holds Form.comprehension g j b ρ t u n h = absurd t
  part_holds Form.plain g j b ρ t u n h = absurd t

  way_holds : {h : Head} {k f : Forest} {ρ : ℕ} → Way h k ρ f → h.kind ≡ 12 → T (placed f) → T (shaped f) → count s f ≤ 1
      → Use s (takes is_fail (of_role 1) k) → Holds s (def_body is_fail k) (takes is_fail (of_role ρ) f)
  way_holds {h} {k} (way_at {r = r}) e d o u p =
      first_if s (def_body is_fail k) (eqb h.role h.role) (part is_fail (form_of h) h k (λ v. takes is_fail v k))
      (takes is_fail (of_role h.role) r) (eqb_refl h.role)
      (subst (λ (x : ℕ). Holds s (def_body is_fail k) (part is_fail (look x forms Form.plain) h k (λ v. takes is_fail v k))) (sym e)
      (def_holds h k (shaped_kids h k r o) (omega arith) p))
  way_holds {h} {k} (way_below {ρ = ρ} {g = g} {j = j} {r = r} w) e d o u p =
      let n : 1 ≤ tally s 1 k = use_tally is_fail s 1 k p in let a = tally_le s 1 k in let c = way_tally s w in
      first_if s (def_body is_fail k) (eqb g.role g.role) (part is_fail (form_of g) g j (λ v. takes is_fail v j))
      (takes is_fail (of_role g.role) r) (eqb_refl g.role)
      (part_holds (form_of g) g j (def_body is_fail k) ρ
      (way_held (form_of g) w (subst (λ (x : ℕ). T (is_def (look x forms Form.plain))) (sym e) tt)
      (and_left (kids_placed (form_of g) j) (placed j && placed r) d))
      (omega arith) (omega arith)
      (way_holds w e (and_left (placed j) (placed r) (and_right (kids_placed (form_of g) j) (placed j && placed r) d))
      (shaped_kids g j r o) (omega arith) p))
  way_holds {h} {k} (way_beside {ρ = ρ} {g = g} {j = j} {r = r} w) e d o u p =
      let n : 1 ≤ tally s 1 k = use_tally is_fail s 1 k p in let a = tally_le s 1 k in let c = way_tally s w in let y = tally_le s ρ r in
      rest_if s (def_body is_fail k) (eqb ρ g.role) (part is_fail (form_of g) g j (λ v. takes is_fail v j)) (takes is_fail (of_role ρ) r)
      (not_T (inner_sets s (part is_fail (form_of g) g j (λ v. takes is_fail v j)))
      (λ i. let q = part_set is_fail s (form_of g) g j (λ v. sets_count is_fail s v j)
      (any_of_inner s (part is_fail (form_of g) g j (λ v. takes is_fail v j)) i) in omega arith))
      (way_holds w e (and_right (placed j) (placed r) (and_right (kids_placed (form_of g) j) (placed j && placed r) d))
      (shaped_rest g j r o) (omega arith) p)

-- A DEF, anywhere in the tree: the same of its body.
pub def_uses : (is_fail underscore : ℕ → Bool) (globals : Option (ℕ → Bool)) (f : Forest) (h : Head) (k : Forest) (g : Head) → T (roots f)
    → T (placed f) → T (shaped f) → Unique f
    → Node h k f → h.kind ≡ 12 → Reach g (def_body is_fail k) nobody → T (own g.spot.value (def_body is_fail k))
    → T (good g.spot (names underscore is_fail globals f))
def_uses is_fail underscore globals f h k g z d o u n e r w = def_flagged underscore globals (body is_fail f) (def_body is_fail k) g
    (subst (λ (x : ℕ). Holds g.spot (def_body is_fail k) (takes is_fail (of_role x) f)) (sym (way_root (way_of n).1 z))
    (way_holds is_fail g.spot (way_of n).1 e d o (u g.spot) (in_body (reach_use r)))) r w
  where
    in_body : Use g.spot (def_body is_fail k) → Use g.spot (takes is_fail (of_role 1) k)
    in_body (inl p) = absurd (binds_no_use g.spot 0 k p)
    in_body (inr p) = p
