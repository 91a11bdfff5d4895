-- Demand 3, the flow half: a def that wants a value, and whose run reaches its end or a bare return, is in the flow list.
use Prim.Native.Nat.{ℕ}
use mathlib.Core.Path.{◌≡◌, refl, sym, ap, subst}
use mathlib.Core.Bool.{Bool, true, false, cond, ◌&&◌, not}
use mathlib.Core.List.Memᴰ
use mathlib.Core.List.{List, [], ◌∷◌, ◌++◌, Memᴰ}
use mathlib.Core.Logic.{◌⊎◌, inl, inr}
use mathlib.Core.Option.{Option, some}
use lib.Dec.{eqb, T, eqb→eq}
use Rattle.tree.specs.Forest.{Spot, Head, Forest, Forest.none as leaf, node}
use Rattle.rules.specs.Visit.{look, has, last_of, spot_at}
use Rattle.rules.specs.Order.{Form, forms, form_of, fail_called, Stop, Cmd, breaks, bare, valued, fails, skip, ◌⨟◌, use_of, set_of, stop, branch, loop, scope, Want, of_role, every, first_over, first_bound, clauses, picked, part, takes, binds, uses, def_body, Bind, one, several, nothing, bind_of, bind_part, use_part}
use Rattle.rules.specs.Record.{Rec, listed}
use Rattle.rules.specs.Flow.{Return, Which, everything, the_body, the_rest, wanted, returns_part, returns, ends_part, ends, reason, bare_recs, missing, check_for, check, returns_walk, flow, reached, redundant_walk, below_root, loads, effect_walk, only, missing_expression}
use Rattle.rules.proofs.Bools.{and_left, and_right}
use Rattle.rules.proofs.Look.{case, look_with, look_none, fewer}
use Rattle.rules.specs.Runs.{Node, at, below, beside, Held, nobody, through, by, Run, skips, next, cut, uses as used, sets, returns as returned, left, right, done, round, continues, out, away, apart}

-- where a part can be come through
abbrev Through : Cmd → Type 0
Through skip = Unit {0}
Through (a ⨟ b) = Through a × Through b
Through (use_of s) = Unit {0}
Through (set_of o s) = Unit {0}
Through (stop w) = ⊥
Through (branch a b) = Through a ⊎ Through b
Through (loop c) = Unit {0}
Through (scope c) = Unit {0}

run_through : {c : Cmd} {σ τ : Held} → Run c σ through τ → Through c
run_through skips = tt
run_through (next r q) = (run_through r, run_through q)
run_through used = tt
run_through sets = tt
run_through (left r) = inl (run_through r)
run_through (right r) = inr (run_through r)
run_through done = tt
run_through (round r q) = tt
run_through (continues r q) = tt
run_through (out r) = tt
run_through apart = tt

-- where a part can be left by the bare return at t
abbrev Bares : Head → Stop → Type 0
Bares t (breaks b) = ⊥
Bares t (bare s) = t ≡ s
Bares t valued = ⊥
Bares t fails = ⊥

abbrev By : Head → Cmd → Type 0
By t skip = ⊥
By t (a ⨟ b) = By t a ⊎ By t b
By t (use_of s) = ⊥
By t (set_of o s) = ⊥
By t (stop w) = Bares t w
By t (branch a b) = By t a ⊎ By t b
By t (loop c) = By t c
By t (scope c) = ⊥

run_by : {c : Cmd} {σ τ : Held} {t : Head} → Run c σ (by (bare t)) τ → By t c
run_by (next r q) = inr (run_by q)
run_by (cut r) = inl (run_by r)
run_by (returned w) = refl
run_by (left r) = inl (run_by r)
run_by (right r) = inr (run_by r)
run_by (round r q) = run_by q
run_by (continues r q) = run_by q
run_by (away w r) = run_by r

-- setting names stops nothing
picked_by : (t : Head) (b : Bool) (X Y : Cmd) → (By t X → ⊥) → (By t Y → ⊥) → By t (picked b X Y) → ⊥
picked_by t false X Y p q h = q h
picked_by t true X Y p q (inl h) = p h
picked_by t true X Y p q (inr h) = q h

bind_by : (t : Head) (z : Bind) (h : Head) (down : ℕ → Cmd) → (By t (down 0) → ⊥) → By t (bind_part z h down) → ⊥
bind_by t (one o) h down k p = p
bind_by t several h down k p = k p
bind_by t nothing h down k p = p

no_by_binds : (t : Head) (r : ℕ) (f : Forest) → By t (binds r f) → ⊥
no_by_binds t r leaf p = p
no_by_binds t r (node h k s) p = picked_by t (eqb r h.role) (bind_part (bind_of h) h (λ v. binds v k)) (binds r s)
    (bind_by t (bind_of h) h (λ v. binds v k) (no_by_binds t 0 k)) (no_by_binds t r s) p

use_by : (t : Head) (z : Bind) (h : Head) (down : ℕ → Cmd) → (By t (down 0) → ⊥) → By t (use_part z h down) → ⊥
use_by t (one o) h down k p = p
use_by t several h down k p = k p
use_by t nothing h down k p = p

no_by_uses : (t : Head) (r : ℕ) (f : Forest) → By t (uses r f) → ⊥
no_by_uses t r leaf p = p
no_by_uses t r (node h k s) p = picked_by t (eqb r h.role) (use_part (bind_of h) h (λ v. uses v k)) (uses r s)
    (use_by t (bind_of h) h (λ v. uses v k) (no_by_uses t 0 k)) (no_by_uses t r s) p

last_through : (b m here on : Bool) (X Y : Cmd) → (T here → Through X → ⊥) → (T on → Through Y → ⊥) → T (last_of b m here on)
    → Through (picked b X Y) → ⊥
last_through false m here on X Y p q t r = q t r
last_through true true here on X Y p q t r = q t r.1
last_through true false here on X Y p q t r = p t r.0

no_fail : (b : Bool) → T b → Through (cond b (stop fails) skip) → ⊥
no_fail true t p = p
no_fail false t p = t

-- a bare return at t is among these
abbrev BareIn : Head → List Return → Type 0
BareIn t rs = Memᴰ (record { head = t; valued = false }) rs

-- the nodes that are visited are among those whose returns are listed
data Cover : Want → Which → Type 0 where
  all_covered : {w : Want} → Cover w everything
  role_covered : {r : ℕ} {v : Which} → ((x : ℕ) → T (eqb r x) → T (wanted v x)) → Cover (of_role r) v

covers : {r : ℕ} {v : Which} → Cover (of_role r) v → (x : ℕ) → T (eqb r x) → T (wanted v x)
covers all_covered x t = tt
covers (role_covered f) x t = f x t

covers_rest : (r : ℕ) → T (not (eqb 1 r)) → Cover (of_role r) the_rest
covers_rest r h = role_covered (λ x t. subst (λ (y : ℕ). T (not (eqb 1 y))) (eqb→eq r x t) h)

listed_on : (t : Head) (u : Bool) (A B : List Return) → BareIn t B → BareIn t (listed u A B)
listed_on t true A B m = Memᴰ.append_right A m
listed_on t false A B m = m

listed_in : (t : Head) (u : Bool) (A B : List Return) → T u → BareIn t A → BareIn t (listed u A B)
listed_in t true A B h m = Memᴰ.append_left B m
listed_in t false A B h m = absurd h

pick_found : (t : Head) (b u : Bool) (X Y : Cmd) (A B : List Return) → (T b → T u) → (By t X → BareIn t A) → (By t Y → BareIn t B)
    → By t (picked b X Y) → BareIn t (listed u A B)
pick_found t false u X Y A B h p q r = listed_on t u A B (q r)
pick_found t true u X Y A B h p q (inl r) = listed_in t u A B (h tt) (p r)
pick_found t true u X Y A B h p q (inr r) = listed_on t u A B (q r)

bare_here : (t s : Head) (b : Bool) (rs : List Return) → Bares t (cond b valued (bare s)) → BareIn t (record { head = s; valued = b } ∷ rs)
bare_here t s true rs p = absurd p
bare_here t s false rs p = Memᴰ.head (ap (λ (z : Head). record { head = z; valued = false }) p)

no_by_cond : (t : Head) (b : Bool) → By t (cond b (stop fails) skip) → ⊥
no_by_cond t true p = p
no_by_cond t false p = p

-- what a node's form says of the two, for the walk goes by forms
abbrev returns_form : Form → Head → Forest → (Which → List Return) → List Return
returns_form z h k down = case z ((Form.returning, record { head = h; valued = has 4 k } ∷ down everything) ∷ (Form.def, down the_rest) ∷ []) (down everything)

abbrev ends_form : (ℕ → Bool) → Form → Forest → (ℕ → Bool) → Bool
ends_form is_fail z k down = case z ((Form.returning, true) ∷ (Form.expression, fail_called is_fail k) ∷ (Form.statements, down 0)
    ∷ (Form.if_else, down 1 && down 2) ∷ []) false

returns_by : (n : ℕ) (h : Head) (k : Forest) (down : Which → List Return) → returns_part n h k down ≡ returns_form (look n forms Form.plain) h k down
returns_by n h k down =
    let rows : List (ℕ × List Return) = (4, record { head = h; valued = has 4 k } ∷ down everything) ∷ (12, down the_rest) ∷ [] in
    look_with (λ m z. returns_part m h k down ≡ returns_form z h k down) n forms Form.plain
    (refl, (refl, (refl, (refl, (refl, (refl, (refl, (refl, (refl, (refl, (refl, (refl, (refl, (refl, (refl, (refl, tt))))))))))))))))
    (λ u. look_none n rows (down everything) (fewer n rows forms tt u))

ends_by : (is_fail : ℕ → Bool) (n : ℕ) (k : Forest) (down : ℕ → Bool) → ends_part is_fail n k down ≡ ends_form is_fail (look n forms Form.plain) k down
ends_by is_fail n k down =
    let rows : List (ℕ × Bool) = (4, true) ∷ (5, fail_called is_fail k) ∷ (8, down 0) ∷ (10, down 1 && down 2) ∷ [] in
    look_with (λ m z. ends_part is_fail m k down ≡ ends_form is_fail z k down) n forms Form.plain
    (refl, (refl, (refl, (refl, (refl, (refl, (refl, (refl, (refl, (refl, (refl, (refl, (refl, (refl, (refl, (refl, tt))))))))))))))))
    (λ u. look_none n rows false (fewer n rows forms tt u))

into_part : (t : Head) (z : Form) (h : Head) (k : Forest) (down : Which → List Return) → BareIn t (down everything)
    → BareIn t (down the_rest) → BareIn t (returns_form z h k down)
into_part t Form.breaking h k down a b = a
into_part t Form.returning h k down a b = Memᴰ.tail a
into_part t Form.expression h k down a b = a
into_part t Form.assign h k down a b = a
into_part t Form.modify h k down a b = a
into_part t Form.statements h k down a b = a
into_part t Form.if h k down a b = a
into_part t Form.if_else h k down a b = a
into_part t Form.for h k down a b = a
into_part t Form.def h k down a b = b
into_part t Form.load h k down a b = a
into_part t Form.identifier h k down a b = a
into_part t Form.lambda h k down a b = a
into_part t Form.comprehension h k down a b = a
into_part t Form.plain h k down a b = a

module _ (is_fail is_none is-string : ℕ → Bool) where
  part_ends : (z : Form) (h : Head) (k : Forest) → ((r : ℕ) → T (ends is_fail r k) → Through (takes is_fail (of_role r) k) → ⊥)
      → T (ends_form is_fail z k (λ v. ends is_fail v k)) → Through (part is_fail z h k (λ v. takes is_fail v k)) → ⊥
  part_ends Form.returning h k ih t p = p.1
  part_ends Form.expression h k ih t p = no_fail (fail_called is_fail k) t p.1
  part_ends Form.statements h k ih t p = ih 0 t p
  part_ends Form.if_else h k ih t p = sides p.1
    where
      sides : Through (takes is_fail (of_role 1) k) ⊎ Through (takes is_fail (of_role 2) k) → ⊥
      sides (inl q) = ih 1 (and_left (ends is_fail 1 k) (ends is_fail 2 k) t) q
      sides (inr q) = ih 2 (and_right (ends is_fail 1 k) (ends is_fail 2 k) t) q
  part_ends Form.breaking h k ih t p = t
  part_ends Form.assign h k ih t p = t
  part_ends Form.modify h k ih t p = t
  part_ends Form.if h k ih t p = t
  part_ends Form.for h k ih t p = t
  part_ends Form.def h k ih t p = t
  part_ends Form.load h k ih t p = t
  part_ends Form.identifier h k ih t p = t
  part_ends Form.lambda h k ih t p = t
  part_ends Form.comprehension h k ih t p = t
  part_ends Form.plain h k ih t p = t

  -- a body that ends surely is not come through
  ends_surely : (r : ℕ) (f : Forest) → T (ends is_fail r f) → Through (takes is_fail (of_role r) f) → ⊥
  ends_surely r leaf t p = t
  ends_surely r (node h k s) t p = last_through (eqb r h.role) (has r s) (ends_part is_fail h.kind k (λ v. ends is_fail v k))
      (ends is_fail r s)
      (part is_fail (form_of h) h k (λ v. takes is_fail v k)) (takes is_fail (of_role r) s)
      (λ u. part_ends (form_of h) h k (λ v. ends_surely v k) (subst T (ends_by is_fail h.kind k (λ v. ends is_fail v k)) u)) (ends_surely r s) t p

  -- a bare return by which a part is left is among its returns
  abbrev Found : Head → Forest → Type 0
  Found t k = (w : Want) (v : Which) → Cover w v → By t (takes is_fail w k) → BareIn t (returns v k)

  kid : (t : Head) (z : Form) (h : Head) (k : Forest) → Found t k → (r : ℕ) → T (not (eqb 1 r)) → By t (takes is_fail (of_role r) k)
      → BareIn t (returns_form z h k (λ v. returns v k))
  kid t z h k ih r n p = into_part t z h k (λ v. returns v k) (ih (of_role r) everything all_covered p)
      (ih (of_role r) the_rest (covers_rest r n) p)

  part_found : (t : Head) (z : Form) (h : Head) (k : Forest) → Found t k → By t (part is_fail z h k (λ v. takes is_fail v k))
      → BareIn t (returns_form z h k (λ v. returns v k))
  part_found t Form.breaking h k ih p = absurd p
  part_found t Form.returning h k ih (inl p) = kid t Form.returning h k ih 4 tt p
  part_found t Form.returning h k ih (inr p) = bare_here t h (has 4 k) (returns everything k) p
  part_found t Form.expression h k ih (inl p) = kid t Form.expression h k ih 4 tt p
  part_found t Form.expression h k ih (inr p) = absurd (no_by_cond t (fail_called is_fail k) p)
  part_found t Form.assign h k ih (inl p) = kid t Form.assign h k ih 3 tt p
  part_found t Form.assign h k ih (inr (inl p)) = kid t Form.assign h k ih 4 tt p
  part_found t Form.assign h k ih (inr (inr (inl p))) = kid t Form.assign h k ih 5 tt p
  part_found t Form.assign h k ih (inr (inr (inr p))) = absurd (no_by_binds t 5 k p)
  part_found t Form.modify h k ih (inl p) = kid t Form.modify h k ih 4 tt p
  part_found t Form.modify h k ih (inr (inl p)) = kid t Form.modify h k ih 5 tt p
  part_found t Form.modify h k ih (inr (inr (inl p))) = absurd (no_by_uses t 5 k p)
  part_found t Form.modify h k ih (inr (inr (inr (inl p)))) = kid t Form.modify h k ih 5 tt p
  part_found t Form.modify h k ih (inr (inr (inr (inr p)))) = absurd (no_by_binds t 5 k p)
  part_found t Form.statements h k ih p = kid t Form.statements h k ih 0 tt p
  part_found t Form.if h k ih (inl p) = kid t Form.if h k ih 4 tt p
  part_found t Form.if h k ih (inr (inl p)) = ih (of_role 1) everything all_covered p
  part_found t Form.if h k ih (inr (inr p)) = absurd p
  part_found t Form.if_else h k ih (inl p) = kid t Form.if_else h k ih 4 tt p
  part_found t Form.if_else h k ih (inr (inl p)) = ih (of_role 1) everything all_covered p
  part_found t Form.if_else h k ih (inr (inr p)) = ih (of_role 2) everything all_covered p
  part_found t Form.for h k ih (inl p) = kid t Form.for h k ih 4 tt p
  part_found t Form.for h k ih (inr (inl p)) = kid t Form.for h k ih 5 tt p
  part_found t Form.for h k ih (inr (inr (inl p))) = absurd (no_by_binds t 5 k p)
  part_found t Form.for h k ih (inr (inr (inr p))) = ih (of_role 1) everything all_covered p
  part_found t Form.def h k ih (inl p) = kid t Form.def h k ih 0 tt p
  part_found t Form.def h k ih (inr (inl p)) = kid t Form.def h k ih 3 tt p
  part_found t Form.def h k ih (inr (inr (inl p))) = absurd (no_by_binds t 6 k p)
  part_found t Form.def h k ih (inr (inr (inr p))) = absurd p
  part_found t Form.load h k ih p = absurd (no_by_binds t 0 k p)
  part_found t Form.identifier h k ih p = absurd p
  part_found t Form.lambda h k ih (inl p) = kid t Form.lambda h k ih 0 tt p
  part_found t Form.lambda h k ih (inr p) = absurd p
  part_found t Form.comprehension h k ih (inl p) = ih first_over everything all_covered p
  part_found t Form.comprehension h k ih (inr p) = absurd p
  part_found t Form.plain h k ih p = ih every everything all_covered p

  over_found : (t : Head) (b : Bool) (X Y : Cmd) (A B : List Return) → (By t X → BareIn t A) → (By t Y → BareIn t B)
      → By t (elim b as (λ x. Cmd) [ false ↦ Y | true ↦ X ]) → BareIn t (A ++ B)
  over_found t false X Y A B p q r = Memᴰ.append_right A (q r)
  over_found t true X Y A B p q r = Memᴰ.append_left B (p r)

  bound_found : (t : Head) (b : Bool) (X Y Z W : Cmd) (A B : List Return) → (By t X → BareIn t A) → (By t Z → ⊥) → (By t W → BareIn t B)
      → (By t Y → BareIn t B)
      → By t (elim b as (λ x. Cmd) [ false ↦ Y | true ↦ X ⨟ Z ⨟ W ]) → BareIn t (A ++ B)
  bound_found t false X Y Z W A B p n o q r = Memᴰ.append_right A (q r)
  bound_found t true X Y Z W A B p n o q (inl r) = Memᴰ.append_left B (p r)
  bound_found t true X Y Z W A B p n o q (inr (inl r)) = absurd (n r)
  bound_found t true X Y Z W A B p n o q (inr (inr r)) = Memᴰ.append_right A (o r)

  three : (t : Head) (X Y Z : Cmd) (A : List Return) → (By t X → BareIn t A) → (By t Y → BareIn t A) → (By t Z → ⊥) → By t (X ⨟ Y ⨟ Z)
      → BareIn t A
  three t X Y Z A p q n (inl r) = p r
  three t X Y Z A p q n (inr (inl r)) = q r
  three t X Y Z A p q n (inr (inr r)) = absurd (n r)

  by_kind : (t : Head) (h : Head) (k : Forest) → BareIn t (returns_form (form_of h) h k (λ v. returns v k))
      → BareIn t (returns_part h.kind h k (λ v. returns v k))
  by_kind t h k m = subst (BareIn t) (sym (returns_by h.kind h k (λ v. returns v k))) m

  found : (t : Head) (w : Want) (v : Which) (f : Forest) → Cover w v → By t (takes is_fail w f) → BareIn t (returns v f)
  found t w v leaf c p = absurd p
  found t (of_role r) v (node h k s) c p = pick_found t (eqb r h.role) (wanted v h.role)
      (part is_fail (form_of h) h k (λ x. takes is_fail x k)) (takes is_fail (of_role r) s)
      (returns_part h.kind h k (λ x. returns x k)) (returns v s) (covers c h.role)
      (λ q. by_kind t h k (part_found t (form_of h) h k (λ x y. found t x y k) q)) (found t (of_role r) v s c) p
  found t every v (node h k s) all_covered p = pick_found t true true (part is_fail (form_of h) h k (λ x. takes is_fail x k))
      (takes is_fail every s)
      (returns_part h.kind h k (λ x. returns x k)) (returns everything s) (λ x. tt)
      (λ q. by_kind t h k (part_found t (form_of h) h k (λ x y. found t x y k) q)) (found t every everything s all_covered) p
  found t first_over v (node h k s) all_covered p =
      over_found t (eqb 0 h.role) (takes is_fail (of_role 4) k) (takes is_fail first_over s)
      (returns_part h.kind h k (λ x. returns x k)) (returns everything s) (λ q. by_kind t h k (kid t (form_of h) h k (λ x y. found t x y k) 4 tt q))
      (found t first_over everything s all_covered) p
  found t first_bound v (node h k s) all_covered p =
      bound_found t (eqb 0 h.role) (takes is_fail (of_role 5) k) (takes is_fail first_bound s) (binds 5 k) (takes is_fail clauses s)
      (returns_part h.kind h k (λ x. returns x k)) (returns everything s) (λ q. by_kind t h k (kid t (form_of h) h k (λ x y. found t x y k) 5 tt q))
      (no_by_binds t 5 k) (found t clauses everything s all_covered) (found t first_bound everything s all_covered) p
  found t clauses v (node h k s) all_covered p =
      pick_found t (eqb 0 h.role) true (takes is_fail (of_role 4) k ⨟ takes is_fail (of_role 5) k ⨟ binds 5 k) (takes is_fail clauses s)
      (returns_part h.kind h k (λ x. returns x k)) (returns everything s) (λ x. tt)
      (three t (takes is_fail (of_role 4) k) (takes is_fail (of_role 5) k) (binds 5 k) (returns_part h.kind h k (λ x. returns x k))
      (λ q. by_kind t h k (kid t (form_of h) h k (λ x y. found t x y k) 4 tt q)) (λ q. by_kind t h k (kid t (form_of h) h k (λ x y. found t x y k) 5 tt q)) (no_by_binds t 5 k))
      (found t clauses everything s all_covered) p

module _ (is_fail is_none is-string : ℕ → Bool) where
  one_bare : (h : Head) (name : Spot) (why t : Head) (r : Return) (rs : List Rec) → record { head = t; valued = false } ≡ r
      → Memᴰ (missing_expression h name why t) (listed (not r.valued) (missing_expression h name why r.head ∷ []) rs)
  one_bare h name why t r rs e = subst (λ (z : Return). Memᴰ (missing_expression h name why t)
      (listed (not z.valued) (missing_expression h name why z.head ∷ []) rs)) e (Memᴰ.head refl)

  recs_on : (x : Rec) (u : Bool) (A B : List Rec) → Memᴰ x B → Memᴰ x (listed u A B)
  recs_on x true A B m = Memᴰ.append_right A m
  recs_on x false A B m = m

  bare_listed : (h : Head) (name : Spot) (why t : Head) (rs : List Return) → BareIn t rs
      → Memᴰ (missing_expression h name why t) (bare_recs h name why rs)
  bare_listed h name why t rs (Memᴰ.head {x = r} {xs = us} e) = one_bare h name why t r (bare_recs h name why us) e
  bare_listed h name why t rs (Memᴰ.tail {x = r} {xs = us} m) =
      recs_on (missing_expression h name why t) (not r.valued) (missing_expression h name why r.head ∷ []) (bare_recs h name why us)
      (bare_listed h name why t us m)

  walked : (x : Rec) (h : Head) (k f : Forest) → Node h k f → Memᴰ x (check is_fail is_none h.kind h k)
      → Memᴰ x (returns_walk is_fail is_none f)
  walked x h k f (at {s = s}) m = Memᴰ.append_left (returns_walk is_fail is_none k ++ returns_walk is_fail is_none s) m
  walked x h k f (below {g = g} {j = j} {s = s} n) m =
      Memᴰ.append_right (check is_fail is_none g.kind g j) (Memᴰ.append_left (returns_walk is_fail is_none s) (walked x h k j n m))
  walked x h k f (beside {g = g} {j = j} {s = s} n) m =
      Memᴰ.append_right (check is_fail is_none g.kind g j) (Memᴰ.append_right (returns_walk is_fail is_none j) (walked x h k s n m))

  in_flow : (x : Rec) (h : Head) (k f : Forest) (why : Head) → Node h k f → h.kind ≡ 12 → reason is_none k ≡ some why
      → Memᴰ x (check_for is_fail is_none h k (some why)) → Memᴰ x (flow is_fail is_none is-string f)
  in_flow x h k f why n e r m = Memᴰ.append_left ((reached is_fail (only 0) f).recs
      ++ (redundant_walk (below_root f) ++ ((loads is-string true f).recs ++ effect_walk is-string f)))
      (walked x h k f n (subst (λ (z : ℕ). Memᴰ x (check is_fail is_none z h k)) (sym e)
      (subst (λ (z : Option Head). Memᴰ x (check_for is_fail is_none h k z)) (sym r) m)))

  not_ends : (b : Bool) (x : Rec) (B : List Rec) → (T b → ⊥) → Memᴰ x (listed (not b) (x ∷ []) B)
  not_ends true x B n = absurd (n tt)
  not_ends false x B n = Memᴰ.head refl

  -- A run of a def that wants a value reaches its end: the flow list has the def under missing return.
  pub end_flagged : (f : Forest) (h : Head) (k : Forest) (why : Head) (τ : Held) → Node h k f → h.kind ≡ 12 → reason is_none k ≡ some why
      → Run (def_body is_fail k) nobody through τ → Memᴰ (missing h (spot_at 6 k) why) (flow is_fail is_none is-string f)
  end_flagged f h k why τ n e r q = in_flow (missing h (spot_at 6 k) why) h k f why n e r
      (not_ends (ends is_fail 1 k) (missing h (spot_at 6 k) why) (bare_recs h (spot_at 6 k) why (returns the_body k))
      (λ t. ends_surely is_fail is_none is-string 1 k t (run_through q).1))

  -- It reaches a bare return: the flow list has that return under missing return expression.
  pub bare_flagged : (f : Forest) (h : Head) (k : Forest) (why t : Head) (τ : Held) → Node h k f → h.kind ≡ 12
      → reason is_none k ≡ some why
      → Run (def_body is_fail k) nobody (by (bare t)) τ
      → Memᴰ (missing_expression h (spot_at 6 k) why t) (flow is_fail is_none is-string f)
  bare_flagged f h k why t τ n e r q = in_flow (missing_expression h (spot_at 6 k) why t) h k f why n e r
      (recs_on (missing_expression h (spot_at 6 k) why t) (not (ends is_fail 1 k)) (missing h (spot_at 6 k) why ∷ [])
      (bare_recs h (spot_at 6 k) why (returns the_body k))
      (bare_listed h (spot_at 6 k) why t (returns the_body k) (inner (run_by q))))
    where
      inner : By t (def_body is_fail k) → BareIn t (returns the_body k)
      inner (inl p) = absurd (no_by_binds t 0 k p)
      inner (inr p) = found is_fail is_none is-string t (of_role 1) the_body k (role_covered (λ x z. z)) p

-- DEMAND 3, the flow half, of every tree: a run of a def that wants a value, which reaches its end or a bare return.
pub flow_demand : (is_fail is_none is-string : ℕ → Bool) (f : Forest) (h : Head) (k : Forest) (why : Head) (τ : Held) → Node h k f
    → h.kind ≡ 12 → reason is_none k ≡ some why
    → (Run (def_body is_fail k) nobody through τ → Memᴰ (missing h (spot_at 6 k) why) (flow is_fail is_none is-string f))
    × ((t : Head) → Run (def_body is_fail k) nobody (by (bare t)) τ
    → Memᴰ (missing_expression h (spot_at 6 k) why t) (flow is_fail is_none is-string f))
flow_demand is_fail is_none is-string f h k why τ n e r = (
  (λ q. end_flagged is_fail is_none is-string f h k why τ n e r q),
  (λ t q. bare_flagged is_fail is_none is-string f h k why t τ n e r q),
)
