-- Where every break or continue stands in a loop of its own body, a run of a body that finishes comes to the body's end or returns.
use Prim.Native.Nat.{ℕ}
use mathlib.Core.Path.{◌≡◌, sym, subst}
use mathlib.Core.Bool.{Bool, true, false, cond, ◌&&◌, ◌||◌, not}
use mathlib.Core.List.{List, [], ◌∷◌}
use lib.Dec.{eqb, T, eqb→eq}
use Rattle.tree.specs.Forest.{Head, Forest, Forest.none as leaf, node}
use Rattle.rules.specs.Visit.{look, has}
use Rattle.rules.specs.Order.{Form, forms, form_of, fail_called, Broken, Stop, breaks, bare, valued, fails, Sort, Cmd, skip, ◌⨟◌, use_of, set_of, stop, branch, loop, scope, Want, of_role, every, first_over, first_bound, clauses, picked, part, takes, binds, uses, Bind, one, several, nothing, bind_of, bind_part, use_part}
use Rattle.rules.specs.Runs.{Node, at, below, beside, Body, of_module, of_def, Held, by, Run, next, cut, left, right, round, continues, away, returns, is_return}
use Rattle.rules.specs.Premises.{is_jump, within, jumps_within, jumps_in_loops}
use Rattle.rules.proofs.Bools.{and_left, and_right}
use Rattle.rules.proofs.Look.{All}

-- no run ends by a call of fail
never_by_fail : {c : Cmd} {σ τ : Held} → Run c σ (by fails) τ → ⊥
never_by_fail (next r q) = never_by_fail q
never_by_fail (cut r) = never_by_fail r
never_by_fail (returns t) = t
never_by_fail (left r) = never_by_fail r
never_by_fail (right r) = never_by_fail r
never_by_fail (round r q) = never_by_fail q
never_by_fail (continues r q) = never_by_fail q
never_by_fail (away t r) = t

-- no run of the part ends by a break or continue that is for a loop around it
abbrev Tight : Cmd → Type 0
Tight c = (σ τ : Held) (j : Broken) → Run c σ (by (breaks j)) τ → ⊥

tight_skip : Tight skip
tight_skip σ τ j = elim [ ]

tight_use : (s : Head) → Tight (use_of s)
tight_use s σ τ j = elim [ ]

tight_set : (o : Sort) (s : Head) → Tight (set_of o s)
tight_set o s σ τ j = elim [ ]

tight_scope : (c : Cmd) → Tight (scope c)
tight_scope c σ τ j = elim [ ]

tight_seq : {a b : Cmd} → Tight a → Tight b → Tight (a ⨟ b)
tight_seq f g σ τ j (next {τ = υ} r q) = g υ τ j q
tight_seq f g σ τ j (cut r) = f σ τ j r

tight_branch : {a b : Cmd} → Tight a → Tight b → Tight (branch a b)
tight_branch f g σ τ j (left r) = f σ τ j r
tight_branch f g σ τ j (right r) = g σ τ j r

tight_loop : (c : Cmd) → Tight (loop c)
tight_loop c σ τ j (round {τ = υ} r q) = tight_loop c υ τ j q
tight_loop c σ τ j (continues {τ = υ} r q) = tight_loop c υ τ j q
tight_loop c σ τ j (away t r) = t

tight_return : (b : Bool) (s : Head) → Tight (stop (cond b valued (bare s)))
tight_return true s σ τ j = elim [ ]
tight_return false s σ τ j = elim [ ]

tight_fail : (b : Bool) → Tight (cond b (stop fails) skip)
tight_fail true σ τ j = elim [ ]
tight_fail false σ τ j = elim [ ]

tight_picked : (b : Bool) {X Y : Cmd} → (T b → Tight X) → Tight Y → Tight (picked b X Y)
tight_picked true f g = tight_seq (f tt) g
tight_picked false f g = g

tight_either : (b : Bool) {X Y : Cmd} → Tight X → Tight Y → Tight (elim b as (λ x. Cmd) [ false ↦ Y | true ↦ X ])
tight_either true f g = f
tight_either false f g = g

tight_bind : (z : Bind) (h : Head) (down : ℕ → Cmd) → Tight (down 0) → Tight (bind_part z h down)
tight_bind (one o) h down f = tight_set o h
tight_bind several h down f = f
tight_bind nothing h down f = tight_skip

tight_binds : (r : ℕ) (f : Forest) → Tight (binds r f)
tight_binds r leaf = tight_skip
tight_binds r (node h k s) = tight_picked (eqb r h.role) (λ t. tight_bind (bind_of h) h (λ v. binds v k) (tight_binds 0 k))
    (tight_binds r s)

tight_as_use : (z : Bind) (h : Head) (down : ℕ → Cmd) → Tight (down 0) → Tight (use_part z h down)
tight_as_use (one o) h down f = tight_use h
tight_as_use several h down f = f
tight_as_use nothing h down f = tight_skip

tight_uses : (r : ℕ) (f : Forest) → Tight (uses r f)
tight_uses r leaf = tight_skip
tight_uses r (node h k s) = tight_picked (eqb r h.role) (λ t. tight_as_use (bind_of h) h (λ v. uses v k) (tight_uses 0 k))
    (tight_uses r s)

-- what holds of each row of a table, and of a kind that has no row, holds of what is looked up
abbrev unlisted : {A : Type 0} → ℕ → List (ℕ × A) → Bool
unlisted k [] = true
unlisted k (e ∷ es) = not (eqb k e.0) && unlisted k es

else_step : {A : Type 0} (Q : ℕ → A → Type 0) (n k : ℕ) (a z : A) (b : Bool) → (T b → k ≡ n) → Q n a → (T (not b) → Q k z)
    → Q k (elim b as (λ x. A) [ true ↦ a | false ↦ z ])
else_step Q n k a z true e p q = subst (λ (x : ℕ). Q x a) (sym (e tt)) p
else_step Q n k a z false e p q = q tt

both : (a b : Bool) → T a → T b → T (a && b)
both true b t u = u
both false b t u = t

look_else : {A : Type 0} (Q : ℕ → A → Type 0) (k : ℕ) (es : List (ℕ × A)) (d : A) → All Q es → (T (unlisted k es) → Q k d)
    → Q k (look k es d)
look_else Q k [] d p q = q tt
look_else Q k (e ∷ es) d p q = else_step Q e.0 k e.1 (look k es d) (eqb k e.0) (eqb→eq k e.0) p.0
    (λ t. look_else Q k es d p.1 (λ u. q (both (not (eqb k e.0)) (unlisted k es) t u)))

not_so : (b : Bool) → (T b → ⊥) → T (not b)
not_so true f = f tt
not_so false f = tt

-- the nodes that a visit goes to, by their roles
abbrev visits : Want → ℕ → Bool
visits (of_role r) x = eqb r x
visits every x = true
visits first_over x = true
visits first_bound x = true
visits clauses x = true

-- outside loops a child stands outside loops, but for the body of a for
outside : (k r : ℕ) → T (not (eqb k 11)) → T (not (within k false r))
outside k r t = go (eqb r 1) (eqb k 11) (eqb k 12) t
  where
    go : (a b c : Bool) → T (not b) → T (not (cond (a && b) true (cond (a && c) false false)))
    go true true c t = t
    go true false true t = tt
    go true false false t = tt
    go false b c t = tt

or_false : (b : Bool) → T (b || false) → T b
or_false true t = tt
or_false false t = t

rest : (i : ℕ → Bool) (h : Head) (k s : Forest) → T (jumps_within i (node h k s)) → T (jumps_within i s)
rest i h k s t = and_right (jumps_within (within h.kind (i h.role)) k) (jumps_within i s)
    (and_right (not (is_jump h.kind) || i h.role) (jumps_within (within h.kind (i h.role)) k && jumps_within i s) t)

kids : (i : ℕ → Bool) (h : Head) (k s : Forest) → T (jumps_within i (node h k s)) → T (jumps_within (within h.kind (i h.role)) k)
kids i h k s t = and_left (jumps_within (within h.kind (i h.role)) k) (jumps_within i s)
    (and_right (not (is_jump h.kind) || i h.role) (jumps_within (within h.kind (i h.role)) k && jumps_within i s) t)

module _ (is_fail : ℕ → Bool) where
  -- what is known of the children k of a node of the kind n that stands outside loops
  abbrev Kids : ℕ → Forest → Type 0
  Kids n k = (w : Want) → ((x : ℕ) → T (visits w x) → T (not (within n false x))) → Tight (takes is_fail w k)

  role : (n r : ℕ) (k : Forest) → Kids n k → T (not (within n false r)) → Tight (takes is_fail (of_role r) k)
  role n r k d t = d (of_role r) (λ x e. subst (λ (y : ℕ). T (not (within n false y))) (eqb→eq r x e) t)

  abbrev Part : Head → Forest → ℕ → Form → Type 0
  Part h k n z = T (not (is_jump n)) → Kids n k → Tight (part is_fail z h k (λ v. takes is_fail v k))

  no_for : (n : ℕ) → T (unlisted n forms) → T (not (eqb n 11))
  no_for n u = not_so (eqb n 11) (λ t. subst (λ (x : ℕ). T (unlisted x forms)) (eqb→eq n 11 t) u)

  tight_part : (h : Head) (k : Forest) → Part h k h.kind (form_of h)
  tight_part h k = look_else (Part h k) h.kind forms Form.plain (
    (λ t d. absurd t),
    (
      (λ t d. absurd t),
      (
        (λ t d. tight_seq (role 4 4 k d tt) (tight_return (has 4 k) h)),
        (
          (λ t d. tight_seq (role 5 4 k d tt) (tight_fail (fail_called is_fail k))),
          (
            (λ t d. tight_seq (role 6 3 k d tt) (tight_seq (role 6 4 k d tt) (tight_seq (role 6 5 k d tt) (tight_binds 5 k)))),
            (
              (λ t d. tight_seq (role 7 4 k d tt)
                  (tight_seq (role 7 5 k d tt) (tight_seq (tight_uses 5 k) (tight_seq (role 7 5 k d tt) (tight_binds 5 k))))),
              (
                (λ t d. role 8 0 k d tt),
                (
                  (λ t d. tight_seq (role 9 4 k d tt) (tight_branch (role 9 1 k d tt) tight_skip)),
                  (
                    (λ t d. tight_seq (role 10 4 k d tt) (tight_branch (role 10 1 k d tt) (role 10 2 k d tt))),
                    (
                      (λ t d. tight_seq (role 11 4 k d tt) (tight_loop _)),
                      (
                        (λ t d. tight_seq (role 12 0 k d tt) (tight_seq (role 12 3 k d tt) (tight_seq (tight_binds 6 k) (tight_scope _)))),
                        (
                          (λ t d. tight_binds 0 k),
                          (
                            (λ t d. tight_use h),
                            (
                              (λ t d. tight_seq (role 24 0 k d tt) (tight_scope _)),
                              (
                                (λ t d. tight_seq (d first_over (λ x e. outside 25 x tt)) (tight_scope _)),
                                (
                                  (λ t d. tight_seq (d first_over (λ x e. outside 26 x tt)) (tight_scope _)),
                                  tt,
                                ),
                              ),
                            ),
                          ),
                        ),
                      ),
                    ),
                  ),
                ),
              ),
            ),
          ),
        ),
      ),
    ),
  )
      (λ u t d. d every (λ x e. outside h.kind x (no_for h.kind u)))

  -- a node outside loops, whose breaks and continues stand in loops
  tight_node : (i b : Bool) (h : Head) (k : Forest) → T (not i)
      → T ((not (is_jump h.kind) || i) && (jumps_within (within h.kind i) k && b))
      → (T (jumps_within (within h.kind false) k) → Kids h.kind k)
      → Tight (part is_fail (form_of h) h k (λ v. takes is_fail v k)) × Kids h.kind k
  tight_node true b h k n t f = absurd n
  tight_node false b h k n t f =
      let d : Kids h.kind k = f (and_left (jumps_within (within h.kind false) k) b
      (and_right (not (is_jump h.kind) || false) (jumps_within (within h.kind false) k && b) t)) in (
        tight_part h k (or_false (not (is_jump h.kind))
            (and_left (not (is_jump h.kind) || false) (jumps_within (within h.kind false) k && b) t)) d,
        d,
      )

  tight : (f : Forest) (w : Want) (i : ℕ → Bool) → ((x : ℕ) → T (visits w x) → T (not (i x))) → T (jumps_within i f)
      → Tight (takes is_fail w f)
  tight leaf w i o t = tight_skip
  tight (node h k s) (of_role r) i o t = tight_picked (eqb r h.role)
      (λ e. (tight_node (i h.role) (jumps_within i s) h k (o h.role e) t (λ u w p. tight k w (within h.kind false) p u)).0)
      (tight s (of_role r) i o (rest i h k s t))
  tight (node h k s) every i o t = tight_seq (tight_node (i h.role) (jumps_within i s) h k (o h.role tt) t
      (λ u w p. tight k w (within h.kind false) p u)).0
      (tight s every i o (rest i h k s t))
  tight (node h k s) first_over i o t =
      let d = (tight_node (i h.role) (jumps_within i s) h k (o h.role tt) t (λ u w p. tight k w (within h.kind false) p u)).1 in
      tight_either (eqb 0 h.role) (role h.kind 4 k d tt) (tight s first_over i o (rest i h k s t))
  tight (node h k s) first_bound i o t =
      let d = (tight_node (i h.role) (jumps_within i s) h k (o h.role tt) t (λ u w p. tight k w (within h.kind false) p u)).1 in
      tight_either (eqb 0 h.role) (tight_seq (role h.kind 5 k d tt)
      (tight_seq (tight_binds 5 k) (tight s clauses i o (rest i h k s t)))) (tight s first_bound i o (rest i h k s t))
  tight (node h k s) clauses i o t =
      let d = (tight_node (i h.role) (jumps_within i s) h k (o h.role tt) t (λ u w p. tight k w (within h.kind false) p u)).1 in
      tight_picked (eqb 0 h.role) (λ e. tight_seq (role h.kind 4 k d tt) (tight_seq (role h.kind 5 k d tt) (tight_binds 5 k)))
      (tight s clauses i o (rest i h k s t))

  -- the children of a node of the tree
  below_held : {h : Head} {k f : Forest} (i : ℕ → Bool) → Node h k f → T (jumps_within i f)
      → (b : Bool) × T (jumps_within (within h.kind b) k)
  below_held {h} {k} i (at {s = s}) t = (i h.role, kids i h k s t)
  below_held i (below {g = g} {j = j} {s = s} n) t = below_held (within g.kind (i g.role)) n (kids i g j s t)
  below_held i (beside {g = g} {j = j} {s = s} n) t = below_held i n (rest i g j s t)

  tight_body : (f : Forest) → T (jumps_in_loops f) → {b : Cmd} → Body is_fail f b → Tight b
  tight_body f t of_module = tight f (of_role 0) (λ r. false) (λ x e. tt) t
  tight_body f t (of_def {h = h} {k = k} n e) = let p = below_held (λ r. false) n t in
      tight_seq (tight_binds 0 k) (tight k (of_role 1) (within 12 p.0)
      (λ x u. subst (λ (y : ℕ). T (not (within 12 p.0 y))) (eqb→eq 1 x u) tt)
      (subst (λ (y : ℕ). T (jumps_within (within y p.0) k)) e p.1))

  -- THE SECOND PREMISE leaves two ends to a run of a body that finishes: the body's end, and a return.
  pub ends_whole : (f : Forest) → T (jumps_in_loops f) → {b : Cmd} → Body is_fail f b → (w : Stop) {σ τ : Held} → Run b σ (by w) τ
      → T (is_return w)
  ends_whole f t m (breaks j) {σ} {τ} r = tight_body f t m σ τ j r
  ends_whole f t m (bare s) r = tt
  ends_whole f t m valued r = tt
  ends_whole f t m fails r = never_by_fail r
