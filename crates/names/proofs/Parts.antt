-- What the walk does for a node, kind by kind, and for a node and its later siblings. Assumes nothing.
use Prim.{Unit, tt}
use Prim.Native.Nat.{ℕ, ◌+◌, ◌≤◌, ◌<◌}
use native.Mathlib.Omega.{arith}
use native.Mathlib.Decide.{ℕ_discrete}
use mathlib.Core.Path.{◌≡◌, refl, sym, ap, ◌∙◌}
use mathlib.Core.Bool.{Bool, true, false, cond}
use mathlib.Core.List.{List, [], ◌∷◌}
use Rattle.std.specs.Prelude.{Some, None}
use lib.Dec.{eqb}
use borrow.Author.Tests.{ne_eqb}
use Rattle.tree.specs.Bytes.{pick, kind_at, role_at, size_at}
use Rattle.tree.specs.Forest.{node_head, forest_of}
use Rattle.tree.specs.code.Part.{Part}
use Rattle.tree.specs.code.Find.{child_of}
use Rattle.tree.proofs.Laws.{forest_none, forest_node, kids, first, sized, later}
use Rattle.tree.proofs.Find.{child_end, child_here, child_next, child_ge}
use Rattle.tree.proofs.Find as find
use Rattle.tree.proofs.FirstChild.{child_some, child_none}
use Rattle.rules.specs.Visit.{look, has}
use Rattle.rules.specs.Order.{skip, ◌⨟◌, use_of, set_of, stop, branch, loop, scope, breaks, bare, valued, fails, Form, forms, broken_by, Sort, Bind, bindings, bind_part, binds, use_part, uses, part, picked, step, takes, Want, of_role, every, first_over, first_bound, clauses}
use Rattle.scope.specs.State.{sort_of}
use Rattle.names.specs.Walk.{named_by, kids_of, number, want_of, wanted_of, names_of, visit_of, down_of, node_of, name_node, names_in, node_bind, node_use, Node, clauses_of, first_clause, over_of, bound_of, fail_of}
use Rattle.names.specs.declared.walk.Wanted.{Wanted}
use Rattle.names.specs.declared.walk.Wanted.TheVariants.{All, Of}

-- the parts of a node
pub kids_held : {t : List ℕ} {c d : ℕ} → Node t c d → Part t (c + 1) (c + size_at t c)
kids_held n = kids n.part (omega (arith, n.some))

pub node_below : {t : List ℕ} {c d i : ℕ} → Node t c d → c < i → i < c + size_at t c → Part t i (c + size_at t c)
node_below n a b = later n.part (omega arith)

pub node_in_part : {t : List ℕ} {i e : ℕ} → Part t i e → i < e → {d : ℕ} → d ≤ i → Node t i d
node_in_part p lt h = record { part = first p lt; some = sized p lt; deep = omega arith }

pub node_few : {t : List ℕ} {c d : ℕ} → Node t c d → c < 1024
node_few n = omega (arith, n.some, n.part.few)

pub absurd {ℓ} : {A : Type ℓ} → ⊥ → A
absurd e = elim e [ ]

not_names : (k : ℕ) → (k ≡ 40 → ⊥) → (k ≡ 43 → ⊥) → (k ≡ 47 → ⊥) → names_of k ≡ true → ⊥
unfolding names_of
not_names k a b d h = no_way (rw (ne_eqb k 40 a, ne_eqb k 43 b, ne_eqb k 47 d) at h)
  where
    no_way : false ≡ true → ⊥
    no_way e = let z : ◌≡◌ {A = ℕ} 0 1 = cc in omega arith

-- a number that no row of a table has
abbrev Missed : {A : Type 0} → ℕ → List (ℕ × A) → Type 0
Missed k [] = Unit {0}
Missed k (e ∷ es) = (k ≡ e.0 → ⊥) × Missed k es

missed : {A : Type 0} (k : ℕ) (es : List (ℕ × A)) (d : A) → Missed k es → look k es d ≡ d
missed k [] d h = refl
missed k (e ∷ es) d h = rw (ne_eqb k e.0 h.0, look) (missed k es d h.1)

none_bound : (k : ℕ) → (k ≡ 41 → ⊥) → names_of k ≡ false → look k bindings Bind.nothing ≡ Bind.nothing
unfolding names_of
none_bound k x h = go (ℕ_discrete k 40) (ℕ_discrete k 43) (ℕ_discrete k 47)
  where
    no_way : true ≡ false → ⊥
    no_way e = let z : ◌≡◌ {A = ℕ} 0 1 = cc in omega arith

    go : Dec (k ≡ 40) → Dec (k ≡ 43) → Dec (k ≡ 47) → look k bindings Bind.nothing ≡ Bind.nothing
    go (yes q) y z = absurd (no_way (rw q at h))
    go (no p) (yes q) z = absurd (no_way (rw q at h))
    go (no p) (no r) (yes q) = absurd (no_way (rw q at h))
    go (no p) (no r) (no s) = missed k bindings Bind.nothing (p, (x, (r, (s, tt))))

-- kinds, by the tests that came before
pub nine_on : {k : ℕ} → 8 ≤ k → (k ≡ 8 → ⊥) → 9 ≤ k
nine_on a b = omega arith

pub eleven_off : {k : ℕ} → k < 14 → (k ≡ 12 → ⊥) → (k ≡ 13 → ⊥) → (k ≡ 11 → ⊥) → k < 11
eleven_off a b d e = omega arith

pub ten_left : {k : ℕ} → 9 ≤ k → k < 11 → (k ≡ 9 → ⊥) → k ≡ 10
ten_left a b d = omega arith

-- siblings
module _ (t : List ℕ) (f : ℕ) where
  pub visit_end : (v : Want) (i e : ℕ) → e ≤ i → visit_of t f v i e ≡ skip
  unfolding visit_of
  visit_end v i e h = ap (takes (named_by f) v) (forest_none t i e h)

  pub visit_next : (a : Wanted) {i e : ℕ} → Part t i e → i < e
      → visit_of t f (want_of a) i e ≡ picked (wanted_of t a i) (node_of t f i) (visit_of t f (want_of a) (i + size_at t i) e)
  unfolding visit_of node_of down_of kids_of node_head
  visit_next All {i} {e} p lt = ap (takes (named_by f) every) (forest_node p lt)
  visit_next (Of r) {i} {e} p lt = ap (takes (named_by f) (of_role (number r))) (forest_node p lt)

  pub down_visit : (v : Want) (c : ℕ) → down_of t f v c ≡ visit_of t f v (c + 1) (c + size_at t c)
  unfolding down_of visit_of kids_of
  down_visit v c = refl

  pub clauses_end : (i e : ℕ) → e ≤ i → clauses_of t f i e ≡ skip
  unfolding clauses_of
  clauses_end i e h = visit_end clauses i e h

-- the names of siblings, used where u, else set
module _ (t : List ℕ) (r : ℕ) where
  pub names_end : (u : Bool) (i e : ℕ) → e ≤ i → names_in u t r i e ≡ skip
  unfolding names_in
  names_end true i e h = ap (uses r) (forest_none t i e h)
  names_end false i e h = ap (binds r) (forest_none t i e h)

  pub names_next : (u : Bool) {i e : ℕ} → Part t i e → i < e → names_in u t r i e ≡ picked (eqb r (role_at t i)) (name_node u t i) (names_in u t r (i + size_at t i) e)
  unfolding names_in name_node kids_of node_head
  names_next true p lt = ap (uses r) (forest_node p lt)
  names_next false p lt = ap (binds r) (forest_node p lt)

  pub names_kids : (u : Bool) (c : ℕ) → pick u (node_use t r c) (node_bind t r c) ≡ names_in u t r (c + 1) (c + size_at t c)
  unfolding node_use node_bind names_in kids_of
  names_kids u c = refl

-- the names of a node, by its kind
module _ (t : List ℕ) (c : ℕ) where
  name_kind : (u : Bool) (k : ℕ) → kind_at t c ≡ k
      → name_node u t c ≡ pick u (use_part (look k bindings Bind.nothing) (node_head t c) (λ v. node_use t v c)) (bind_part (look k bindings Bind.nothing) (node_head t c) (λ v. node_bind t v c))
  unfolding name_node node_head node_use node_bind
  name_kind u k q = ap (λ (z : ℕ). pick u (use_part (look z bindings Bind.nothing) (node_head t c) (λ v. node_use t v c)) (bind_part (look z bindings Bind.nothing) (node_head t c) (λ v. node_bind t v c))) q

  pub name_several : (u : Bool) → kind_at t c ≡ 41 → name_node u t c ≡ pick u (node_use t 0 c) (node_bind t 0 c)
  name_several u q = name_kind u 41 q

  -- of kind k, which binds a name of sort o
  name_one : (u : Bool) (k : ℕ) (o : Sort) → look k bindings Bind.nothing ≡ Bind.one o → sort_of k ≡ o → kind_at t c ≡ k
      → name_node u t c ≡ pick u (use_of (node_head t c)) (set_of (sort_of (kind_at t c)) (node_head t c))
  unfolding node_head
  name_one u k o e h q =
      name_kind u k q
      ∙ ap (λ (z : Bind). pick u (use_part z (node_head t c) (λ v. node_use t v c)) (bind_part z (node_head t c) (λ v. node_bind t v c))) e
      ∙ ap (λ (z : Sort). pick u (use_of (node_head t c)) (set_of z (node_head t c))) (sym (ap sort_of q ∙ h))

  pub name_name : (u : Bool) → names_of (kind_at t c) ≡ true → name_node u t c ≡ pick u (use_of (node_head t c)) (set_of (sort_of (kind_at t c)) (node_head t c))
  unfolding sort_of
  name_name u h = go (ℕ_discrete (kind_at t c) 40) (ℕ_discrete (kind_at t c) 43) (ℕ_discrete (kind_at t c) 47)
    where
      go : Dec (kind_at t c ≡ 40) → Dec (kind_at t c ≡ 43) → Dec (kind_at t c ≡ 47) → name_node u t c ≡ pick u (use_of (node_head t c)) (set_of (sort_of (kind_at t c)) (node_head t c))
      go (yes q) y z = name_one u 40 Sort.assign refl refl q
      go (no x) (yes q) z = name_one u 43 Sort.argument refl refl q
      go (no x) (no y) (yes q) = name_one u 47 Sort.load refl refl q
      go (no x) (no y) (no z) = absurd (not_names (kind_at t c) x y z h)

  pub name_other : (u : Bool) → (kind_at t c ≡ 41 → ⊥) → names_of (kind_at t c) ≡ false → name_node u t c ≡ skip
  name_other u x h = name_kind u (kind_at t c) refl ∙ rw (none_bound (kind_at t c) x h) (still u)
    where
      still : (v : Bool) → pick v skip skip ≡ skip
      still true = refl
      still false = refl

-- a node, by its kind
look_plain : (k : ℕ) → (k ≡ 1 → ⊥) → (k ≡ 2 → ⊥) → (k ≡ 4 → ⊥) → (k ≡ 5 → ⊥) → (k ≡ 6 → ⊥) → (k ≡ 7 → ⊥) → (k ≡ 8 → ⊥) → (k ≡ 9 → ⊥)
    → (k ≡ 10 → ⊥) → (k ≡ 11 → ⊥) → (k ≡ 12 → ⊥) → (k ≡ 13 → ⊥) → (k ≡ 20 → ⊥) → (k ≡ 24 → ⊥) → (k ≡ 25 → ⊥) → (k ≡ 26 → ⊥)
    → look k forms Form.plain ≡ Form.plain
look_plain k a1 a2 a4 a5 a6 a7 a8 a9 a10 a11 a12 a13 a20 a24 a25 a26 =
    missed k forms Form.plain (a1, (a2, (a4, (a5, (a6, (a7, (a8, (a9, (a10, (a11, (a12, (a13, (a20, (a24, (a25, (a26, tt))))))))))))))))

module _ (t : List ℕ) (f c : ℕ) where
  node_form : (z : Form) → look (kind_at t c) forms Form.plain ≡ z → node_of t f c ≡ part (named_by f) z (node_head t c) (kids_of t c) (λ v. down_of t f v c)
  unfolding node_of node_head
  node_form z q = ap (λ (y : Form). part (named_by f) y (node_head t c) (kids_of t c) (λ v. down_of t f v c)) q

  kind_form : (k : ℕ) → kind_at t c ≡ k → node_of t f c ≡ part (named_by f) (look k forms Form.plain) (node_head t c) (kids_of t c) (λ v. down_of t f v c)
  kind_form k q = node_form (look k forms Form.plain) (ap (λ (z : ℕ). look z forms Form.plain) q)

  pub node_break : kind_at t c ≡ 1 → node_of t f c ≡ stop (breaks (broken_by (node_head t c)))
  node_break q = kind_form 1 q

  pub node_continue : kind_at t c ≡ 2 → node_of t f c ≡ stop (breaks (broken_by (node_head t c)))
  node_continue q = kind_form 2 q

  pub node_return : kind_at t c ≡ 4 → node_of t f c ≡ (down_of t f (of_role 4) c ⨟ stop (cond (has 4 (kids_of t c)) valued (bare (node_head t c))))
  node_return q = kind_form 4 q

  pub node_expression : kind_at t c ≡ 5 → node_of t f c ≡ (down_of t f (of_role 4) c ⨟ cond (fail_of t f c) (stop fails) skip)
  unfolding fail_of
  node_expression q = kind_form 5 q

  pub node_assign : kind_at t c ≡ 6 → node_of t f c ≡ (down_of t f (of_role 3) c ⨟ down_of t f (of_role 4) c ⨟ down_of t f (of_role 5) c ⨟ node_bind t 5 c)
  unfolding node_bind
  node_assign q = kind_form 6 q

  pub node_modify : kind_at t c ≡ 7
      → node_of t f c ≡ (down_of t f (of_role 4) c ⨟ down_of t f (of_role 5) c ⨟ node_use t 5 c ⨟ down_of t f (of_role 5) c ⨟ node_bind t 5 c)
  unfolding node_bind node_use
  node_modify q = kind_form 7 q

  pub node_statements : kind_at t c ≡ 8 → node_of t f c ≡ down_of t f (of_role 0) c
  node_statements q = kind_form 8 q

  pub node_if : kind_at t c ≡ 9 → node_of t f c ≡ (down_of t f (of_role 4) c ⨟ branch (down_of t f (of_role 1) c) skip)
  node_if q = kind_form 9 q

  pub node_if_else : kind_at t c ≡ 10 → node_of t f c ≡ (down_of t f (of_role 4) c ⨟ branch (down_of t f (of_role 1) c) (down_of t f (of_role 2) c))
  node_if_else q = kind_form 10 q

  pub node_for : kind_at t c ≡ 11 → node_of t f c ≡ (down_of t f (of_role 4) c ⨟ loop (down_of t f (of_role 5) c ⨟ node_bind t 5 c ⨟ down_of t f (of_role 1) c))
  unfolding node_bind
  node_for q = kind_form 11 q

  pub node_def : kind_at t c ≡ 12
      → node_of t f c ≡ (down_of t f (of_role 0) c ⨟ down_of t f (of_role 3) c ⨟ node_bind t 6 c ⨟ scope (node_bind t 0 c ⨟ down_of t f (of_role 1) c))
  unfolding node_bind
  node_def q = kind_form 12 q

  pub node_load : kind_at t c ≡ 13 → node_of t f c ≡ node_bind t 0 c
  unfolding node_bind
  node_load q = kind_form 13 q

  pub node_identifier : kind_at t c ≡ 20 → node_of t f c ≡ use_of (node_head t c)
  unfolding node_head
  node_identifier q = kind_form 20 q

  pub node_lambda : kind_at t c ≡ 24 → node_of t f c ≡ (down_of t f (of_role 0) c ⨟ scope (node_bind t 0 c ⨟ down_of t f (of_role 1) c))
  unfolding node_bind
  node_lambda q = kind_form 24 q

  pub node_list : kind_at t c ≡ 25 → node_of t f c ≡ (over_of t f c ⨟ scope (bound_of t f c ⨟ down_of t f (of_role 8) c ⨟ down_of t f (of_role 4) c))
  unfolding over_of bound_of
  node_list q = kind_form 25 q

  pub node_dict : kind_at t c ≡ 26 → node_of t f c ≡ (over_of t f c ⨟ scope (bound_of t f c ⨟ down_of t f (of_role 8) c ⨟ down_of t f (of_role 4) c))
  unfolding over_of bound_of
  node_dict q = kind_form 26 q

  -- the kinds that no table row names
  pub node_statement : (k : ℕ) → kind_at t c ≡ k → k < 8 → (k ≡ 1 → ⊥) → (k ≡ 2 → ⊥) → (k ≡ 4 → ⊥) → (k ≡ 5 → ⊥) → (k ≡ 6 → ⊥) → (k ≡ 7 → ⊥)
      → node_of t f c ≡ down_of t f every c
  node_statement k q h a b d e g i =
      node_form Form.plain (ap (λ (z : ℕ). look z forms Form.plain) q ∙ look_plain k a b d e g i (λ z. omega arith) (λ z. omega arith) (λ z. omega arith) (λ z. omega arith)
      (λ z. omega arith) (λ z. omega arith) (λ z. omega arith) (λ z. omega arith) (λ z. omega arith) (λ z. omega arith))

  pub node_other : (k : ℕ) → kind_at t c ≡ k → 14 ≤ k → (k ≡ 20 → ⊥) → (k ≡ 24 → ⊥) → (k ≡ 25 → ⊥) → (k ≡ 26 → ⊥) → node_of t f c ≡ down_of t f every c
  node_other k q h a b d e =
      node_form Form.plain (ap (λ (z : ℕ). look z forms Form.plain) q ∙ look_plain k (λ z. omega arith) (λ z. omega arith) (λ z. omega arith) (λ z. omega arith)
      (λ z. omega arith) (λ z. omega arith) (λ z. omega arith) (λ z. omega arith) (λ z. omega arith) (λ z. omega arith) (λ z. omega arith) (λ z. omega arith) a b d e)

-- a comprehension's clauses
module _ (t : List ℕ) (f : ℕ) where
  pub clauses_next : {i e : ℕ} → Part t i e → i < e
      → clauses_of t f i e ≡ picked (eqb 0 (role_at t i)) (down_of t f (of_role 4) i ⨟ down_of t f (of_role 5) i ⨟ node_bind t 5 i) (clauses_of t f (i + size_at t i) e)
  unfolding clauses_of visit_of down_of kids_of node_bind node_head
  clauses_next p lt = ap (takes (named_by f) clauses) (forest_node p lt)

  over_at : {i e : ℕ} → Part t i e
      → (child_of t 0 i e < e → visit_of t f first_over i e ≡ down_of t f (of_role 4) (child_of t 0 i e)) × (e ≤ child_of t 0 i e → visit_of t f first_over i e ≡ skip)
  unfolding visit_of down_of kids_of node_head
  over_at p = find.seek 0 (λ i e. (child_of t 0 i e < e → visit_of t f first_over i e ≡ down_of t f (of_role 4) (child_of t 0 i e)) × (e ≤ child_of t 0 i e → visit_of t f first_over i e ≡ skip)) t
      nothing here next p
    where
      nothing : (i e : ℕ) → e ≤ i → (child_of t 0 i e < e → visit_of t f first_over i e ≡ down_of t f (of_role 4) (child_of t 0 i e)) × (e ≤ child_of t 0 i e → visit_of t f first_over i e ≡ skip)
      nothing i e h = ((λ l. absurd (omega (arith, child_end t 0 i e h))), λ l. visit_end t f first_over i e h)

      here : (i e : ℕ) → Part t i e → i < e → role_at t i ≡ 0 → (child_of t 0 i e < e → visit_of t f first_over i e ≡ down_of t f (of_role 4) (child_of t 0 i e)) × (e ≤ child_of t 0 i e → visit_of t f first_over i e ≡ skip)
      here i e p lt q = ((λ l. rw (child_here t 0 i e lt q) (ap (takes (named_by f) first_over) (forest_node p lt) ∙ rw (q, step))), λ l. absurd (omega (arith, child_here t 0 i e lt q)))

      next : (i e : ℕ) → Part t i e → i < e → (role_at t i ≡ 0 → ⊥)
          → (child_of t 0 (i + size_at t i) e < e → visit_of t f first_over (i + size_at t i) e ≡ down_of t f (of_role 4) (child_of t 0 (i + size_at t i) e)) × (e ≤ child_of t 0 (i + size_at t i) e → visit_of t f first_over (i + size_at t i) e ≡ skip)
          → (child_of t 0 i e < e → visit_of t f first_over i e ≡ down_of t f (of_role 4) (child_of t 0 i e)) × (e ≤ child_of t 0 i e → visit_of t f first_over i e ≡ skip)
      next i e p lt q ih =
          let z = child_next p lt 0 q in
          let s : visit_of t f first_over i e ≡ visit_of t f first_over (i + size_at t i) e = ap (takes (named_by f) first_over) (forest_node p lt) ∙ rw (ne_eqb 0 (role_at t i) (λ x. q (sym x)), step) in
          ((λ l. s ∙ rw z (ih.0 (rw z at l))), λ l. s ∙ ih.1 (rw z at l))

  bound_at : {i e : ℕ} → Part t i e
      → (child_of t 0 i e < e → visit_of t f first_bound i e ≡ (down_of t f (of_role 5) (child_of t 0 i e) ⨟ node_bind t 5 (child_of t 0 i e) ⨟ clauses_of t f (child_of t 0 i e + size_at t (child_of t 0 i e)) e))
      × (e ≤ child_of t 0 i e → visit_of t f first_bound i e ≡ skip)
  unfolding visit_of down_of kids_of node_head node_bind clauses_of
  bound_at p = find.seek 0 (λ i e. (child_of t 0 i e < e → visit_of t f first_bound i e ≡ (down_of t f (of_role 5) (child_of t 0 i e) ⨟ node_bind t 5 (child_of t 0 i e) ⨟ clauses_of t f (child_of t 0 i e + size_at t (child_of t 0 i e)) e))
      × (e ≤ child_of t 0 i e → visit_of t f first_bound i e ≡ skip)) t
      nothing here next p
    where
      nothing : (i e : ℕ) → e ≤ i → (child_of t 0 i e < e → visit_of t f first_bound i e ≡ (down_of t f (of_role 5) (child_of t 0 i e) ⨟ node_bind t 5 (child_of t 0 i e) ⨟ clauses_of t f (child_of t 0 i e + size_at t (child_of t 0 i e)) e))
          × (e ≤ child_of t 0 i e → visit_of t f first_bound i e ≡ skip)
      nothing i e h = ((λ l. absurd (omega (arith, child_end t 0 i e h))), λ l. visit_end t f first_bound i e h)

      here : (i e : ℕ) → Part t i e → i < e → role_at t i ≡ 0
          → (child_of t 0 i e < e → visit_of t f first_bound i e ≡ (down_of t f (of_role 5) (child_of t 0 i e) ⨟ node_bind t 5 (child_of t 0 i e) ⨟ clauses_of t f (child_of t 0 i e + size_at t (child_of t 0 i e)) e))
          × (e ≤ child_of t 0 i e → visit_of t f first_bound i e ≡ skip)
      here i e p lt q = ((λ l. rw (child_here t 0 i e lt q) (ap (takes (named_by f) first_bound) (forest_node p lt) ∙ rw (q, step))), λ l. absurd (omega (arith, child_here t 0 i e lt q)))

      next : (i e : ℕ) → Part t i e → i < e → (role_at t i ≡ 0 → ⊥)
          → (child_of t 0 (i + size_at t i) e < e → visit_of t f first_bound (i + size_at t i) e ≡ (down_of t f (of_role 5) (child_of t 0 (i + size_at t i) e) ⨟ node_bind t 5 (child_of t 0 (i + size_at t i) e) ⨟ clauses_of t f (child_of t 0 (i + size_at t i) e + size_at t (child_of t 0 (i + size_at t i) e)) e))
          × (e ≤ child_of t 0 (i + size_at t i) e → visit_of t f first_bound (i + size_at t i) e ≡ skip)
          → (child_of t 0 i e < e → visit_of t f first_bound i e ≡ (down_of t f (of_role 5) (child_of t 0 i e) ⨟ node_bind t 5 (child_of t 0 i e) ⨟ clauses_of t f (child_of t 0 i e + size_at t (child_of t 0 i e)) e))
          × (e ≤ child_of t 0 i e → visit_of t f first_bound i e ≡ skip)
      next i e p lt q ih =
          let z = child_next p lt 0 q in
          let s : visit_of t f first_bound i e ≡ visit_of t f first_bound (i + size_at t i) e = ap (takes (named_by f) first_bound) (forest_node p lt) ∙ rw (ne_eqb 0 (role_at t i) (λ x. q (sym x)), step) in
          ((λ l. s ∙ rw z (ih.0 (rw z at l))), λ l. s ∙ ih.1 (rw z at l))

  -- of node c
  module _ {c d : ℕ} (n : Node t c d) where
    pub over_there : {x : ℕ} → Some x ≡ first_clause t c → over_of t f c ≡ down_of t f (of_role 4) x
    unfolding over_of
    over_there {x} h =
        let z = child_some t 0 (c + 1) (c + size_at t c) x h in
        down_visit t f first_over c ∙ (over_at (kids_held n)).0 (rw (← z.0) z.1) ∙ rw (← z.0)

    pub over_none : None ≡ first_clause t c → over_of t f c ≡ skip
    unfolding over_of
    over_none h = down_visit t f first_over c ∙ (over_at (kids_held n)).1 (child_none t 0 (c + 1) (c + size_at t c) h)

    pub bound_there : {x : ℕ} → Some x ≡ first_clause t c
        → bound_of t f c ≡ (down_of t f (of_role 5) x ⨟ node_bind t 5 x ⨟ clauses_of t f (x + size_at t x) (c + size_at t c))
    unfolding bound_of
    bound_there {x} h =
        let z = child_some t 0 (c + 1) (c + size_at t c) x h in
        down_visit t f first_bound c ∙ (bound_at (kids_held n)).0 (rw (← z.0) z.1) ∙ rw (← z.0)

    pub bound_none : None ≡ first_clause t c → bound_of t f c ≡ skip
    unfolding bound_of
    bound_none h = down_visit t f first_bound c ∙ (bound_at (kids_held n)).1 (child_none t 0 (c + 1) (c + size_at t c) h)

-- the first clause stands below node c
pub first_below : {t : List ℕ} {c d x : ℕ} → Node t c d → Some x ≡ first_clause t c → (c < x) × (x < c + size_at t c)
first_below {t} {c} {d} {x} n h =
    let z = child_some t 0 (c + 1) (c + size_at t c) x h in (omega (arith, z.0, child_ge (kids_held n) 0 (omega (arith, n.some))), z.1)
