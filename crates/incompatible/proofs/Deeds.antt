-- 15: what each step and return of the walk shows of the deeds. Assumes nothing.
use Rattle.std.specs.Prelude.{Option, None, Some}
use Prim.Native.Nat.{ℕ, ◌+◌, ◌≤◌, ◌<◌}
use native.Mathlib.Omega.{arith}
use native.Mathlib.Decide.{ℕ_discrete}
use mathlib.Core.Path.{◌≡◌, refl, sym, ap, ◌∙◌}
use mathlib.Core.List.{List, [], ◌∷◌, ◌++◌, append-nil, append_assoc}
use mathlib.Core.Bool.{Bool, true, false, ◌&&◌, ◌||◌}
use lib.Dec.{eqb}
use borrow.Author.Tests.{eq-eqb, ne_eqb}
use Rattle.tree.specs.Bytes.{kind_at, role_at, size_at, value_at, pick}
use Rattle.tree.specs.Forest.{Head, Forest, node, node_spot, node_head, forest_of}
use Rattle.tree.specs.code.Part.{Part}
use Rattle.tree.specs.code.Find.{first_child}
use Rattle.tree.proofs.Search.{clash}
use Rattle.tree.proofs.Laws.{later, sized, ended, kids, rest}
use Rattle.rules.specs.Record.{listed}
use Rattle.rules.specs.Visit.{look, kind_among}
use Rattle.rules.specs.Order.{nothing, bindings, bind_of}
use Rattle.rules.specs.Incompatible.{Deed, defines, repeats, deed_part, defined_names, self_set, Top, assigning, modifying, defining, loading, holding, aside, tops, top_part, deeds}
use Rattle.rules.proofs.Look.{look_all}
use Rattle.answer.proofs.Flat.{past, over, split}
use Rattle.incompatible.specs.Ground.{Low}
use Rattle.incompatible.specs.Ledger.{named_one, below_one, is_several, goes_in, top_of, deeds_one, top_assign, SelfSet}
use Rattle.answer.proofs.Bits.{and_false}
use Rattle.incompatible.proofs.Checks.{not_eqb, below_e, head_is, kind_is, spot_is, kind_missing}

-- ---- what a node binds

abbrev pub bound : ℕ → Bool
bound k = eqb k 40 || (eqb k 43 || eqb k 47)

pub binds_one : (k : ℕ) (s : Head) (down : ℕ → List Deed) → true ≡ bound k → deed_part (look k bindings nothing) s down ≡ defines (eqb k 47) s ∷ []
binds_one k s down b = go (ℕ_discrete k 40) (ℕ_discrete k 43) (ℕ_discrete k 47)
  where
    go : Dec (k ≡ 40) → Dec (k ≡ 43) → Dec (k ≡ 47) → deed_part (look k bindings nothing) s down ≡ defines (eqb k 47) s ∷ []
    go (yes e) y z = rw e
    go (no x) (yes e) z = rw e
    go (no x) (no y) (yes e) = rw e
    go (no x) (no y) (no z) = clash (sym b) (rw (ne_eqb k 40 x, ne_eqb k 43 y, ne_eqb k 47 z))

pub binds_none : (k : ℕ) (s : Head) (down : ℕ → List Deed) → false ≡ bound k → (k ≡ 41 → ⊥) → deed_part (look k bindings nothing) s down ≡ []
binds_none k s down =
    look_all (λ n b. false ≡ bound n → (n ≡ 41 → ⊥) → deed_part b s down ≡ []) k bindings nothing
    ((λ e n. clash refl (sym e)), ((λ e n. absurd (n refl)), ((λ e n. clash refl (sym e)), ((λ e n. clash refl (sym e)), tt)))) (λ e n. refl)

binds_below : (k : ℕ) (s : Head) → false ≡ bound k → deed_part (look k bindings nothing) s (λ v. []) ≡ []
binds_below k s =
    look_all (λ n b. false ≡ bound n → deed_part b s (λ v. []) ≡ []) k bindings nothing
    ((λ e. clash refl (sym e)), ((λ e. refl), ((λ e. clash refl (sym e)), ((λ e. clash refl (sym e)), tt)))) (λ e. refl)

binds_alike : (k : ℕ) (s : Head) (down : ℕ → List Deed) → (k ≡ 41 → ⊥) → deed_part (look k bindings nothing) s down ≡ deed_part (look k bindings nothing) s (λ v. [])
binds_alike k s down =
    look_all (λ n b. (n ≡ 41 → ⊥) → deed_part b s down ≡ deed_part b s (λ v. [])) k bindings nothing
    ((λ n. refl), ((λ n. absurd (n refl)), ((λ n. refl), ((λ n. refl), tt)))) (λ n. refl)

pub fewer : {t : List ℕ} {n m : ℕ} → Low t n → m ≤ n → Low t m
fewer l h = record { low = λ j k. l.low j (omega arith) }

-- ---- the names of a role

named_cons : (r : ℕ) (h : Head) (k s : Forest) → defined_names r (node h k s) ≡ named_one r h k ++ defined_names r s
named_cons r h k s = go (eqb r h.role) (deed_part (bind_of h) h (λ v. defined_names v k))
  where
    go : (b : Bool) (xs : List Deed) → listed b xs (defined_names r s) ≡ listed b xs [] ++ defined_names r s
    go true xs = rw append-nil
    go false xs = refl

pub named_over : (r : ℕ) {t : List ℕ} {i e : ℕ} → Part t i e → i < e
    → defined_names r (forest_of t i e) ≡ named_one r (node_head t i) (forest_of t (i + 1) (i + size_at t i)) ++ defined_names r (forest_of t (i + size_at t i) e)
named_over r p lt = over (defined_names r) (named_one r) refl (named_cons r) p lt

pub named_past : (r : ℕ) (t : List ℕ) (i e : ℕ) → e ≤ i → defined_names r (forest_of t i e) ≡ []
named_past r t i e h = past (defined_names r) (named_one r) refl (named_cons r) t i e h

named_down : (h : Head) (k : Forest) → named_one 0 h k ≡ below_one h ++ pick (is_several h) (defined_names 0 k) []
named_down h k = go (eqb 0 h.role) (ℕ_discrete h.kind 41)
  where
    go : (b : Bool) → Dec (h.kind ≡ 41)
        → listed b (deed_part (bind_of h) h (λ v. defined_names v k)) []
        ≡ listed b (deed_part (bind_of h) h (λ v. [])) [] ++ pick (b && eqb 41 h.kind) (defined_names 0 k) []
    go false d = refl
    go true (yes e) = rw (e, append-nil)
    go true (no n) = rw (not_eqb n, append-nil, append-nil, append-nil) (binds_alike h.kind h (λ v. defined_names v k) n)

-- node j, and what stands where the walk goes on
pub below_step : {t : List ℕ} {j e : ℕ} → Part t j e → j < e
    → defined_names 0 (forest_of t j e) ≡ below_one (node_head t j) ++ defined_names 0 (forest_of t (pick (is_several (node_head t j)) (j + 1) (j + size_at t j)) e)
below_step {t} {j} {e} p lt =
    named_over 0 p lt ∙ rw (named_down (node_head t j) (forest_of t (j + 1) (j + size_at t j)), append_assoc) (ap (λ (l : List Deed). below_one (node_head t j) ++ l) (go (is_several (node_head t j))))
  where
    go : (b : Bool) → pick b (defined_names 0 (forest_of t (j + 1) (j + size_at t j))) [] ++ defined_names 0 (forest_of t (j + size_at t j) e)
        ≡ defined_names 0 (forest_of t (pick b (j + 1) (j + size_at t j)) e)
    go true = sym (split (defined_names 0) (named_one 0) refl (named_cons 0) (kids p lt) (rest p lt) (omega (arith, sized p lt)) (ended p lt))
    go false = refl

-- where a walk goes on
pub going_part : {t : List ℕ} {j e : ℕ} (b : Bool) → Part t j e → j < e
    → Part t (pick b (j + 1) (j + size_at t j)) e × (j < pick b (j + 1) (j + size_at t j)) × (pick b (j + 1) (j + size_at t j) ≤ e)
going_part true p lt = (later p (omega arith), omega arith, omega arith)
going_part false p lt = (rest p lt, omega (arith, sized p lt), ended p lt)

-- ---- one node of a role

module _ (t : List ℕ) (role j : ℕ) (f : Forest) where
  pub role_other : (role_at t j ≡ role → ⊥) → named_one role (node_head t j) f ≡ []
  unfolding node_head
  role_other h = rw (not_eqb h)

  module _ (er : role_at t j ≡ role) where
    pub role_none : (kind_at t j ≡ 41 → ⊥) → false ≡ bound (kind_at t j) → named_one role (node_head t j) f ≡ []
    unfolding node_head
    role_none n b = rw (eq-eqb role (role_at t j) (sym er), binds_none (kind_at t j) (node_head t j) (λ v. defined_names v f) b n)

    pub role_several : kind_at t j ≡ 41 → named_one role (node_head t j) f ≡ defined_names 0 f
    unfolding node_head
    role_several k = rw (eq-eqb role (role_at t j) (sym er), k, append-nil)

    pub role_one : true ≡ bound (kind_at t j) → named_one role (node_head t j) f ≡ defines (eqb (kind_at t j) 47) (node_head t j) ∷ []
    unfolding node_head
    role_one b = rw (eq-eqb role (role_at t j) (sym er), binds_one (kind_at t j) (node_head t j) (λ v. defined_names v f) b)

module _ (t : List ℕ) (j : ℕ) where
  pub below_other : (role_at t j ≡ 0 → ⊥) → below_one (node_head t j) ≡ []
  unfolding node_head
  below_other h = rw (not_eqb h)

  pub below_none : role_at t j ≡ 0 → false ≡ bound (kind_at t j) → below_one (node_head t j) ≡ []
  unfolding node_head
  below_none er b = rw (eq-eqb 0 (role_at t j) (sym er), binds_below (kind_at t j) (node_head t j) b)

  pub below_name : role_at t j ≡ 0 → true ≡ bound (kind_at t j) → below_one (node_head t j) ≡ defines (eqb (kind_at t j) 47) (node_head t j) ∷ []
  unfolding node_head
  below_name er b = rw (eq-eqb 0 (role_at t j) (sym er), binds_one (kind_at t j) (node_head t j) (λ v. []) b)

module _ (t : List ℕ) (j : ℕ) where
  pub several_yes : role_at t j ≡ 0 → kind_at t j ≡ 41 → is_several (node_head t j) ≡ true
  unfolding node_head
  several_yes a b = rw (a, b)

  pub several_other : (kind_at t j ≡ 41 → ⊥) → is_several (node_head t j) ≡ false
  unfolding node_head
  several_other n = rw (not_eqb n) (and_false (eqb 0 (role_at t j)))

  pub several_role : (role_at t j ≡ 0 → ⊥) → is_several (node_head t j) ≡ false
  unfolding node_head
  several_role n = rw (not_eqb n)

-- ---- x = x: the first child of role 5 at x, of role 4 at y

module _ {t : List ℕ} {i e : ℕ} (part : Part t i e) (le : i ≤ e) where
  pub self_no_target : ◌≡◌ {A = Option ℕ} None (first_child t 5 i e) → self_set (forest_of t i e) ≡ false
  self_no_target absent = rw (kind_missing 5 part le absent)

  pub self_no_value : ◌≡◌ {A = Option ℕ} None (first_child t 4 i e) → self_set (forest_of t i e) ≡ false
  self_no_value absent = rw (kind_missing 4 part le absent) (and_false (eqb 40 (kind_among 5 (forest_of t i e))))

  module _ {x y : ℕ} (is_x : ◌≡◌ {A = Option ℕ} (Some x) (first_child t 5 i e)) (is_y : ◌≡◌ {A = Option ℕ} (Some y) (first_child t 4 i e)) where
    self_is : self_set (forest_of t i e) ≡ eqb 40 (kind_at t x) && (eqb 20 (kind_at t y) && eqb (value_at t x) (value_at t y))
    unfolding node_spot
    self_is = rw (kind_is 5 part le is_x, kind_is 4 part le is_y, spot_is 5 part le is_x, spot_is 4 part le is_y)

    pub self_other : (kind_at t x ≡ 40 → ⊥) → self_set (forest_of t i e) ≡ false
    self_other n = self_is ∙ rw (not_eqb n)

    pub self_value : (kind_at t y ≡ 20 → ⊥) → self_set (forest_of t i e) ≡ false
    self_value n = self_is ∙ rw (not_eqb n, and_false (eqb 40 (kind_at t x)))

    pub self_apart : (value_at t x ≡ value_at t y → ⊥) → self_set (forest_of t i e) ≡ false
    self_apart n = self_is ∙ rw (ne_eqb (value_at t x) (value_at t y) n, and_false (eqb 20 (kind_at t y)), and_false (eqb 40 (kind_at t x)))

    pub self_found : kind_at t x ≡ 40 → kind_at t y ≡ 20 → value_at t x ≡ value_at t y → SelfSet t i e (Some x)
    self_found a b c =
        (self_is ∙ rw (a, b, eq-eqb (value_at t x) (value_at t y) c), head_is 5 part le is_x, below_e 5 part le is_x, a)

pub assign_repeat : (t : List ℕ) (i e x : ℕ) → SelfSet t i e (Some x) → top_assign (forest_of t i e) ≡ repeats (node_head t x) ∷ []
assign_repeat t i e x f = rw (f.0, f.1)

pub assign_named : (t : List ℕ) (i e : ℕ) → self_set (forest_of t i e) ≡ false → top_assign (forest_of t i e) ≡ defined_names 5 (forest_of t i e)
assign_named t i e f = rw f

-- ---- a statement

top_split : (b : Top) (k : Forest) (down : List Deed) → top_part b k down ≡ top_part b k [] ++ pick (goes_in b) down []
top_split assigning k down = rw append-nil
top_split modifying k down = rw append-nil
top_split defining k down = rw append-nil
top_split loading k down = rw append-nil
top_split holding k down = refl
top_split aside k down = refl

abbrev deeds_all : Head → Forest → List Deed
deeds_all h k = top_part (top_of h.kind) k (deeds k)

pub deeds_past : (t : List ℕ) (i e : ℕ) → e ≤ i → deeds (forest_of t i e) ≡ []
deeds_past t i e h = past deeds deeds_all refl (λ h k s. refl) t i e h

pub deeds_step : {t : List ℕ} {i e : ℕ} → Part t i e → i < e
    → deeds (forest_of t i e) ≡ deeds_one (node_head t i) (forest_of t (i + 1) (i + size_at t i)) ++ deeds (forest_of t (pick (goes_in (top_of (kind_at t i))) (i + 1) (i + size_at t i)) e)
unfolding node_head
deeds_step {t} {i} {e} p lt =
    over deeds deeds_all refl (λ h k s. refl) p lt
    ∙ rw (top_split (top_of (kind_at t i)) (forest_of t (i + 1) (i + size_at t i)) (deeds (forest_of t (i + 1) (i + size_at t i))), append_assoc)
    (ap (λ (l : List Deed). deeds_one (node_head t i) (forest_of t (i + 1) (i + size_at t i)) ++ l) (go (goes_in (top_of (kind_at t i)))))
  where
    go : (b : Bool) → pick b (deeds (forest_of t (i + 1) (i + size_at t i))) [] ++ deeds (forest_of t (i + size_at t i) e)
        ≡ deeds (forest_of t (pick b (i + 1) (i + size_at t i)) e)
    go true = sym (split deeds deeds_all refl (λ h k s. refl) (kids p lt) (rest p lt) (omega (arith, sized p lt)) (ended p lt))
    go false = refl

other_none : (k : ℕ) (f : Forest) → (k ≡ 6 → ⊥) → (k ≡ 7 → ⊥) → (k ≡ 12 → ⊥) → (k ≡ 13 → ⊥) → top_part (top_of k) f [] ≡ []
other_none k f =
    look_all (λ n b. (n ≡ 6 → ⊥) → (n ≡ 7 → ⊥) → (n ≡ 12 → ⊥) → (n ≡ 13 → ⊥) → top_part b f [] ≡ []) k tops aside
    ((λ x y z w. absurd (x refl)), ((λ x y z w. absurd (y refl)), ((λ x y z w. absurd (z refl)), ((λ x y z w. absurd (w refl)), ((λ x y z w. refl), ((λ x y z w. refl), ((λ x y z w. refl), ((λ x y z w. refl), tt)))))))) (λ x y z w. refl)

module _ (t : List ℕ) (i : ℕ) (f : Forest) where
  pub stmt_assign : kind_at t i ≡ 6 → deeds_one (node_head t i) f ≡ top_assign f
  unfolding node_head
  stmt_assign k = rw k

  pub stmt_modify : kind_at t i ≡ 7 → deeds_one (node_head t i) f ≡ defined_names 5 f
  unfolding node_head
  stmt_modify k = rw k

  pub stmt_def : kind_at t i ≡ 12 → deeds_one (node_head t i) f ≡ defined_names 6 f
  unfolding node_head
  stmt_def k = rw k

  pub stmt_load : kind_at t i ≡ 13 → deeds_one (node_head t i) f ≡ defined_names 0 f
  unfolding node_head
  stmt_load k = rw k

  pub stmt_other : (kind_at t i ≡ 6 → ⊥) → (kind_at t i ≡ 7 → ⊥) → (kind_at t i ≡ 12 → ⊥) → (kind_at t i ≡ 13 → ⊥) → deeds_one (node_head t i) f ≡ []
  unfolding node_head
  stmt_other x y z w = other_none (kind_at t i) f x y z w
