-- What each step and return of the walks shows. Assumes nothing.
use Rattle.std.specs.Prelude.{Some}
use Prim.Native.Nat.{ℕ, ◌+◌, ◌≤◌, ◌<◌}
use native.Mathlib.Omega.{arith}
use native.Mathlib.Decide.{ℕ_discrete, dec_lt}
use mathlib.Core.Path.{◌≡◌, refl, sym, ap, ◌∙◌}
use mathlib.Core.List.{List, [], ◌∷◌, ◌++◌, append_assoc}
use mathlib.Core.Bool.{Bool, true, false, cond, ◌&&◌, ◌||◌, not}
use lib.Dec.{eqb, ltb, leb}
use Rattle.std.proofs.lemmas.Bool.{false≢true, ne_eqb, lt-ltb, le-ltb, leb-true, eqb-true, and_parts}
use Rattle.tree.specs.Bytes.{kind_at, size_at, value_at, pick}
use Rattle.tree.specs.Forest.{Head, Forest, none, node, node_spot, node_head, forest_of}
use Rattle.tree.specs.code.Part.{Part, Subtree}
use Rattle.tree.specs.code.Find.{first_child}
use Rattle.tree.proofs.FirstChild.{child_some}
use Rattle.tree.proofs.Laws.{sized, ended, first, kids, rest, forest_none, forest_node}
use Rattle.rules.specs.Record.{Rec, plainly, listed}
use Rattle.rules.specs.Visit.{look}
use Rattle.rules.specs.Flow.{Effect, some_effect, none_effect, by_children, effects, effect, effect_part, effect_walk, Loads, loads_part, loads, string_stated}
use Rattle.rules.proofs.Look.{look_all}
use Rattle.answer.proofs.Flat.{past, over, split}
use Rattle.answer.proofs.ByRole.{head_there}
use Rattle.tree.specs.Children.{slot_of}
use Rattle.tree.proofs.Roles.{kid_there}
use Rattle.tree.proofs.Whole.{sound}
use Rattle.flow.specs.Returns.{Checked}
use Rattle.flow.specs.Walks.{Stated, is_text, of_children, acts_by, acting, onto, inside, idle_at, past_of, into_of, load_at}
use Rattle.flow.proofs.Beside.{beside, below_split}
use Rattle.flow.proofs.Forms.{effect_other, loads_other, loads_end, loads_load, loads_silent}

pub whole_at : {t : List ℕ} {i e : ℕ} → Part t i e → i < e → Subtree t i
whole_at p lt = record { part = first p lt; some = sized p lt }

pub below : {t : List ℕ} {i : ℕ} → Subtree t i → Part t (i + 1) (i + size_at t i)
below w = kids w.part (omega (arith, w.some))

-- ---- whether an expression has effect

false_true : {A : Type 0} → false ≡ true → A
false_true e = absurd (false≢true e)

not_none : {A : Type 0} → some_effect ≡ none_effect → A
not_none u = let w : ◌≡◌ {A = ℕ} 0 1 = cc in absurd (omega arith)

not_children : {A : Type 0} → some_effect ≡ by_children → A
not_children u = let w : ◌≡◌ {A = ℕ} 0 1 = cc in absurd (omega arith)

-- conditionals, tuples, lists and dicts
by_them : (k : ℕ) → 27 ≤ k → k ≤ 30 → look k effects some_effect ≡ by_children
by_them k a b = go (ℕ_discrete k 27) (ℕ_discrete k 28) (ℕ_discrete k 29)
  where
    go : Dec (k ≡ 27) → Dec (k ≡ 28) → Dec (k ≡ 29) → look k effects some_effect ≡ by_children
    go (yes e) x y = rw e
    go (no d) (yes e) y = rw e
    go (no d) (no f) (yes e) = rw e
    go (no d) (no f) (no g) = let e : k ≡ 30 = omega (arith, d, f, g) in rw e

-- what is none of these, and not ellipsis or lambda
by_itself : (k : ℕ) → (k ≡ 22 → ⊥) → (k ≡ 24 → ⊥) → of_children k ≡ false → look k effects some_effect ≡ some_effect
by_itself k a b h =
    look_all (λ m x. (m ≡ 22 → ⊥) → (m ≡ 24 → ⊥) → of_children m ≡ false → x ≡ some_effect) k effects some_effect
    (λ a b c. absurd (a refl), (λ a b c. absurd (b refl), (λ a b c. false_true (sym c), (λ a b c. false_true (sym c), (λ a b c. false_true (sym c), (λ a b c. false_true (sym c), tt))))))
    (λ a b c. refl) a b h

them : (k : ℕ) → of_children k ≡ true → look k effects some_effect ≡ by_children
them k h = let z = and_parts (leb 27 k) (leb k 30) h in by_them k (leb-true 27 k z.0) (leb-true k 30 z.1)

module _ (strings : List Bool) (t : List ℕ) (j : ℕ) where
  pub acts_string : {b : Bool} → kind_at t j ≡ 21 → b ≡ is_text strings (value_at t j) → b ≡ acting strings (node_head t j)
  unfolding node_head node_spot
  acts_string k e = rw k e

  -- what is no literal
  pub acts_other : (kind_at t j ≡ 21 → ⊥) → (not (eqb (kind_at t j) 22 || eqb (kind_at t j) 24) && not (of_children (kind_at t j))) ≡ acting strings (node_head t j)
  unfolding node_head
  acts_other n = rw (ne_eqb 21 (kind_at t j) (λ z. n (sym z))) (go (ℕ_discrete (kind_at t j) 22) (ℕ_discrete (kind_at t j) 24) (of_children (kind_at t j)) refl)
    where
      go : Dec (kind_at t j ≡ 22) → Dec (kind_at t j ≡ 24) → (b : Bool) → of_children (kind_at t j) ≡ b
          → (not (eqb (kind_at t j) 22 || eqb (kind_at t j) 24) && not (of_children (kind_at t j))) ≡ acts_by (look (kind_at t j) effects some_effect)
      go (yes e) d b q = rw e
      go (no a) (yes e) b q = rw e
      go (no a) (no c) true q = rw (them (kind_at t j) q, q, ne_eqb (kind_at t j) 22 a, ne_eqb (kind_at t j) 24 c)
      go (no a) (no c) false q = rw (by_itself (kind_at t j) a c q, q, ne_eqb (kind_at t j) 22 a, ne_eqb (kind_at t j) 24 c)

pub inside_after : (t : List ℕ) (j : ℕ) → 1 ≤ size_at t j → j < inside t j
inside_after t j h = go (look (kind_at t j) effects some_effect)
  where
    go : (x : Effect) → j < onto x (j + 1) (j + size_at t j)
    go some_effect = omega arith
    go none_effect = omega arith
    go by_children = omega arith

module _ (F : ℕ → Bool) where
  effect_beside : (a b : Forest) → effect F (beside a b) ≡ (effect F a || effect F b)
  effect_beside none b = refl
  effect_beside (node h k s) b =
      go
      (cond (eqb 21 h.kind) (F h.spot.value) (elim (look h.kind effects some_effect) [ some_effect ↦ true | none_effect ↦ false | by_children ↦ effect F k ]))
      (effect_beside s b)
    where
      go : (x : Bool) → effect F (beside s b) ≡ (effect F s || effect F b) → (x || effect F (beside s b)) ≡ ((x || effect F s) || effect F b)
      go true e = refl
      go false e = e

  pub effect_past : (t : List ℕ) (i e : ℕ) → e ≤ i → false ≡ effect F (forest_of t i e)
  effect_past t i e h = rw (forest_none t i e h)

module _ (strings : List Bool) where
  pub effect_hit : {t : List ℕ} {i e : ℕ} → Part t i e → i < e → acting strings (node_head t i) ≡ true → true ≡ effect (is_text strings) (forest_of t i e)
  effect_hit {t} {i} {e} p lt h =
      rw (forest_node p lt) (go (eqb 21 (node_head t i).kind) (look (node_head t i).kind effects some_effect) h)
    where
      go : (b : Bool) (x : Effect) → cond b (is_text strings (node_head t i).spot.value) (acts_by x) ≡ true
          → true ≡ (cond b (is_text strings (node_head t i).spot.value)
          (elim x [ some_effect ↦ true | none_effect ↦ false | by_children ↦ effect (is_text strings) (forest_of t (i + 1) (i + size_at t i)) ])
          || effect (is_text strings) (forest_of t (i + size_at t i) e))
      go true x q = rw q
      go false some_effect q = refl
      go false none_effect q = false_true q
      go false by_children q = false_true q

  pub effect_miss : {t : List ℕ} {i e : ℕ} → Part t i e → i < e → acting strings (node_head t i) ≡ false
      → effect (is_text strings) (forest_of t i e) ≡ effect (is_text strings) (forest_of t (inside t i) e)
  unfolding node_head
  effect_miss {t} {i} {e} p lt h =
      ap (effect (is_text strings)) (forest_node p lt) ∙ go (eqb 21 (kind_at t i)) refl (look (kind_at t i) effects some_effect) refl h
    where
      go : (b : Bool) → eqb 21 (kind_at t i) ≡ b → (x : Effect) → look (kind_at t i) effects some_effect ≡ x
          → cond b (is_text strings (node_head t i).spot.value) (acts_by x) ≡ false
          → (cond b (is_text strings (node_head t i).spot.value)
          (elim x [ some_effect ↦ true | none_effect ↦ false | by_children ↦ effect (is_text strings) (forest_of t (i + 1) (i + size_at t i)) ])
          || effect (is_text strings) (forest_of t (i + size_at t i) e))
          ≡ effect (is_text strings) (forest_of t (onto x (i + 1) (i + size_at t i)) e)
      go true z some_effect y q = rw q
      go true z none_effect y q = let k : 21 ≡ kind_at t i = eqb-true 21 (kind_at t i) z in not_none (rw (← k) at y)
      go true z by_children y q = let k : 21 ≡ kind_at t i = eqb-true 21 (kind_at t i) z in not_children (rw (← k) at y)
      go false z some_effect y q = false_true (sym q)
      go false z none_effect y q = refl
      go false z by_children y q = sym (ap (effect (is_text strings)) (below_split p lt) ∙ effect_beside (is_text strings) (forest_of t (i + 1) (i + size_at t i)) (forest_of t (i + size_at t i) e))

-- ---- 13

module _ (strings : List Bool) (t : List ℕ) (i : ℕ) where
  abbrev pub here_idle : List Rec
  here_idle = idle_at strings (node_head t i) (forest_of t (i + 1) (i + size_at t i))

  pub idle_no : (kind_at t i ≡ 5 → ⊥) → here_idle ≡ []
  unfolding node_head
  idle_no n = effect_other (is_text strings) (node_head t i) (forest_of t (i + 1) (i + size_at t i)) [] n

  pub idle_acts : {b : Bool} → kind_at t i ≡ 5 → b ≡ effect (is_text strings) (forest_of t (i + 1) (i + size_at t i)) → b ≡ true → here_idle ≡ []
  unfolding node_head
  idle_acts k e h = rw (k, sym e ∙ h)

  pub idle_put : {b : Bool} → Subtree t i → kind_at t i ≡ 5
      → b ≡ effect (is_text strings) (forest_of t (i + 1) (i + size_at t i)) → b ≡ false → (c : ℕ)
      → Some c ≡ first_child t 4 (i + 1) (i + size_at t i) → here_idle ≡ plainly 13 (node_head t c) ∷ []
  unfolding node_head
  idle_put w k e h c y =
      let z = child_some t 4 (i + 1) (i + size_at t i) c y in
      rw (k, sym e ∙ h) (ap (λ (s : Head). plainly 13 s ∷ []) (head_there 4 (below w) (omega (arith, w.some)) (rw z.0 at z.1) ∙ ap (node_head t) (sym z.0)))

module _ (strings : List Bool) where
  abbrev walk : Forest → List Rec
  walk = effect_walk (is_text strings)

  abbrev Walk : Head → Forest → List Rec
  Walk h k = effect_part (is_text strings) h.kind k (effect_walk (is_text strings) k)

  pub idle_past : (t : List ℕ) (i n : ℕ) → n ≤ i → effect_walk (is_text strings) (forest_of t i n) ≡ []
  idle_past t i n h = past walk Walk refl (λ h k s. refl) t i n h

  pub idle_next : {t : List ℕ} {i n : ℕ} → Part t i n → i < n
      → effect_walk (is_text strings) (forest_of t i n) ≡ here_idle strings t i ++ effect_walk (is_text strings) (forest_of t (past_of 5 t i) n)
  unfolding node_head
  idle_next {t} {i} {n} p lt = over walk Walk refl (λ h k s. refl) p lt ∙ go (ℕ_discrete 5 (kind_at t i))
    where
      go : Dec (5 ≡ kind_at t i)
          → Walk (node_head t i) (forest_of t (i + 1) (i + size_at t i)) ++ walk (forest_of t (i + size_at t i) n)
          ≡ here_idle strings t i ++ walk (forest_of t (past_of 5 t i) n)
      go (yes k) = rw (← k)
      go (no k) =
          let z : kind_at t i ≡ 5 → ⊥ = λ y. k (sym y) in
          rw (ne_eqb 5 (kind_at t i) k, effect_other (is_text strings) (node_head t i) (forest_of t (i + 1) (i + size_at t i)) [] z, effect_other (is_text strings) (node_head t i) (forest_of t (i + 1) (i + size_at t i)) (walk (forest_of t (i + 1) (i + size_at t i))) z)
          (sym (split walk Walk refl (λ h k s. refl) (kids p lt) (rest p lt) (omega (arith, sized p lt)) (ended p lt)))

pub past_after : (k : ℕ) (t : List ℕ) (i : ℕ) → 1 ≤ size_at t i → i < past_of k t i
past_after k t i h = go (eqb k (kind_at t i))
  where
    go : (b : Bool) → i < pick b (i + size_at t i) (i + 1)
    go true = omega arith
    go false = omega arith

pub into_after : (k : ℕ) (t : List ℕ) (i : ℕ) → 1 ≤ size_at t i → i < into_of k t i
into_after k t i h = go (eqb k (kind_at t i))
  where
    go : (b : Bool) → i < pick b (i + 1) (i + size_at t i)
    go true = omega arith
    go false = omega arith

-- ---- 12

pub text_so : (F : ℕ → Bool) {t : List ℕ} {i e : ℕ} → Part t i e
    → string_stated F (forest_of t i e) ≡ (ltb i e && (eqb (kind_at t i) 21 && F (value_at t i)))
unfolding node_head node_spot
text_so F {t} {i} {e} p = go (dec_lt i e)
  where
    here : Dec (kind_at t i ≡ 21) → (eqb 21 (kind_at t i) && F (value_at t i)) ≡ (eqb (kind_at t i) 21 && F (value_at t i))
    here (yes k) = rw k
    here (no n) = rw (ne_eqb 21 (kind_at t i) (λ z. n (sym z)), ne_eqb (kind_at t i) 21 n)

    go : Dec (i < e) → string_stated F (forest_of t i e) ≡ (ltb i e && (eqb (kind_at t i) 21 && F (value_at t i)))
    go (yes l) = rw (forest_node p l, lt-ltb i e l) (here (ℕ_discrete (kind_at t i) 21))
    go (no l) = rw (forest_none t i e (omega arith), le-ltb i e (omega arith))

module _ (strings : List Bool) (may : Bool) (t : List ℕ) (j : ℕ) where
  abbrev pub load_here : Loads
  load_here = load_at strings may (node_head t j) (forest_of t (j + 1) (j + size_at t j))

  pub may_so : load_here.may ≡ (may && ((eqb (kind_at t j) 8 || eqb (kind_at t j) 13) || (eqb (kind_at t j) 5 && string_stated (is_text strings) (forest_of t (j + 1) (j + size_at t j)))))
  unfolding node_head
  may_so = go (ℕ_discrete (kind_at t j) 5) (ℕ_discrete (kind_at t j) 8) (ℕ_discrete (kind_at t j) 13) may
    where
      always : (b : Bool) → b ≡ (b && true)
      always true = refl
      always false = refl

      never : (b : Bool) → false ≡ (b && false)
      never true = refl
      never false = refl

      go : Dec (kind_at t j ≡ 5) → Dec (kind_at t j ≡ 8) → Dec (kind_at t j ≡ 13) → (m : Bool)
          → (load_at strings m (node_head t j) (forest_of t (j + 1) (j + size_at t j))).may
          ≡ (m && ((eqb (kind_at t j) 8 || eqb (kind_at t j) 13) || (eqb (kind_at t j) 5 && string_stated (is_text strings) (forest_of t (j + 1) (j + size_at t j)))))
      go (yes k) b c m = rw k
      go (no a) (yes k) c m = rw k (always m)
      go (no a) (no b) (yes k) m = rw k (always m)
      go (no a) (no b) (no c) m =
          rw (loads_end (is_text strings) m (node_head t j) (forest_of t (j + 1) (j + size_at t j)) (λ v. record { may = v; recs = [] }) a b c, ne_eqb (kind_at t j) 5 a, ne_eqb (kind_at t j) 8 b, ne_eqb (kind_at t j) 13 c)
          (never m)

  pub load_no : (kind_at t j ≡ 13 → ⊥) → load_here.recs ≡ []
  unfolding node_head
  load_no n = loads_silent (is_text strings) may (node_head t j) (forest_of t (j + 1) (j + size_at t j)) n

  here_load : kind_at t j ≡ 13 → load_here.recs ≡ listed (not may) (plainly 12 (node_head t j) ∷ []) []
  unfolding node_head
  here_load k = ap (λ (l : Loads). l.recs) (loads_load (is_text strings) may (node_head t j) (forest_of t (j + 1) (j + size_at t j)) (λ v. record { may = v; recs = [] }) k)

  pub load_allowed : may ≡ true → load_here.recs ≡ []
  load_allowed m = go (ℕ_discrete (kind_at t j) 13)
    where
      go : Dec (kind_at t j ≡ 13) → load_here.recs ≡ []
      go (yes k) = here_load k ∙ rw m
      go (no n) = load_no n

  pub load_put : kind_at t j ≡ 13 → may ≡ false → load_here.recs ≡ plainly 12 (node_head t j) ∷ []
  load_put k m = here_load k ∙ rw m

module _ (F : ℕ → Bool) where
  loads_beside : (a b : Forest) (may : Bool)
      → loads F may (beside a b) ≡ record { may = (loads F (loads F may a).may b).may; recs = (loads F may a).recs ++ (loads F (loads F may a).may b).recs }
  loads_beside none b may = refl
  loads_beside (node h k s) b may =
      go (loads_part F h.kind may h k (λ v. loads F v k)) (λ v. loads_beside s b v)
    where
      go : (a : Loads)
          → ((v : Bool) → loads F v (beside s b) ≡ record { may = (loads F (loads F v s).may b).may; recs = (loads F v s).recs ++ (loads F (loads F v s).may b).recs })
          → ◌≡◌ {A = Loads} (record { may = (loads F a.may (beside s b)).may; recs = a.recs ++ (loads F a.may (beside s b)).recs })
          (record { may = (loads F (loads F a.may s).may b).may; recs = (a.recs ++ (loads F a.may s).recs) ++ (loads F (loads F a.may s).may b).recs })
      go a f = rw (f a.may, append_assoc)

  pub loads_past : (may : Bool) (t : List ℕ) (i e : ℕ) → e ≤ i → (loads F may (forest_of t i e)).recs ≡ []
  loads_past may t i e h = rw (forest_none t i e h)

pub loads_next : (strings : List Bool) (may : Bool) {t : List ℕ} {j n : ℕ} → Part t j n → j < n
    → (loads (is_text strings) may (forest_of t j n)).recs
    ≡ (load_here strings may t j).recs ++ (loads (is_text strings) (load_here strings may t j).may (forest_of t (into_of 8 t j) n)).recs
unfolding node_head
loads_next strings may {t} {j} {n} p lt = ap (λ (f : Forest). (loads (is_text strings) may f).recs) (forest_node p lt) ∙ go (ℕ_discrete 8 (kind_at t j))
  where
    go : Dec (8 ≡ kind_at t j)
        → (loads (is_text strings) may (node (node_head t j) (forest_of t (j + 1) (j + size_at t j)) (forest_of t (j + size_at t j) n))).recs
        ≡ (load_here strings may t j).recs ++ (loads (is_text strings) (load_here strings may t j).may (forest_of t (into_of 8 t j) n)).recs
    go (yes k) =
        rw (← k)
        (sym (ap (λ (f : Forest). (loads (is_text strings) may f).recs) (below_split p lt)
        ∙ ap (λ (l : Loads). l.recs) (loads_beside (is_text strings) (forest_of t (j + 1) (j + size_at t j)) (forest_of t (j + size_at t j) n) may)))
    go (no k) =
        rw (ne_eqb 8 (kind_at t j) k, loads_other (is_text strings) may (node_head t j) (forest_of t (j + 1) (j + size_at t j)) (λ v. loads (is_text strings) v (forest_of t (j + 1) (j + size_at t j))) (λ v. record { may = v; recs = [] }) (λ z. k (sym z)))

-- in a valid file an expression statement has an expression
pub stated_valid : {t : List ℕ} {n : ℕ} → Checked t n → (j : ℕ) → j < n → Stated t j
unfolding slot_of
stated_valid {t} {n} c j l k =
    let s = sound t c.facts c.valid in
    kid_there s (omega (arith, s.nodes, c.nodes)) 4 (omega arith) (rw k (omega arith))
