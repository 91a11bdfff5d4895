-- 02, §9: version 2 changes nothing but 15, and there it only quiets. Of two files that differ in their version alone the lists of names,
-- flow and dubious are the same, and version 2's joined list is version 1's without the 15s of re-exports. Assumes nothing.
use Prim.Native.Nat.{ℕ}
use native.Mathlib.Omega.{arith}
use mathlib.Core.Path.{◌≡◌, refl, sym, ap, ◌∙◌}
use mathlib.Core.Bool.{Bool, true, false, not, ◌&&◌}
use mathlib.Core.List.{List, [], ◌∷◌, ◌++◌, append_assoc}
use mathlib.Core.Option.{Option, none, some}
use lib.Dec.{eqb}
use borrow.Author.Tests.{eqb-true}
use Rattle.tree.specs.Bytes.{version_of}
use Rattle.tree.specs.Forest.{Head, tree_of}
use Rattle.tree.specs.Table.{table_of, spells}
use Rattle.tree.specs.Versions.{Twins}
use Rattle.tree.specs.declared.Mode.{Mode}
use Rattle.tree.proofs.Versions.{same_tree, same_table, same_globals}
use Rattle.rules.specs.declared.Allowance.TheVariants.{Once, Always}
use Rattle.rules.specs.Record.{Rec}
use Rattle.rules.specs.Visit.{each}
use Rattle.rules.specs.Names.{met_in, names_list}
use Rattle.rules.specs.Flow.{flow_list}
use Rattle.rules.specs.Incompatible.{check_at, Deed, defines, repeats, deeds, First, first_of, was_free, again, defined, may_repeat, repeated, type_name, five_types, spells_one, incompatible_list}
use Rattle.rules.specs.Dubious.{dubious_list}
use Rattle.rules.specs.Joined.{lint_list}
use Rattle.rules.specs.Dialect.{head_of, first_deed, Among, Quieted, end, goes, stays, stays_own, QuietedIn}

-- ---- the rule's first definitions are the first deeds

abbrev loaded_of : Deed → Bool
loaded_of (defines l h) = l
loaded_of (repeats h) = false

abbrev as_first : Option Deed → Option First
as_first none = none
as_first (some e) = some (record { head = head_of e; loaded = loaded_of e })

abbrev or_else : Option Deed → Option Deed → Option Deed
or_else none b = b
or_else (some a) b = some a

first_joined : (x : ℕ) (ps es : List Deed) → first_deed x (ps ++ es) ≡ or_else (first_deed x ps) (first_deed x es)
first_joined x [] es = refl
first_joined x (p ∷ ps) es = go (eqb x (head_of p).spot.value) (first_joined x ps es)
  where
    go : (b : Bool) → first_deed x (ps ++ es) ≡ or_else (first_deed x ps) (first_deed x es)
        → ◌≡◌ {A = Option Deed} (elim b [ true ↦ some p | false ↦ first_deed x (ps ++ es) ]) (or_else (elim b [ true ↦ some p | false ↦ first_deed x ps ]) (first_deed x es))
    go true q = refl
    go false q = q

-- these are the first definitions of the names of these deeds
abbrev Firsts : List First → List Deed → Type 0
Firsts ds ps = (x : ℕ) → first_of x ds ≡ as_first (first_deed x ps)

none_some : {A : Type 0} {d : First} {o : Option First} → o ≡ none → o ≡ some d → A
none_some p q = let z : ◌≡◌ {A = ℕ} 0 1 = cc in absurd (omega arith)

module _ (ds : List First) (ps : List Deed) (e : Deed) (k : Firsts ds ps) where
  abbrev x_of : ℕ
  x_of = (head_of e).spot.value

  -- a name that was defined stays as it was
  defined_firsts : (d : First) → first_of x_of ds ≡ some d → Firsts ds (ps ++ (e ∷ []))
  defined_firsts d q x = k x ∙ go (first_deed x ps) refl (eqb x x_of) refl ∙ ap as_first (sym (first_joined x ps (e ∷ [])))
    where
      go : (o : Option Deed) → first_deed x ps ≡ o → (b : Bool) → eqb x x_of ≡ b → as_first o ≡ as_first (or_else o (elim b [ true ↦ some e | false ↦ none ]))
      go (some a) p b c = refl
      go none p true c = none_some (k x ∙ ap as_first p) (ap (λ (n : ℕ). first_of n ds) (eqb-true x x_of c) ∙ q)
      go none p false c = refl

  -- a new one is defined by this deed
  new_firsts : first_of x_of ds ≡ none → Firsts (record { head = head_of e; loaded = loaded_of e } ∷ ds) (ps ++ (e ∷ []))
  new_firsts q x = go (first_deed x ps) refl (eqb x x_of) refl ∙ ap as_first (sym (first_joined x ps (e ∷ [])))
    where
      go : (o : Option Deed) → first_deed x ps ≡ o → (b : Bool) → eqb x x_of ≡ b
          → ◌≡◌ {A = Option First} (elim b [ true ↦ some (record { head = head_of e; loaded = loaded_of e }) | false ↦ first_of x ds ]) (as_first (or_else o (elim b [ true ↦ some e | false ↦ none ])))
      go none p true c = refl
      go (some a) p true c = none_some (ap (λ (n : ℕ). first_of n ds) (eqb-true x x_of c) ∙ q) (k x ∙ ap as_first p)
      go none p false c = k x ∙ ap as_first p
      go (some a) p false c = k x ∙ ap as_first p

-- a first definition is a deed of the name, by a load or not
load_deed : (o : Option Deed) (d : First) → d.loaded ≡ true → as_first o ≡ some d → o ≡ some (defines true d.head)
load_deed none d l e = none_some refl e
load_deed (some (defines true h)) d l e = cc
load_deed (some (defines false h)) d l e = let z : ◌≡◌ {A = ℕ} 0 1 = cc in absurd (omega arith)
load_deed (some (repeats h)) d l e = let z : ◌≡◌ {A = ℕ} 0 1 = cc in absurd (omega arith)

other_deed : (o r : Option Deed) (d : First) → d.loaded ≡ false → as_first o ≡ some d → (g : Head) → or_else o r ≡ some (defines true g) → ⊥
other_deed none r d l e g q = none_some refl e
other_deed (some a) r d l e g q =
    let n : as_first (some a) ≡ as_first (some (defines true g)) = ap as_first q in
    let z : ◌≡◌ {A = ℕ} 0 1 = cc in
    omega arith

-- ---- one deed, and all

module _ (all ps es : List Deed) (ds : List First) (k : Firsts ds ps) where
  -- what comes after the deed e
  abbrev Next : Deed → Type 0
  Next e = (ds' : List First) → Firsts ds' (ps ++ (e ∷ [])) → (xs ys : List ℕ) → Quieted all (repeated Once es ds' xs) (repeated Always es ds' ys)

  among : (e : Deed) → all ≡ ps ++ (e ∷ es) → Among all e
  among e there = record { earlier = ps; later = es; there = there }

  first_here : (e : Deed) → all ≡ ps ++ (e ∷ es) → (x : ℕ) → first_deed x all ≡ or_else (first_deed x ps) (first_deed x (e ∷ es))
  first_here e there x = ap (first_deed x) there ∙ first_joined x ps (e ∷ es)

  -- a name that is defined, for the first time or again; stay: the record of a deed that comes again
  defined_quiets : (e : Deed) (xs ys : List ℕ) → Next e
      → ((d : First) → first_of (head_of e).spot.value ds ≡ some d → (vs ws : List Rec) → Quieted all vs ws
      → Quieted all (again d.head (head_of e) ∷ vs) (again d.head (head_of e) ∷ ws))
      → (o : Option First) → first_of (head_of e).spot.value ds ≡ o
      → Quieted all (defined o (loaded_of e) (head_of e) ds (λ v. repeated Once es v xs)) (defined o (loaded_of e) (head_of e) ds (λ v. repeated Always es v ys))
  defined_quiets e xs ys c stay none q = c (record { head = head_of e; loaded = loaded_of e } ∷ ds) (new_firsts ds ps e k q) xs ys
  defined_quiets e xs ys c stay (some d) q = stay d q _ _ (c ds (defined_firsts ds ps e k d q) xs ys)

  repeat_quiets : (h : Head) (xs ys : List ℕ) → all ≡ ps ++ (repeats h ∷ es) → Next (repeats h)
      → (o : Option First) → first_of h.spot.value ds ≡ o → (b b' : Bool)
      → Quieted all (elim (may_repeat Once o b) [ true ↦ repeated Once es ds (h.spot.value ∷ xs) | false ↦ defined o false h ds (λ v. repeated Once es v xs) ])
      (elim (may_repeat Always o b') [ true ↦ repeated Always es ds (h.spot.value ∷ ys) | false ↦ defined o false h ds (λ v. repeated Always es v ys) ])
  repeat_quiets h xs ys e c none q b b' = c (record { head = h; loaded = false } ∷ ds) (new_firsts ds ps (repeats h) k q) xs ys
  repeat_quiets h xs ys e c (some d) q b b' = go d.loaded refl b
    where
      same : Firsts ds (ps ++ (repeats h ∷ []))
      same = defined_firsts ds ps (repeats h) k d q

      first : as_first (first_deed h.spot.value ps) ≡ some d
      first = sym (k h.spot.value) ∙ q

      go : (l : Bool) → d.loaded ≡ l → (b : Bool)
          → Quieted all (elim (l && not b) [ true ↦ repeated Once es ds (h.spot.value ∷ xs) | false ↦ again d.head h ∷ repeated Once es ds xs ])
          (elim (l && true) [ true ↦ repeated Always es ds (h.spot.value ∷ ys) | false ↦ again d.head h ∷ repeated Always es ds ys ])
      go false l b =
          stays_own d.head h (among (repeats h) e)
          (λ i w. other_deed (first_deed h.spot.value ps) (first_deed h.spot.value (repeats h ∷ es)) d l first i (sym (first_here (repeats h) e h.spot.value) ∙ w))
          (c ds same xs ys)
      go true l false = c ds same (h.spot.value ∷ xs) (h.spot.value ∷ ys)
      go true l true =
          goes d.head h (among (repeats h) e)
          (first_here (repeats h) e h.spot.value ∙ ap (λ (o : Option Deed). or_else o (first_deed h.spot.value (repeats h ∷ es))) (load_deed (first_deed h.spot.value ps) d l first))
          (c ds same xs (h.spot.value ∷ ys))

deeds_quiet : (all ps es : List Deed) (ds : List First) (xs ys : List ℕ) → all ≡ ps ++ es → Firsts ds ps
    → Quieted all (repeated Once es ds xs) (repeated Always es ds ys)
deeds_quiet all ps [] ds xs ys e k = end
deeds_quiet all ps (defines l h ∷ es) ds xs ys e k =
    defined_quiets all ps es ds k (defines l h) xs ys (λ ds' k' xs' ys'. deeds_quiet all (ps ++ (defines l h ∷ [])) es ds' xs' ys' (e ∙ sym (append_assoc ps (defines l h ∷ []) es)) k')
    (λ d q vs ws w. stays d.head h l (among all ps es ds k (defines l h) e) w) (first_of h.spot.value ds) refl
deeds_quiet all ps (repeats h ∷ es) ds xs ys e k =
    repeat_quiets all ps es ds k h xs ys e (λ ds' k' xs' ys'. deeds_quiet all (ps ++ (repeats h ∷ [])) es ds' xs' ys' (e ∙ sym (append_assoc ps (repeats h ∷ []) es)) k')
    (first_of h.spot.value ds) refl (was_free h.spot.value xs) (was_free h.spot.value ys)

-- ---- files

module _ (t u : List ℕ) (s : Twins t u) where
  pub same_names : names_list t ≡ names_list u
  unfolding names_list met_in
  same_names = rw (same_table t u s, same_tree t u s, same_globals t u s)

  pub same_flow : flow_list t ≡ flow_list u
  unfolding flow_list
  same_flow = rw (same_table t u s, same_tree t u s)

  pub same_dubious : (mode : Mode) → dubious_list mode t ≡ dubious_list mode u
  unfolding dubious_list
  same_dubious mode = rw (same_table t u s, same_tree t u s)

  pub quieted : (mode : Mode) → version_of t ≡ 1 → version_of u ≡ 2 → QuietedIn (deeds (tree_of u)) (lint_list mode t) (lint_list mode u)
  unfolding lint_list incompatible_list
  quieted mode one two =
      let checks = each (check_at (spells (table_of u) type_name) (spells_one (table_of u) five_types)) (tree_of u) in
      let es = deeds (tree_of u) in
      record {
        front = names_list u ++ (flow_list u ++ checks);
        behind = dubious_list mode u;
        ones = repeated Once es [] [];
        others = repeated Always es [] [];
        first = rw (same_names, same_flow, same_dubious mode, one, same_table t u s, same_tree t u s) (placed (names_list u) (flow_list u) checks (repeated Once es [] []) (dubious_list mode u));
        second = rw two (placed (names_list u) (flow_list u) checks (repeated Always es [] []) (dubious_list mode u));
        quieted = deeds_quiet es [] es [] [] [] refl (λ x. refl);
      }
    where
      placed : (a b c x d : List Rec) → a ++ (b ++ ((c ++ x) ++ d)) ≡ (a ++ (b ++ c)) ++ (x ++ d)
      placed a b c x d =
          ap (λ (l : List Rec). a ++ (b ++ l)) (append_assoc c x d)
          ∙ sym (append_assoc a (b ++ c) (x ++ d) ∙ ap (λ (l : List Rec). a ++ l) (append_assoc b c (x ++ d)))
