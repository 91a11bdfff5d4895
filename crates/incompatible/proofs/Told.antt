-- 15: what is told by the table is what the rule judges. Assumes nothing.
use Rattle.std.specs.Prelude.{Option as Maybe, None, Some}
use Prim.Native.Nat.{ℕ, suc, ◌-◌, ◌≤◌, ◌<◌}
use native.Mathlib.Omega.{arith}
use native.Mathlib.Decide.{dec_lt, ℕ_discrete}
use mathlib.Core.Path.{◌≡◌, refl, sym, ap, ap₂, fun_ext, ◌∙◌}
use mathlib.Core.List.{List, [], ◌∷◌, ◌++◌, append_assoc}
use mathlib.Core.Option.{Option, none, some}
use mathlib.Core.Bool.{Bool, true, false, ◌&&◌, ◌||◌}
use lib.Dec.{eqb}
use lib.ListN.{length, get_or, set, replicate, length-replicate, get_or-replicate}
use lib.Seq.{get_or-set_same, get_or-set_other}
use borrow.Author.Tests.{eq-eqb, ne_eqb, eqb-true}
use Rattle.tree.specs.Bytes.{kind_at, value_at}
use Rattle.tree.specs.Forest.{Head, node_spot, node_head}
use Rattle.rules.specs.Record.{Rec}
use Rattle.rules.specs.Incompatible.{Deed, defines, repeats, First, first_of, was_free, free, defined, may_repeat, repeated, again}
use Rattle.rules.specs.declared.Allowance.{Allowance}
use Rattle.answer.specs.declared.LentSheet.{LentSheet}
use Rattle.answer.specs.Page.{writes, page, Added}
use Rattle.answer.proofs.Laws.{writes_none, writes_append}
use Rattle.answer.proofs.Flat.{added_none, added_as}
use Rattle.incompatible.specs.declared.assigns.Defined.{Defined}
use Rattle.incompatible.specs.declared.assigns.Definition.{Definition}
use Rattle.incompatible.specs.Ledger.{Ledger, told_by, ledger_by, free_now, spend, told, knows, tells, after, first_by, spent_by, ledger, Does}

-- ---- the rule

module _ (allowed : Allowance) where
  abbrev ledger_of : List First → List ℕ → Ledger
  ledger_of ds xs = record { allowed = allowed; first = λ x. first_of x ds; spent = λ x. was_free x xs }

  defined_told : (o : Option First) (l : Bool) (s : Head) (ds : List First) (xs : List ℕ) (on : List First → List Rec) (es : List Deed)
      → ((v : List First) → on v ≡ tells es (ledger_of v xs))
      → defined o l s ds on ≡ told_by o s ++ tells es (ledger_by o l s (ledger_of ds xs))
  defined_told none l s ds xs on es f = f (record { head = s; loaded = l } ∷ ds)
  defined_told (some d) l s ds xs on es f = ap (λ (r : List Rec). again d.head s ∷ r) (f ds)

  judge_told : (es : List Deed) (ds : List First) (xs : List ℕ) → repeated allowed es ds xs ≡ tells es (ledger_of ds xs)
  unfolding tells
  judge_told [] ds xs = refl
  judge_told (defines l s ∷ es) ds xs =
      defined_told (first_of s.spot.value ds) l s ds xs (λ v. repeated allowed es v xs) es (λ v. judge_told es v xs)
  judge_told (repeats s ∷ es) ds xs =
      go (may_repeat allowed (first_of s.spot.value ds) (was_free s.spot.value xs)) (judge_told es ds (s.spot.value ∷ xs))
      (defined_told (first_of s.spot.value ds) false s ds xs (λ v. repeated allowed es v xs) es (λ v. judge_told es v xs))
    where
      go : (b : Bool) → repeated allowed es ds (s.spot.value ∷ xs) ≡ tells es (ledger_of ds (s.spot.value ∷ xs))
          → defined (first_of s.spot.value ds) false s ds (λ v. repeated allowed es v xs) ≡ told_by (first_of s.spot.value ds) s ++ tells es (ledger_by (first_of s.spot.value ds) false s (ledger_of ds xs))
          → elim b [ true ↦ repeated allowed es ds (s.spot.value ∷ xs) | false ↦ defined (first_of s.spot.value ds) false s ds (λ v. repeated allowed es v xs) ]
          ≡ elim b [ true ↦ [] | false ↦ told_by (first_of s.spot.value ds) s ] ++ tells es (elim b [ true ↦ spend (ledger_of ds xs) s.spot.value | false ↦ ledger_by (first_of s.spot.value ds) false s (ledger_of ds xs) ])
      go true f g = f
      go false f g = g

-- ---- deeds one after the other

pub tells_append : (xs ys : List Deed) (k : Ledger) → tells (xs ++ ys) k ≡ tells xs k ++ tells ys (after xs k)
unfolding tells after
tells_append [] ys k = refl
tells_append (x ∷ xs) ys k = rw (tells_append xs ys (knows x k)) (sym (append_assoc (told x k) (tells xs (knows x k)) (tells ys (after xs (knows x k)))))

pub after_append : (xs ys : List Deed) (k : Ledger) → after (xs ++ ys) k ≡ after ys (after xs k)
unfolding after
after_append [] ys k = refl
after_append (x ∷ xs) ys k = after_append xs ys (knows x k)

-- ---- the table

at_set : {A : Type 0} (xs : List A) (v x : ℕ) (a d : A) → v < length xs → get_or (set xs v a) x d ≡ elim (eqb x v) [ true ↦ a | false ↦ get_or xs x d ]
at_set xs v x a d h = go (ℕ_discrete x v)
  where
    go : Dec (x ≡ v) → get_or (set xs v a) x d ≡ elim (eqb x v) [ true ↦ a | false ↦ get_or xs x d ]
    go (yes e) = rw (eq-eqb x v e, e) (get_or-set_same xs v a d h)
    go (no n) = rw (ne_eqb x v n) (get_or-set_other xs v x a d n)

pub does_none : (t : List ℕ) (d : Defined) (s : LentSheet) → Does t d s [] d s
unfolding tells after
does_none t d s = record { wrote = added_none s; then = refl }

-- two ledgers of one allowance
ledger_same : (k l : Ledger) → k.allowed ≡ l.allowed → ((x : ℕ) → k.first x ≡ l.first x) → ((x : ℕ) → k.spent x ≡ l.spent x) → k ≡ l
ledger_same k l e p q =
    ap (λ (a : Allowance). record { allowed = a; first = k.first; spent = k.spent }) e
    ∙ ap₂ (λ (f : ℕ → Option First) (g : ℕ → Bool). record { allowed = l.allowed; first = f; spent = g }) (fun_ext p) (fun_ext q)

-- node i names value v
module _ (t : List ℕ) (d : Defined) (s : LentSheet) (i v : ℕ) (ev : v ≡ value_at t i) where
  -- d' is d with w of that name
  module _ (d' : Defined) (w : Definition) (h : v < length d.names) (e : d'.allowed ≡ d.allowed) (a : d'.names ≡ set d.names v (Some w)) where
    each_name : (x : ℕ) → get_or d'.names x None ≡ elim (eqb x (value_at t i)) as (λ b. Maybe Definition) [ true ↦ Some w | false ↦ get_or d.names x None ]
    each_name x = rw (a, ev) (at_set d.names (value_at t i) x (Some w) None (rw ev at h))

    changed : (l : Ledger) → d.allowed ≡ l.allowed
        → ((x : ℕ) (b : Bool) → eqb x (value_at t i) ≡ b → first_by t (elim b [ true ↦ Some w | false ↦ get_or d.names x None ]) ≡ l.first x)
        → ((x : ℕ) (b : Bool) → eqb x (value_at t i) ≡ b → spent_by (elim b [ true ↦ Some w | false ↦ get_or d.names x None ]) ≡ l.spent x)
        → ledger t d' ≡ l
    changed l m p q =
        ledger_same (ledger t d') l (e ∙ m) (λ x. rw (each_name x) (p x (eqb x (value_at t i)) refl)) (λ x. rw (each_name x) (q x (eqb x (value_at t i)) refl))

    -- a name that was not defined
    pub ident_new : get_or d.names v None ≡ None → w.node ≡ i → w.exported ≡ false
        → Does t d s (defines (eqb (kind_at t i) 47) (node_head t i) ∷ []) d' s
    unfolding tells after node_head node_spot
    ident_new z n x =
        let y : get_or d.names (value_at t i) None ≡ None = rw ev at z in
        record { wrote = rw y (added_none s); then = rw y (changed (ledger_by none (eqb (kind_at t i) 47) (node_head t i) (ledger t d)) refl (first y) (spent y)) }
      where
        first : get_or d.names (value_at t i) None ≡ None → (x : ℕ) (b : Bool) → eqb x (value_at t i) ≡ b
            → first_by t (elim b [ true ↦ Some w | false ↦ get_or d.names x None ])
            ≡ elim (eqb x (value_at t i)) [ true ↦ some (record { head = node_head t i; loaded = eqb (kind_at t i) 47 }) | false ↦ first_by t (get_or d.names x None) ]
        first y x true u = rw (u, n)
        first y x false u = rw u

        spent : get_or d.names (value_at t i) None ≡ None → (u : ℕ) (b : Bool) → eqb u (value_at t i) ≡ b
            → spent_by (elim b [ true ↦ Some w | false ↦ get_or d.names u None ]) ≡ spent_by (get_or d.names u None)
        spent y u true q = rw (eqb-true u (value_at t i) q, y) x
        spent y u false q = refl

    -- x = x that is free
    pub repeat_free : (f : Definition) → get_or d.names v None ≡ Some f → true ≡ eqb (kind_at t f.node) 47 && free d.allowed f.exported → w.node ≡ f.node → w.exported ≡ true
        → Does t d s (repeats (node_head t i) ∷ []) d' s
    unfolding tells after node_head node_spot
    repeat_free f z g n x =
        let y : get_or d.names (value_at t i) None ≡ Some f = rw ev at z in
        record {
          wrote = rw (y, sym g, told) (added_none s);
          then = rw (y, sym g, knows) (changed (spend (ledger t d) (value_at t i)) refl (first y) (spent y));
        }
      where
        first : get_or d.names (value_at t i) None ≡ Some f → (u : ℕ) (b : Bool) → eqb u (value_at t i) ≡ b
            → first_by t (elim b [ true ↦ Some w | false ↦ get_or d.names u None ]) ≡ first_by t (get_or d.names u None)
        first y u true q = rw (eqb-true u (value_at t i) q, y, n)
        first y u false q = refl

        spent : get_or d.names (value_at t i) None ≡ Some f → (u : ℕ) (b : Bool) → eqb u (value_at t i) ≡ b
            → spent_by (elim b [ true ↦ Some w | false ↦ get_or d.names u None ]) ≡ eqb u (value_at t i) || spent_by (get_or d.names u None)
        spent y u true q = rw q x
        spent y u false q = rw q

  -- a name that was
  pub ident_again : (f : Definition) {s' : LentSheet} → get_or d.names v None ≡ Some f → Added s s' (again (node_head t f.node) (node_head t i) ∷ [])
      → Does t d s (defines (eqb (kind_at t i) 47) (node_head t i) ∷ []) d s'
  unfolding tells after node_head node_spot
  ident_again f z w =
      let y : get_or d.names (value_at t i) None ≡ Some f = rw ev at z in record { wrote = rw y w; then = rw y }

  -- x = x that is not
  pub repeat_not : {d' : Defined} {s' : LentSheet} → kind_at t i ≡ 40 → free_now (ledger t d) v ≡ false
      → Does t d s (defines (eqb (kind_at t i) 47) (node_head t i) ∷ []) d' s' → Does t d s (repeats (node_head t i) ∷ []) d' s'
  unfolding tells after node_head node_spot
  repeat_not k f w =
      let y : free_now (ledger t d) (value_at t i) ≡ false = rw ev at f in
      let z : eqb (kind_at t i) 47 ≡ false = rw k in
      record { wrote = rw (y, told) w.wrote; then = rw (y, knows) (rw z at w.then) }

-- ---- whether x = x is free

module _ (t : List ℕ) (d : Defined) (v : ℕ) where
  pub free_none : get_or d.names v None ≡ None → free_now (ledger t d) v ≡ false
  free_none z = rw z

  pub free_some : (f : Definition) → get_or d.names v None ≡ Some f → false ≡ eqb (kind_at t f.node) 47 && free d.allowed f.exported → free_now (ledger t d) v ≡ false
  free_some f z g = rw z (sym g)

-- ---- a loop: what is told so far, with what is still left to tell, comes to the whole

pub record Telling (t : List ℕ) (d₀ : Defined) (s₀ : LentSheet) (all : List Deed) (d : Defined) (s : LentSheet) (left : List Deed) : Type 0 where
  pub yet : writes (page s) (tells left (ledger t d)) ≡ writes (page s₀) (tells all (ledger t d₀))
  pub same_room : s.out.ghost_name ≡ s₀.out.ghost_name
  pub then : after left (ledger t d) ≡ after all (ledger t d₀)

pub telling : (t : List ℕ) (d : Defined) (s : LentSheet) (all : List Deed) → Telling t d s all d s all
telling t d s all = record { yet = refl; same_room = refl; then = refl }

pub telling_on : {t : List ℕ} {d₀ d d' : Defined} {s₀ s s' : LentSheet} {all zs : List Deed} → Telling t d₀ s₀ all d s zs
    → (xs ys : List Deed) → Does t d s xs d' s' → zs ≡ xs ++ ys → Telling t d₀ s₀ all d' s' ys
telling_on {t = t} {d = d} {s = s} g xs ys w e =
    record {
      yet =
          rw (w.wrote.so, w.then)
          (sym (writes_append (page s) (tells xs (ledger t d)) (tells ys (after xs (ledger t d))))
          ∙ ap (writes (page s)) (sym (tells_append xs ys (ledger t d)) ∙ ap (λ (l : List Deed). tells l (ledger t d)) (sym e)))
          ∙ g.yet;
      same_room = w.wrote.same_room ∙ g.same_room;
      then = rw w.then (sym (after_append xs ys (ledger t d)) ∙ ap (λ (l : List Deed). after l (ledger t d)) (sym e)) ∙ g.then;
    }

pub telling_end : {t : List ℕ} {d₀ d : Defined} {s₀ s : LentSheet} {all zs : List Deed} → Telling t d₀ s₀ all d s zs → zs ≡ [] → Does t d₀ s₀ all d s
unfolding tells after
telling_end {s = s} g e =
    record { wrote = record { so = sym (writes_none (page s)) ∙ (rw e at g.yet); same_room = g.same_room }; then = rw e at g.then }

-- ---- nothing defined yet

get_d_beyond : {A : Type 0} (xs : List A) (i : ℕ) (d : A) → length xs ≤ i → get_or xs i d ≡ d
get_d_beyond [] i d h = refl
get_d_beyond (x ∷ xs) i d h = let q : i ≡ suc (i - 1) = omega arith in rw q (get_d_beyond xs (i - 1) d (omega arith))

at_none : {A : Type 0} (n x : ℕ) (a : A) → get_or (replicate n a) x a ≡ a
at_none n x a = go (dec_lt x n)
  where
    go : Dec (x < n) → get_or (replicate n a) x a ≡ a
    go (yes h) = get_or-replicate n x a a h
    go (no h) = get_d_beyond (replicate n a) x a (rw length-replicate (omega arith))

nothing_known : (t : List ℕ) (allowed : Allowance) (d : Defined) → d.allowed ≡ allowed → d.names ≡ replicate 512 None → ledger t d ≡ ledger_of allowed [] []
nothing_known t allowed d e a =
    let z : (x : ℕ) → get_or d.names x None ≡ None = λ x. rw (a, at_none {A = Maybe Definition} 512 x None) in
    ledger_same (ledger t d) (ledger_of allowed [] []) e (λ x. rw (z x)) (λ x. rw (z x))

pub all_judged : (t : List ℕ) (allowed : Allowance) (es : List Deed) (d : Defined) {d' : Defined} {s s' : LentSheet}
    → d.allowed ≡ allowed → d.names ≡ replicate 512 None → Does t d s es d' s' → Added s s' (repeated allowed es [] [])
all_judged t allowed es d e a w =
    added_as _ (judge_told allowed es [] [] ∙ ap (tells es) (sym (nothing_known t allowed d e a))) w.wrote
