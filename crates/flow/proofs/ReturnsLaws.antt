-- What each step and return of the functions of returns shows. Assumes nothing.
use Rattle.std.specs.Prelude.{Option as Maybe, Some, None, is_some, MatchOption}
use Prim.Native.Nat.{ℕ, ◌+◌, ◌≤◌, ◌<◌}
use native.Mathlib.Omega.{arith}
use native.Mathlib.Decide.{dec_lt, ℕ_discrete}
use mathlib.Core.Path.{◌≡◌, refl, sym, ap, ◌∙◌}
use mathlib.Core.Bool.{Bool, true, false, cond, ◌&&◌, not}
use mathlib.Core.List.{List, [], ◌∷◌, ◌++◌, append-nil, append_assoc}
use mathlib.Core.Option.{Option, none, some}
use lib.Dec.{eqb, ltb}
use borrow.Author.Tests.{lt-ltb, le-ltb, eq-eqb, ne_eqb}
use Rattle.tree.specs.Bytes.{kind_at, role_at, size_at, value_at, pick}
use Rattle.tree.specs.Forest.{Spot, Head, Forest, Forest.none as leaf, node, node_spot, node_head, forest_of}
use Rattle.tree.specs.code.Part.{Part, Subtree}
use Rattle.tree.specs.code.Find.{child_of, first_child}
use Rattle.tree.specs.Children.{many}
use Rattle.tree.proofs.Laws.{later, sized, ended, kids, first, rest, forest_node, forest_one}
use Rattle.tree.proofs.FirstChild.{child_some, child_none}
use Rattle.tree.proofs.Find.{seek, child_end, child_here, child_next, child_ge, many_here, many_next}
use Rattle.rules.specs.Record.{Rec, listed}
use Rattle.rules.specs.Visit.{look, has, spot_at}
use Rattle.rules.specs.Flow.{Return, Which, everything, the_body, returns_part, returns, first_valued, type_reason, reason, ends, missing, missing_expression, bare_recs, check_for, check, returns_walk}
use Rattle.answer.proofs.Flat.{past, over, split, next}
use Rattle.answer.proofs.ByRole.{there, absent, place_there}
use Rattle.flow.specs.Returns.{Shaped, Tidy, TidyAt, DefAt, head_if, own}

-- ---- parts

pub tidy_later : {t : List ℕ} {i e : ℕ} → Tidy t i e → {j : ℕ} → i ≤ j → Tidy t j e
tidy_later p a = record { part = later p.part a; defs = λ m b c. p.defs m (omega arith) c }

pub tidy_first : {t : List ℕ} {i e : ℕ} → Tidy t i e → i < e → TidyAt t i
tidy_first {t} {i} {e} p lt =
    let n = ended p.part lt in
    record {
      tidy = record { part = first p.part lt; defs = λ m b c. p.defs m b (omega arith) };
      some = sized p.part lt;
    }

pub tidy_kids : {t : List ℕ} {i : ℕ} → TidyAt t i → Tidy t (i + 1) (i + size_at t i)
tidy_kids {t} {i} w = tidy_later w.tidy (omega arith)

pub tidy_whole : {t : List ℕ} {i e : ℕ} → Tidy t i e → i < e → Subtree t i
tidy_whole p lt = record { part = first p.part lt; some = sized p.part lt }

pub whole_kids : {t : List ℕ} {i : ℕ} → Subtree t i → Part t (i + 1) (i + size_at t i)
whole_kids w = kids w.part (omega (arith, w.some))

pub def_shaped : {t : List ℕ} {i : ℕ} → DefAt t i → Shaped t i
def_shaped {t} {i} d = d.at.tidy.defs i (omega arith) (omega (arith, d.at.some)) d.kind

-- ---- the first child of a role

some_so : (b : Bool) (j : ℕ) → is_some (elim b as (λ _. Maybe ℕ) [ true ↦ Some j | false ↦ None ]) ≡ b
some_so true j = refl
some_so false j = refl

pub has_child : (r : ℕ) {t : List ℕ} {i e : ℕ} → Part t i e → i ≤ e → is_some (first_child t r i e) ≡ has r (forest_of t i e)
has_child r {t} {i} {e} p h = some_so (ltb (child_of t r i e) e) (child_of t r i e) ∙ go (dec_lt (child_of t r i e) e)
  where
    go : Dec (child_of t r i e < e) → ltb (child_of t r i e) e ≡ has r (forest_of t i e)
    go (yes l) = lt-ltb _ e l ∙ sym (there r (has r) (λ g k. true) false refl (λ g k s b. rw b) (λ g k s b. rw b) p h l)
    go (no l) = le-ltb _ e (omega arith) ∙ sym (absent r (has r) (λ g k. true) false refl (λ g k s b. rw b) (λ g k s b. rw b) p (omega arith))

module _ (is_none : ℕ → Bool) {t : List ℕ} {i e : ℕ} (p : Part t i e) (h : i ≤ e) where
  abbrev of_type : Head → Forest → Option Head
  of_type g k = cond (eqb 20 g.kind && is_none g.spot.value) none (some g)

  pub type_absent : None ≡ first_child t 3 i e → head_if t None ≡ type_reason is_none (forest_of t i e)
  unfolding head_if
  type_absent q =
      sym (absent 3 (type_reason is_none) of_type none refl (λ g k s b. rw (b, type_reason)) (λ g k s b. rw (b, type_reason)) p (child_none t 3 i e q))

  module _ {j : ℕ} (q : Some j ≡ first_child t 3 i e) where
    type_there : type_reason is_none (forest_of t i e) ≡ cond (eqb 20 (kind_at t j) && is_none (value_at t j)) none (some (node_head t j))
    unfolding node_head node_spot
    type_there =
        let z = child_some t 3 i e j q in
        rw z.0 (there 3 (type_reason is_none) of_type none refl (λ g k s b. rw (b, type_reason)) (λ g k s b. rw (b, type_reason)) p h (rw z.0 at z.1))

    pub type_none : kind_at t j ≡ 20 → is_none (value_at t j) ≡ true → head_if t None ≡ type_reason is_none (forest_of t i e)
    unfolding head_if
    type_none a b = sym (type_there ∙ rw (a, b))

    pub type_other : is_none (value_at t j) ≡ false → head_if t (Some j) ≡ type_reason is_none (forest_of t i e)
    unfolding head_if
    type_other b = sym (type_there ∙ rw b (never (eqb 20 (kind_at t j))))
      where
        never : (x : Bool) → cond (x && false) none (some (node_head t j)) ≡ some (node_head t j)
        never true = refl
        never false = refl

    pub type_more : (kind_at t j ≡ 20 → ⊥) → head_if t (Some j) ≡ type_reason is_none (forest_of t i e)
    unfolding head_if
    type_more a = sym (type_there ∙ rw (ne_eqb 20 (kind_at t j) (λ z. a (sym z))))

-- ---- the returns, by node numbers

part_of : Head → Forest → List Return
part_of h k = returns_part h.kind h k (λ v. returns v k)

returns_over : {t : List ℕ} {j e : ℕ} → Part t j e → j < e
    → returns everything (forest_of t j e)
    ≡ returns_part (node_head t j).kind (node_head t j) (forest_of t (j + 1) (j + size_at t j)) (λ v. returns v (forest_of t (j + 1) (j + size_at t j)))
    ++ returns everything (forest_of t (j + size_at t j) e)
unfolding part_of
returns_over p lt = over (returns everything) part_of refl (λ h k s. refl) p lt

pub returns_past : (t : List ℕ) (j e : ℕ) → e ≤ j → returns everything (forest_of t j e) ≡ []
unfolding part_of
returns_past t j e h = past (returns everything) part_of refl (λ h k s. refl) t j e h

returns_split : {t : List ℕ} {i j e : ℕ} → Part t i j → Part t j e → i ≤ j → j ≤ e
    → returns everything (forest_of t i e) ≡ returns everything (forest_of t i j) ++ returns everything (forest_of t j e)
unfolding part_of
returns_split p q a b = split (returns everything) part_of refl (λ h k s. refl) p q a b

-- what is no def is a return itself, or nothing, and then what is below it
part_own : (h : Head) (k : Forest) (down : Which → List Return) → (h.kind ≡ 12 → ⊥)
    → returns_part h.kind h k down ≡ own h k ++ down everything
unfolding own
part_own h k down d = go (ℕ_discrete h.kind 4)
  where
    go : Dec (h.kind ≡ 4) → returns_part h.kind h k down ≡ listed (eqb 4 h.kind) (record { head = h; valued = has 4 k } ∷ []) [] ++ down everything
    go (yes q) = rw q
    go (no q) =
        rw (ne_eqb 4 h.kind (λ z. q (sym z)), ne_eqb h.kind 4 q, ne_eqb h.kind 12 d, look)

pub returns_next : {t : List ℕ} {j e : ℕ} → Tidy t j e → j < e → (m : ℕ) → m ≡ j + pick (eqb 12 (kind_at t j)) (size_at t j) 1
    → returns everything (forest_of t j e) ≡ own (node_head t j) (forest_of t (j + 1) (j + size_at t j)) ++ returns everything (forest_of t m e)
unfolding node_head own
returns_next {t} {j} {e} w lt m q = go (ℕ_discrete (kind_at t j) 12)
  where
    go : Dec (kind_at t j ≡ 12) → returns everything (forest_of t j e) ≡ own (node_head t j) (forest_of t (j + 1) (j + size_at t j)) ++ returns everything (forest_of t m e)
    go (yes d) =
        let m' : m ≡ j + size_at t j = q ∙ rw (eq-eqb 12 (kind_at t j) (sym d)) in
        rw (m', d) (returns_over w.part lt ∙ rw (d, (w.defs j (omega arith) lt d).rest))
    go (no d) =
        let m' : m ≡ j + 1 = q ∙ rw (ne_eqb 12 (kind_at t j) (λ z. d (sym z))) in
        let s = sized w.part lt in
        rw m'
        (returns_over w.part lt
        ∙ ap (λ (l : List Return). l ++ returns everything (forest_of t (j + size_at t j) e)) (part_own (node_head t j) (forest_of t (j + 1) (j + size_at t j)) (λ v. returns v (forest_of t (j + 1) (j + size_at t j))) d)
        ∙ append_assoc (own (node_head t j) (forest_of t (j + 1) (j + size_at t j))) _ _
        ∙ ap (λ (l : List Return). own (node_head t j) (forest_of t (j + 1) (j + size_at t j)) ++ l) (sym (returns_split (kids w.part lt) (rest w.part lt) (omega arith) (ended w.part lt))))

pub step_some : (t : List ℕ) (j : ℕ) → 1 ≤ size_at t j → 1 ≤ pick (eqb 12 (kind_at t j)) (size_at t j) 1
step_some t j s = go (eqb 12 (kind_at t j))
  where
    go : (b : Bool) → 1 ≤ pick b (size_at t j) 1
    go true = s
    go false = omega arith

-- ---- the first return with an expression

first_own : (s : Head) (b v : Bool) (on : List Return)
    → first_valued (listed b (record { head = s; valued = v } ∷ []) [] ++ on) ≡ cond (b && v) (some s) (first_valued on)
first_own s true true on = refl
first_own s true false on = refl
first_own s false true on = refl
first_own s false false on = refl

module _ {t : List ℕ} {j e : ℕ} (w : Tidy t j e) (lt : j < e) where
  pub valued_here : (eqb 4 (kind_at t j) && has 4 (forest_of t (j + 1) (j + size_at t j))) ≡ true
      → head_if t (Some j) ≡ first_valued (returns everything (forest_of t j e))
  unfolding head_if node_head own
  valued_here q =
      sym (ap first_valued (returns_next w lt _ refl) ∙ first_own (node_head t j) (eqb 4 (kind_at t j)) (has 4 (forest_of t (j + 1) (j + size_at t j))) _ ∙ rw q)

  pub valued_next : (m : ℕ) → m ≡ j + pick (eqb 12 (kind_at t j)) (size_at t j) 1 → (eqb 4 (kind_at t j) && has 4 (forest_of t (j + 1) (j + size_at t j))) ≡ false
      → first_valued (returns everything (forest_of t m e)) ≡ first_valued (returns everything (forest_of t j e))
  unfolding node_head own
  valued_next m a q =
      sym (ap first_valued (returns_next w lt m a) ∙ first_own (node_head t j) (eqb 4 (kind_at t j)) (has 4 (forest_of t (j + 1) (j + size_at t j))) _ ∙ rw q)

pub valued_end : (t : List ℕ) (j e : ℕ) → e ≤ j → head_if t None ≡ first_valued (returns everything (forest_of t j e))
unfolding head_if
valued_end t j e h = rw (returns_past t j e h)

-- ---- a def's one body

body_none : (f : Forest) → many 1 f ≡ 0 → returns the_body f ≡ []
unfolding many
body_none leaf z = refl
body_none (node h k s) z = go (ℕ_discrete h.role 1) (body_none s)
  where
    go : Dec (h.role ≡ 1) → (many 1 s ≡ 0 → returns the_body s ≡ []) → returns the_body (node h k s) ≡ []
    go (yes q) f = let y : 1 + many 1 s ≡ 0 = (rw (eq-eqb h.role 1 q) at z) in absurd (omega arith)
    go (no q) f =
        let y : 0 + many 1 s ≡ 0 = (rw (ne_eqb h.role 1 q) at z) in
        rw (ne_eqb 1 h.role (λ x. q (sym x))) (f (omega arith))

pub body_one : {t : List ℕ} {i e : ℕ} → Part t i e → many 1 (forest_of t i e) ≤ 1 → (b : ℕ) → b ≡ child_of t 1 i e → b < e
    → returns the_body (forest_of t i e) ≡ returns everything (forest_of t b (b + size_at t b))
unfolding node_head
body_one {t} p m b q lt = rw q (seek 1 Q t nothing here next p m (rw q at lt))
  where
    Q : ℕ → ℕ → Type 0
    Q i e = many 1 (forest_of t i e) ≤ 1 → child_of t 1 i e < e
        → returns the_body (forest_of t i e) ≡ returns everything (forest_of t (child_of t 1 i e) (child_of t 1 i e + size_at t (child_of t 1 i e)))

    nothing : (i e : ℕ) → e ≤ i → Q i e
    nothing i e h m l = absurd (omega (arith, child_end t 1 i e h))

    here : (i e : ℕ) → Part t i e → i < e → role_at t i ≡ 1 → Q i e
    here i e p lt q m l =
        let z : many 1 (forest_of t (i + size_at t i) e) ≡ 0 = omega (arith, many_here p lt 1 q) in
        rw (child_here t 1 i e lt q, forest_one p lt, append-nil) (rw (forest_node p lt, q) (rw (body_none _ z, append-nil)))

    next : (i e : ℕ) → Part t i e → i < e → (role_at t i ≡ 1 → ⊥) → Q (i + size_at t i) e → Q i e
    next i e p lt q ih m l =
        let z = child_next p lt 1 q in
        rw z (rw (forest_node p lt, ne_eqb 1 (role_at t i) (λ x. q (sym x))) (ih (omega (arith, many_next p lt 1 q)) (rw z at l)))

-- ---- why a def wants a value

module _ {t : List ℕ} {i : ℕ} (d : DefAt t i) where
  abbrev End : ℕ
  End = i + size_at t i

  pub def_kids : Part t (i + 1) End
  def_kids = kids d.at.tidy.part (omega (arith, d.at.some))

  module _ {b : ℕ} (q : Some b ≡ first_child t 1 (i + 1) End) where
    -- the body is a part of the def
    pub body_tidy : Tidy t b (b + size_at t b)
    body_tidy =
        let z = child_some t 1 (i + 1) End b q in
        let w = tidy_kids d.at in
        let ge : i + 1 ≤ b = rw z.0 (child_ge w.part 1 (omega (arith, d.at.some))) in
        (tidy_first (tidy_later w ge) z.1).tidy

    pub body_returns : returns the_body (forest_of t (i + 1) End) ≡ returns everything (forest_of t b (b + size_at t b))
    body_returns =
        let z = child_some t 1 (i + 1) End b q in
        body_one def_kids (def_shaped d).one b z.0 z.1

-- a type, or else the first such return
pub reason_either : (is_none : ℕ → Bool) (t : List ℕ) (k : Forest) (typed why : Maybe ℕ) {P : Type 0} → head_if t typed ≡ type_reason is_none k
    → MatchOption typed P (λ j. why ≡ Some j) → (P → head_if t why ≡ first_valued (returns the_body k)) → head_if t why ≡ reason is_none k
unfolding head_if
reason_either is_none t k None why e m f = rw (sym e) (f m)
reason_either is_none t k (Some j) why e m f = rw (sym e, m)

-- ---- 8 and 7

bare_append : (h : Head) (name : Spot) (why : Head) (xs ys : List Return) → bare_recs h name why (xs ++ ys) ≡ bare_recs h name why xs ++ bare_recs h name why ys
bare_append h name why [] ys = refl
bare_append h name why (x ∷ xs) ys = go (not x.valued) (bare_append h name why xs ys)
  where
    go : (b : Bool) → bare_recs h name why (xs ++ ys) ≡ bare_recs h name why xs ++ bare_recs h name why ys
        → listed b (missing_expression h name why x.head ∷ []) (bare_recs h name why (xs ++ ys))
        ≡ listed b (missing_expression h name why x.head ∷ []) (bare_recs h name why xs) ++ bare_recs h name why ys
    go true f = ap (λ (l : List Rec). missing_expression h name why x.head ∷ l) f
    go false f = f

pub bare_next : (h : Head) (name : Spot) (why : Head) {t : List ℕ} {j e : ℕ} → Tidy t j e → j < e → (m : ℕ) → m ≡ j + pick (eqb 12 (kind_at t j)) (size_at t j) 1
    → bare_recs h name why (returns everything (forest_of t j e))
    ≡ bare_recs h name why (own (node_head t j) (forest_of t (j + 1) (j + size_at t j))) ++ bare_recs h name why (returns everything (forest_of t m e))
bare_next h name why {t} {j} {e} w lt m q =
    ap (bare_recs h name why) (returns_next w lt m q)
    ∙ bare_append h name why (own (node_head t j) (forest_of t (j + 1) (j + size_at t j))) (returns everything (forest_of t m e))

pub bare_past : (h : Head) (name : Spot) (why : Head) (t : List ℕ) (j e : ℕ) → e ≤ j → bare_recs h name why (returns everything (forest_of t j e)) ≡ []
bare_past h name why t j e l = rw (returns_past t j e l)

module _ (t : List ℕ) (j : ℕ) (h : Head) (name : Spot) (why : Head) where
  abbrev pub bare_one : List Rec
  bare_one = bare_recs h name why (own (node_head t j) (forest_of t (j + 1) (j + size_at t j)))

  pub bare_no : (kind_at t j ≡ 4 → ⊥) → bare_one ≡ []
  unfolding node_head own
  bare_no q = rw (ne_eqb 4 (kind_at t j) (λ z. q (sym z)))

  pub bare_valued : has 4 (forest_of t (j + 1) (j + size_at t j)) ≡ true → bare_one ≡ []
  unfolding own
  bare_valued v = rw v (never (eqb 4 (node_head t j).kind))
    where
      never : (x : Bool) → bare_recs h name why (listed x (record { head = node_head t j; valued = true } ∷ []) []) ≡ []
      never true = refl
      never false = refl

  pub bare_put : kind_at t j ≡ 4 → has 4 (forest_of t (j + 1) (j + size_at t j)) ≡ false → bare_one ≡ missing_expression h name why (node_head t j) ∷ []
  unfolding node_head own
  bare_put q v = rw (q, v)

listed_before : (b : Bool) (xs ys : List Rec) → listed b xs ys ≡ listed b xs [] ++ ys
listed_before true xs ys = rw append-nil
listed_before false xs ys = refl

-- what is listed of a def that wants a value
pub for_both : (is_fail is_none : ℕ → Bool) {t : List ℕ} {i : ℕ} → DefAt t i → (why : Head) {name b : ℕ}
    → Some name ≡ first_child t 6 (i + 1) (i + size_at t i) → Some b ≡ first_child t 1 (i + 1) (i + size_at t i)
    → check_for is_fail is_none (node_head t i) (forest_of t (i + 1) (i + size_at t i)) (some why)
    ≡ listed (not (ends is_fail 1 (forest_of t (i + 1) (i + size_at t i)))) (missing (node_head t i) (node_spot t name) why ∷ []) []
    ++ bare_recs (node_head t i) (node_spot t name) why (returns everything (forest_of t b (b + size_at t b)))
for_both is_fail is_none {t} {i} d why {name} {b} n q =
    let k = child_some t 6 (i + 1) (i + size_at t i) name n in
    let z : spot_at 6 (forest_of t (i + 1) (i + size_at t i)) ≡ node_spot t name = place_there 6 (def_kids d) (omega (arith, d.at.some)) (def_shaped d).name ∙ ap (node_spot t) (sym k.0) in
    rw (z, body_returns d q) (listed_before (not (ends is_fail 1 (forest_of t (i + 1) (i + size_at t i)))) _ _)

-- ---- the walk

module _ (is_fail is_none : ℕ → Bool) where
  module _ (t : List ℕ) (i : ℕ) where
    abbrev pub stmt_recs : List Rec
    stmt_recs = check is_fail is_none (node_head t i).kind (node_head t i) (forest_of t (i + 1) (i + size_at t i))

    pub stmt_no : (kind_at t i ≡ 12 → ⊥) → stmt_recs ≡ []
    unfolding node_head
    stmt_no q = rw (ne_eqb (kind_at t i) 12 q, look)

    pub stmt_none : kind_at t i ≡ 12 → head_if t None ≡ reason is_none (forest_of t (i + 1) (i + size_at t i)) → stmt_recs ≡ []
    unfolding node_head head_if
    stmt_none k u = rw k (rw (sym u))

    pub stmt_def : kind_at t i ≡ 12 → (why : ℕ) → head_if t (Some why) ≡ reason is_none (forest_of t (i + 1) (i + size_at t i))
        → stmt_recs ≡ check_for is_fail is_none (node_head t i) (forest_of t (i + 1) (i + size_at t i)) (some (node_head t why))
    unfolding node_head head_if
    stmt_def k why u = rw k (rw (sym u))

  part_recs : Head → Forest → List Rec
  part_recs h k = check is_fail is_none h.kind h k ++ returns_walk is_fail is_none k

  walk_cons : (h : Head) (k s : Forest) → returns_walk is_fail is_none (node h k s) ≡ part_recs h k ++ returns_walk is_fail is_none s
  unfolding part_recs
  walk_cons h k s = sym (append_assoc (check is_fail is_none h.kind h k) (returns_walk is_fail is_none k) (returns_walk is_fail is_none s))

  pub walk_next : {t : List ℕ} {i n : ℕ} → Part t i n → i < n
      → returns_walk is_fail is_none (forest_of t i n)
      ≡ check is_fail is_none (node_head t i).kind (node_head t i) (forest_of t (i + 1) (i + size_at t i)) ++ returns_walk is_fail is_none (forest_of t (i + 1) n)
  unfolding part_recs
  walk_next p lt = next (returns_walk is_fail is_none) part_recs refl walk_cons (λ h k. check is_fail is_none h.kind h k) (λ h k. refl) p lt

  pub walk_past : (t : List ℕ) (i n : ℕ) → n ≤ i → returns_walk is_fail is_none (forest_of t i n) ≡ []
  walk_past t i n h = past (returns_walk is_fail is_none) part_recs refl walk_cons t i n h
