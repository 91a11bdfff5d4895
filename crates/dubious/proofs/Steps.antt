-- What each step and return of the walks shows. Assumes nothing.
use Rattle.std.specs.Prelude.{Option, None, Some}
use Prim.Native.Nat.{ℕ, ◌+◌, ◌≤◌, ◌<◌}
use native.Mathlib.Omega.{arith}
use mathlib.Core.Path.{◌≡◌, refl, sym, ap, ◌∙◌}
use mathlib.Core.List.{List, [], ◌∷◌, ◌++◌, append-nil}
use mathlib.Core.Bool.{Bool, true, false, cond, ◌&&◌}
use lib.Dec.{eqb}
use lib.ListN.{get_or}
use borrow.Author.Tests.{ne_eqb, eq-eqb, eqb-true}
use Rattle.tree.specs.Bytes.{kind_at, size_at, value_at}
use Rattle.tree.specs.Forest.{Head, Forest, node, node_spot, node_head, forest_of}
use Rattle.tree.specs.code.Part.{Part, Subtree}
use Rattle.tree.specs.declared.Likeness.{Likeness}
use Rattle.tree.specs.declared.Likeness.TheVariants.{Different, SameForm, SameNumber}
use Rattle.tree.specs.Keys.{alike, likeness}
use Rattle.tree.specs.code.Numbers.{like_by}
use Rattle.tree.specs.code.Find.{child_of, first_child}
use Rattle.rules.specs.Record.{Rec, named_at, listed}
use Rattle.rules.specs.Visit.{head_at, kind_among}
use Rattle.rules.specs.Dubious.{keys, double, clash, against, doubles}
use Rattle.tree.proofs.Laws.{sized, first, kids}
use Rattle.tree.proofs.FirstChild.{child_some, child_none}
use Rattle.answer.proofs.Flat.{past, over, split}
use Rattle.answer.proofs.Bits.{and_false}
use Rattle.answer.proofs.ByRole.{kind_there, kind_absent, head_there}
use Rattle.dubious.specs.Scan.{is_key, equal_key, inside, before, seen, doubled, clashes, clash_recs, dict_recs, idle_recs}

-- ---- keys of siblings

abbrev key_of : Head → List Head
key_of h = listed (is_key h) (h ∷ []) []

keys_cons : (h : Head) (k s : Forest) → keys (node h k s) ≡ key_of h ++ keys s
keys_cons h k s = go (is_key h)
  where
    go : (b : Bool) → listed b (h ∷ []) (keys s) ≡ listed b (h ∷ []) [] ++ keys s
    go true = refl
    go false = refl

keys_over : {t : List ℕ} {i e : ℕ} → Part t i e → i < e → keys (forest_of t i e) ≡ key_of (node_head t i) ++ keys (forest_of t (i + size_at t i) e)
keys_over p lt = over keys (λ h k. key_of h) refl keys_cons p lt

keys_past : (t : List ℕ) (i e : ℕ) → e ≤ i → keys (forest_of t i e) ≡ []
keys_past t i e h = past keys (λ h k. key_of h) refl keys_cons t i e h

-- the keys up to the sibling after node j
keys_onward : {t : List ℕ} {i j e : ℕ} → Part t i j → Part t j e → i ≤ j → j < e
    → keys (forest_of t i (j + size_at t j)) ≡ keys (forest_of t i j) ++ key_of (node_head t j)
keys_onward {t} {i} {j} {e} p q a lt =
    split keys (λ h k. key_of h) refl keys_cons p (first q lt) a (omega arith)
    ∙ ap (λ (l : List Head). keys (forest_of t i j) ++ l)
    (keys_over (first q lt) (omega (arith, sized q lt)) ∙ rw (keys_past t (j + size_at t j) (j + size_at t j) (omega arith), append-nil))

before_append : (xs ys zs : List Head) → before (xs ++ ys) zs ≡ before ys (before xs zs)
unfolding before
before_append [] ys zs = refl
before_append (x ∷ xs) ys zs = before_append xs ys (x ∷ zs)

-- ---- the previous equal key

clash_alike : (l : Likeness) (old s : Head) (on : List Rec) → alike l ≡ true → clash l old s on ≡ double l old s ∷ []
clash_alike Different old s on e = let z : ◌≡◌ {A = ℕ} 0 1 = ap (λ (b : Bool). cond b 1 0) e in absurd (omega arith)
clash_alike SameForm old s on e = refl
clash_alike SameNumber old s on e = refl

clash_other : (l : Likeness) (old s : Head) (on : List Rec) → alike l ≡ false → clash l old s on ≡ on
clash_other Different old s on e = refl
clash_other SameForm old s on e = let z : ◌≡◌ {A = ℕ} 1 0 = ap (λ (b : Bool). cond b 1 0) e in absurd (omega arith)
clash_other SameNumber old s on e = let z : ◌≡◌ {A = ℕ} 1 0 = ap (λ (b : Bool). cond b 1 0) e in absurd (omega arith)

alike_by : (a b : Bool) → (a ≡ true → b ≡ true) → b ≡ alike (likeness a b)
alike_by true b h = h refl
alike_by false true h = refl
alike_by false false h = refl

alike_numbers : (ns : List ℕ) (a b : ℕ) → eqb (get_or ns a 0) (get_or ns b 0) ≡ alike (like_by ns a b)
unfolding like_by
alike_numbers ns a b = alike_by (eqb a b) (eqb (get_or ns a 0) (get_or ns b 0)) (λ q. eq-eqb (get_or ns a 0) (get_or ns b 0) (ap (λ (x : ℕ). get_or ns x 0) (eqb-true a b q)))

module _ (ns t : List ℕ) (j : ℕ) where
  -- the key at node j against others
  abbrev pub of_j : List Head → List Rec
  of_j = against (like_by ns) (node_head t j)

  -- the key at node r, if there is one
  abbrev pub at_most : Option ℕ → List Head
  at_most None = []
  at_most (Some r) = node_head t r ∷ []

  abbrev pub equal : ℕ → Bool
  equal m = alike (like_by ns (value_at t m) (value_at t j))

  -- equal keys are those with one number
  pub equal_by : (m : ℕ) {n : ℕ} → n ≡ get_or ns (value_at t j) 0 → {r : Bool}
      → r ≡ (is_key (node_head t m) && eqb (get_or ns (value_at t m) 0) n) → r ≡ equal_key ns t m j
  equal_by m q e = rw (q, alike_numbers ns (value_at t m) (value_at t j)) at e

  pub record Scanned (i : ℕ) (old : Option ℕ) (m : ℕ) : Type 0 where
    pub hit : of_j (at_most old) ≡ doubled ns t old j
    pub left : of_j (before (keys (forest_of t m j)) (at_most old)) ≡ clashes ns t i j

  before_same : (ps xs ys : List Head) → of_j xs ≡ of_j ys → of_j (before ps xs) ≡ of_j (before ps ys)
  unfolding before
  before_same [] xs ys e = e
  before_same (p ∷ ps) xs ys e =
      before_same ps (p ∷ xs) (p ∷ ys) (ap (clash (like_by ns p.spot.value (node_head t j).spot.value) p (node_head t j)) e)

  equal_here : (m : ℕ) → equal m ≡ true → (xs : List Head) → of_j (node_head t m ∷ xs) ≡ double (like_by ns (value_at t m) (value_at t j)) (node_head t m) (node_head t j) ∷ []
  unfolding node_head node_spot
  equal_here m e xs = clash_alike (like_by ns (value_at t m) (value_at t j)) (node_head t m) (node_head t j) (of_j xs) e

  other_here : (m : ℕ) → equal m ≡ false → (xs : List Head) → of_j (node_head t m ∷ xs) ≡ of_j xs
  unfolding node_head node_spot
  other_here m e xs = clash_other (like_by ns (value_at t m) (value_at t j)) (node_head t m) (node_head t j) (of_j xs) e

  pub scan_start : (i : ℕ) → Scanned i None i
  scan_start i = record { hit = refl; left = refl }

  pub scan_end : (i : ℕ) (old : Option ℕ) (m : ℕ) → Scanned i old m → j ≤ m → clashes ns t i j ≡ doubled ns t old j
  unfolding before
  scan_end i old m s h = sym (rw (keys_past t m j h) at s.left) ∙ s.hit

  module _ (i : ℕ) (old : Option ℕ) (m : ℕ) (p : Part t m j) (lt : m < j) (s : Scanned i old m) where
    abbrev rest_keys : List Head
    rest_keys = keys (forest_of t (m + size_at t m) j)

    opened : of_j (before (key_of (node_head t m) ++ rest_keys) (at_most old)) ≡ clashes ns t i j
    opened = rw (keys_over p lt) at s.left

    -- node m is a key equal to that of node j, or it is not
    pub scan_hit : true ≡ is_key (node_head t m) && equal m → Scanned i (Some m) (m + size_at t m)
    unfolding before node_head
    scan_hit e = go (is_key (node_head t m)) (equal m) refl refl e
      where
        go : (a b : Bool) → is_key (node_head t m) ≡ a → equal m ≡ b → true ≡ a && b → Scanned i (Some m) (m + size_at t m)
        go true true u v w =
            record {
              hit = equal_here m v [];
              left =
                  before_same rest_keys (node_head t m ∷ []) (node_head t m ∷ at_most old) (equal_here m v [] ∙ sym (equal_here m v (at_most old)))
                  ∙ rw u at opened;
            }
        go true false u v w = cc
        go false b u v w = cc

    pub scan_over : false ≡ is_key (node_head t m) && equal m → Scanned i old (m + size_at t m)
    unfolding before node_head
    scan_over e = go (is_key (node_head t m)) (equal m) refl refl e
      where
        go : (a b : Bool) → is_key (node_head t m) ≡ a → equal m ≡ b → false ≡ a && b → Scanned i old (m + size_at t m)
        go false b u v w = record { hit = s.hit; left = rw u at opened }
        go true true u v w = cc
        go true false u v w =
            record { hit = s.hit; left = before_same rest_keys (at_most old) (node_head t m ∷ at_most old) (sym (other_here m v (at_most old))) ∙ rw u at opened }

-- the keys from node j on, with those before it
abbrev pub from_key : List ℕ → List ℕ → ℕ → ℕ → ℕ → List Rec
from_key ns t i j e = doubles (like_by ns) (seen (forest_of t i j)) (keys (forest_of t j e))

pub dict_step : (ns : List ℕ) {t : List ℕ} {i j e : ℕ} → Part t i j → Part t j e → i ≤ j → j < e
    → from_key ns t i j e ≡ clash_recs ns t i j ++ from_key ns t i (j + size_at t j) e
unfolding before node_head
dict_step ns {t} {i} {j} {e} p q a lt =
    rw (keys_over q lt, keys_onward p q a lt, before_append) (go (is_key (node_head t j)))
  where
    go : (b : Bool)
        → doubles (like_by ns) (seen (forest_of t i j)) (listed b (node_head t j ∷ []) [] ++ keys (forest_of t (j + size_at t j) e))
        ≡ listed b (clashes ns t i j) [] ++ doubles (like_by ns) (before (listed b (node_head t j ∷ []) []) (seen (forest_of t i j))) (keys (forest_of t (j + size_at t j) e))
    go true = rw append-nil
    go false = refl

pub dict_end : (ns t : List ℕ) (i j e : ℕ) → e ≤ j → from_key ns t i j e ≡ []
dict_end ns t i j e h = rw (keys_past t j e h)

pub dict_start : (ns t : List ℕ) (i e : ℕ) → from_key ns t i i e ≡ doubles (like_by ns) [] (keys (forest_of t i e))
unfolding before
dict_start ns t i e = rw (keys_past t i i (omega arith))

-- ---- 16 and 17: what a node gives

module _ (ns t : List ℕ) (i j : ℕ) where
  pub clash_no : false ≡ is_key (node_head t j) → clash_recs ns t i j ≡ []
  clash_no b = rw (sym b)

  pub clash_key : (old : Option ℕ) → true ≡ is_key (node_head t j) → clashes ns t i j ≡ doubled ns t old j → clash_recs ns t i j ≡ doubled ns t old j
  clash_key old b e = rw (sym b, append-nil) e

pub dict_no : (ns t : List ℕ) (i : ℕ) → (kind_at t i ≡ 29 → ⊥) → dict_recs ns t i ≡ []
unfolding node_head
dict_no ns t i h = rw (ne_eqb 29 (kind_at t i) (λ z. h (sym z)))

pub dict_yes : (ns t : List ℕ) (i : ℕ) → kind_at t i ≡ 29 → dict_recs ns t i ≡ doubles (like_by ns) [] (keys (inside t i))
unfolding node_head
dict_yes ns t i k = rw (k, append-nil)

module _ {t : List ℕ} {i : ℕ} (w : Subtree t i) where
  below : Part t (i + 1) (i + size_at t i)
  below = kids w.part (omega (arith, w.some))

  pub idle_no : (kind_at t i ≡ 5 → ⊥) → idle_recs t i ≡ []
  unfolding node_head
  idle_no h = rw (ne_eqb 5 (kind_at t i) (λ z. h (sym z)))

  pub idle_absent : ◌≡◌ {A = Option ℕ} None (first_child t 4 (i + 1) (i + size_at t i)) → idle_recs t i ≡ []
  unfolding node_head
  idle_absent e =
      let z = kind_absent 4 below (child_none t 4 (i + 1) (i + size_at t i) e) in rw (z, and_false (eqb 5 (kind_at t i)))

  -- node j is the first child of role 4
  module _ (j : ℕ) (f : ◌≡◌ {A = Option ℕ} (Some j) (first_child t 4 (i + 1) (i + size_at t i))) where
    found : (j ≡ child_of t 4 (i + 1) (i + size_at t i)) × (j < i + size_at t i)
    found = child_some t 4 (i + 1) (i + size_at t i) j f

    kind_found : kind_among 4 (forest_of t (i + 1) (i + size_at t i)) ≡ kind_at t j
    kind_found = rw found.0 (kind_there 4 below (omega (arith, w.some)) (rw found.0 at found.1))

    pub idle_other : (kind_at t j ≡ 20 → ⊥) → idle_recs t i ≡ []
    unfolding node_head
    idle_other k = rw (kind_found, ne_eqb 20 (kind_at t j) (λ y. k (sym y)), and_false (eqb 5 (kind_at t i)))

    pub idle_here : kind_at t i ≡ 5 → kind_at t j ≡ 20 → idle_recs t i ≡ named_at 17 (node_head t j) ∷ []
    unfolding node_head
    idle_here a k =
        let y : head_at 4 (forest_of t (i + 1) (i + size_at t i)) ≡ node_head t j
        = rw found.0 (head_there 4 below (omega (arith, w.some)) (rw found.0 at found.1)) in
        rw (a, kind_found, k, y)
