-- Incompatible's records, 14 and 15, are made of the tree's nodes. Assumes nothing.
use Prim.Native.Nat.{ℕ}
use mathlib.Core.Bool.{Bool, true, false, cond, ◌&&◌, ◌||◌}
use mathlib.Core.List.{List, [], ◌∷◌}
use mathlib.Core.Option.{Option, none, some}
use lib.Dec.{eqb, T}
use Rattle.tree.specs.Forest.{Head, Forest, Forest.none as leaf, node}
use Rattle.rules.specs.Record.{Rec, valued_at, Each}
use Rattle.rules.specs.Visit.{look, head_at, kind_among, spot_at, each}
use Rattle.rules.specs.Order.{Bind, Bind.one as binds_one, several, nothing, bind_of}
use Rattle.rules.specs.declared.Allowance.{Allowance}
use Rattle.rules.specs.Incompatible.{identifier, check_at, type_check, Deed, defines, repeats, deed_part, defined_names, self_set, Top, assigning, modifying, defining, loading, holding, aside, tops, top_part, deeds, First, first_of, was_free, defined, may_repeat, repeated, incompatible}
use Rattle.rules.proofs.Bools.{and_left}
use Rattle.rules.proofs.Each.{IfSome, either, join, listed_each}
use Rattle.spans.proofs.Made.{Throughout, Late, one, two, kind_has, place, each_late}

module _ (P : Head → Type 0) where
  -- ---- 15

  abbrev Done : Deed → Type 0
  Done (defines l h) = P h
  Done (repeats h) = P h

  abbrev Begun : First → Type 0
  Begun d = P d.head

  deed_done : (z : Bind) (h : Head) (k : Forest) → P h → Each Done (defined_names 0 k) → Each Done (deed_part z h (λ v. defined_names v k))
  deed_done (binds_one o) h k p c = (p, tt)
  deed_done several h k p c = c
  deed_done nothing h k p c = tt

  named_done : (f : Forest) → Throughout P f → (r : ℕ) → Each Done (defined_names r f)
  named_done leaf o r = tt
  named_done (node h k s) o r =
      listed_each Done (eqb r h.role) (deed_part (bind_of h) h (λ v. defined_names v k)) (defined_names r s)
      (deed_done (bind_of h) h k o.0.0 (named_done k o.1.0 0)) (named_done s o.1.1 r)

  cond_done : (b : Bool) (h : Head) (l : List Deed) → (T b → P h) → Each Done l → Each Done (cond b (repeats h ∷ []) l)
  cond_done true h l p q = (p tt, tt)
  cond_done false h l p q = q

  top_done : (z : Top) (k : Forest) → Throughout P k → Each Done (deeds k) → Each Done (top_part z k (deeds k))
  top_done assigning k o c =
      cond_done (self_set k) (head_at 5 k) (defined_names 5 k)
      (λ t. place P k o 5 (kind_has k 5 39 (and_left (eqb 40 (kind_among 5 k)) (identifier 4 (eqb (spot_at 5 k).value) k) t))) (named_done k o 5)
  top_done modifying k o c = named_done k o 5
  top_done defining k o c = named_done k o 6
  top_done loading k o c = named_done k o 0
  top_done holding k o c = c
  top_done aside k o c = tt

  deeds_done : (f : Forest) → Throughout P f → Each Done (deeds f)
  deeds_done leaf o = tt
  deeds_done (node h k s) o =
      join Done (top_part (look h.kind tops aside) k (deeds k)) (deeds s)
      (top_done (look h.kind tops aside) k o.1.0 (deeds_done k o.1.0)) (deeds_done s o.1.1)

  first_begun : (x : ℕ) (ds : List First) → Each Begun ds → IfSome Begun (first_of x ds)
  first_begun x [] p = tt
  first_begun x (d ∷ ds) p = either (IfSome Begun) (eqb x d.head.spot.value) (some d) (first_of x ds) p.0 (first_begun x ds p.1)

  defined_late : (o : Option First) (l : Bool) (h : Head) (ds : List First) (on : List First → List Rec) → IfSome Begun o → P h
      → Each Begun ds → ((v : List First) → Each Begun v → Each (Late P) (on v)) → Each (Late P) (defined o l h ds on)
  defined_late none l h ds on a b p c = c (record { head = h; loaded = l } ∷ ds) (b, p)
  defined_late (some d) l h ds on a b p c = (two 15 h h.spot.value d.head tt b a, c ds p)

  module _ (allowed : Allowance) where
    judge_late : (es : List Deed) (ds : List First) (xs : List ℕ) → Each Done es → Each Begun ds → Each (Late P) (repeated allowed es ds xs)
    judge_late [] ds xs p q = tt
    judge_late (defines l h ∷ es) ds xs p q =
        defined_late (first_of h.spot.value ds) l h ds (λ v. repeated allowed es v xs) (first_begun h.spot.value ds q) p.0 q
        (λ v b. judge_late es v xs p.1 b)
    judge_late (repeats h ∷ es) ds xs p q =
        either (Each (Late P)) (may_repeat allowed (first_of h.spot.value ds) (was_free h.spot.value xs))
        (repeated allowed es ds (h.spot.value ∷ xs)) (defined (first_of h.spot.value ds) false h ds (λ v. repeated allowed es v xs))
        (judge_late es ds (h.spot.value ∷ xs) p.1 q)
        (defined_late (first_of h.spot.value ds) false h ds (λ v. repeated allowed es v xs) (first_begun h.spot.value ds q) p.0 q
        (λ v b. judge_late es v xs p.1 b))

  -- INCOMPATIBLE
  pub incompatible_late : (allowed : Allowance) (is-type names-type : ℕ → Bool) (f : Forest) → Throughout P f
      → Each (Late P) (incompatible allowed is-type names-type f)
  incompatible_late allowed is-type names-type f o =
      join (Late P) (each (check_at is-type names-type) f) (repeated allowed (deeds f) [] [])
      (each_late P (check_at is-type names-type)
      (λ h k a b. listed_each (Late P) ((eqb 31 h.kind || eqb 32 h.kind) && type_check is-type names-type k)
      (valued_at 14 h (spot_at 2 k).value ∷ []) [] (one 14 h (spot_at 2 k).value tt a, tt) tt) f o)
      (judge_late allowed (deeds f) [] [] (deeds_done f o) tt)
