-- Dubious' records, 16 and 17, are made of the tree's nodes. Assumes nothing.
use Prim.Native.Nat.{ℕ}
use native.Mathlib.Omega.{arith}
use mathlib.Core.Bool.{◌&&◌, ◌||◌}
use mathlib.Core.List.{List, [], ◌∷◌}
use lib.Dec.{eqb}
use Rattle.tree.specs.Forest.{Head, Forest, Forest.none as leaf, node}
use Rattle.tree.specs.declared.Likeness.{Likeness}
use Rattle.tree.specs.declared.Likeness.TheVariants.{Different, SameForm, SameNumber}
use Rattle.rules.specs.Record.{Rec, named_at, Each}
use Rattle.rules.specs.Visit.{head_at, each, kind_among}
use Rattle.rules.specs.Dubious.{keys, seen_with, reason_span, clash, against, doubles, dict_at, idle_at, dubious}
use Rattle.rules.proofs.Bools.{and_right}
use Rattle.rules.proofs.Each.{join, listed_each, listed_if}
use Rattle.spans.proofs.Made.{Throughout, Late, one, double, kind_has, place, each_late}

module _ (P : Head → Type 0) where
  keys_held : (f : Forest) → Throughout P f → Each P (keys f)
  keys_held leaf o = tt
  keys_held (node h k s) o =
      listed_each P (eqb 8 h.role && (eqb 20 h.kind || eqb 21 h.kind)) (h ∷ []) (keys s) (o.0.0, tt) (keys_held s o.1.1)

  clash_late : (l : Likeness) (old h : Head) (on : List Rec) → P old → P h → Each (Late P) on → Each (Late P) (clash l old h on)
  clash_late Different old h on a b p = p
  clash_late SameForm old h on a b p = (double old h.spot.value h (reason_span SameForm) a b (omega arith), tt)
  clash_late SameNumber old h on a b p = (double old h.spot.value h (reason_span SameNumber) a b (omega arith), tt)

  module _ (test : ℕ → ℕ → Likeness) where
    against_late : (h : Head) (seen : List Head) → P h → Each P seen → Each (Late P) (against test h seen)
    against_late h [] a p = tt
    against_late h (old ∷ seen) a p =
        clash_late (test old.spot.value h.spot.value) old h (against test h seen) p.0 a (against_late h seen a p.1)

    doubles_late : (seen hs : List Head) → Each P seen → Each P hs → Each (Late P) (doubles test seen hs)
    doubles_late seen [] p q = tt
    doubles_late seen (h ∷ hs) p q =
        join (Late P) (against test h seen) (doubles test (seen_with h seen) hs) (against_late h seen q.0 p)
        (doubles_late (seen_with h seen) hs (q.0, p) q.1)

    -- DUBIOUS
    pub dubious_late : (f : Forest) → Throughout P f → Each (Late P) (dubious test f)
    dubious_late f o =
        join (Late P) (each (dict_at test) f) (each idle_at f)
        (each_late P (dict_at test)
        (λ h k a b. listed_each (Late P) (eqb 29 h.kind) (doubles test [] (keys k)) [] (doubles_late [] (keys k) tt (keys_held k b)) tt)
        f o)
        (each_late P idle_at
        (λ h k a b. listed_if (Late P) (eqb 5 h.kind && eqb 20 (kind_among 4 k)) (named_at 17 (head_at 4 k) ∷ []) []
        (λ t. (
          one 17 (head_at 4 k) (head_at 4 k).spot.value tt
              (place P k b 4 (kind_has k 4 19 (and_right (eqb 5 h.kind) (eqb 20 (kind_among 4 k)) t))),
          tt,
        )) tt) f o)
