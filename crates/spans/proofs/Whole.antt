-- Every record of a valid file's list makes sense, and its numbers lead to its nodes. Assumes nothing.
use Rattle.std.specs.Prelude.{Ok}
use Prim.Native.Nat.{ℕ, ◌≤◌}
use native.Mathlib.Omega.{arith}
use mathlib.Core.Path.{◌≡◌, refl, sym, ap, subst}
use mathlib.Core.Bool.{Bool, false, ◌&&◌, not}
use mathlib.Core.List.{List, ◌++◌}
use mathlib.Core.Logic.{inl, inr}
use lib.Dec.{eqb, leb, T}
use borrow.Author.Tests.{leb-true, ne_eqb}
use Rattle.tree.specs.Bytes.{version_of}
use Rattle.tree.specs.Forest.{Head, tree_of}
use Rattle.tree.specs.Judge.{judged}
use Rattle.tree.specs.Keys.{like}
use Rattle.tree.specs.Table.{table_of, spells, a_string, at}
use Rattle.tree.specs.declared.Facts.{Facts}
use Rattle.tree.specs.declared.Mode.{Mode}
use Rattle.tree.proofs.Whole.{sound}
use Rattle.rules.specs.Record.{Rec, spot_span, Each}
use Rattle.rules.specs.Order.{fail_name}
use Rattle.rules.specs.Names.{names_list}
use Rattle.rules.specs.Flow.{none_name, flow_list}
use Rattle.rules.specs.Incompatible.{allowance, type_name, five_types, spells_one, incompatible_list}
use Rattle.rules.specs.Dubious.{dubious_list}
use Rattle.rules.specs.Joined.{codes, lint_list}
use Rattle.rules.proofs.Bools.{so, nope, and_left, and_right}
use Rattle.spans.specs.Fit.{Third, Fit}
use Rattle.spans.specs.Placed.{Lies, Placed}
use Rattle.rules.proofs.Each.{join, each_more}
use Rattle.spans.proofs.Made.{Throughout, early, later, Late, one, two, three, double, Made, name, late}
use Rattle.spans.proofs.Tree.{Straight, Sits, tree_straight, tree_sits}
use Rattle.spans.proofs.Names.{names_made}
use Rattle.spans.proofs.Flow.{flow_late}
use Rattle.spans.proofs.Incompatible.{incompatible_late}
use Rattle.spans.proofs.Dubious.{dubious_late}

-- ---- what holds throughout the tree holds of the nodes that the records are made of

module _ (P : Head → Type 0) (t : List ℕ) (o : Throughout P (tree_of t)) where
  flow_list_late : Each (Late P) (flow_list t)
  unfolding flow_list
  flow_list_late = flow_late P (spells (table_of t) fail_name) (spells (table_of t) none_name) (a_string (table_of t)) (tree_of t) o

  incompatible_list_late : Each (Late P) (incompatible_list t)
  unfolding incompatible_list
  incompatible_list_late = incompatible_late P (allowance (version_of t)) (spells (table_of t) type_name) (spells_one (table_of t) five_types) (tree_of t) o

  dubious_list_late : (mode : Mode) → Each (Late P) (dubious_list mode t)
  unfolding dubious_list
  dubious_list_late mode = dubious_late P (λ a b. like mode (at (table_of t) a) (at (table_of t) b)) (tree_of t) o

  -- what comes after names
  rest_late : (mode : Mode) → Each (Late P) (flow_list t ++ (incompatible_list t ++ dubious_list mode t))
  rest_late mode =
      join (Late P) (flow_list t) (incompatible_list t ++ dubious_list mode t) flow_list_late
      (join (Late P) (incompatible_list t) (dubious_list mode t) incompatible_list_late (dubious_list_late mode))

  file_made : (mode : Mode) → Each (Made P) (lint_list mode t)
  unfolding lint_list
  file_made mode =
      let rest = flow_list t ++ (incompatible_list t ++ dubious_list mode t) in
      join (Made P) (names_list t) rest (names_made P t o) (each_more (Late P) (Made P) late rest (rest_late mode))

-- ---- such a record makes sense where no node ends before it begins

-- a code but 16
record Code (c : ℕ) : Type 0 where
  low : 1 ≤ c
  high : c ≤ codes
  other : eqb 16 c ≡ false

early_high : (c : ℕ) → T (early c) → c ≤ 6
early_high c t = leb-true c 6 (so (leb c 6) (and_right (leb 1 c) (leb c 6) t))

early_code : (c : ℕ) → T (early c) → Code c
early_code c t =
    let high = early_high c t in
    record {
      low = leb-true 1 c (so (leb 1 c) (and_left (leb 1 c) (leb c 6) t));
      high = omega arith;
      other = ne_eqb 16 c (λ e. omega arith);
    }

later_low : (c : ℕ) → T (later c) → 7 ≤ c
later_low c t = leb-true 7 c (so (leb 7 c) (and_left (leb 7 c) (leb c codes && not (eqb 16 c)) t))

later_code : (c : ℕ) → T (later c) → Code c
later_code c t =
    let low = later_low c t in
    let u = and_right (leb 7 c) (leb c codes && not (eqb 16 c)) t in
    record {
      low = omega arith;
      high = leb-true c codes (so (leb c codes) (and_left (leb c codes) (not (eqb 16 c)) u));
      other = nope (eqb 16 c) (and_right (leb c codes) (not (eqb 16 c)) u);
    }

fit_of : (r : Rec) → Code r.code → r.spot.begin ≤ r.spot.end → r.second.begin ≤ r.second.end → r.third.begin ≤ r.third.end → Fit r
fit_of r k a b c = record {
  some_code = k.low;
  a_code = k.high;
  first = a;
  second = b;
  third = subst (λ (b : Bool). Third b r.third) (sym k.other) c;
}

fit_late : (r : Rec) → Late Straight r → Fit r
fit_late r (one c h v k p) = fit_of r (later_code c k) p (omega arith) (omega arith)
fit_late r (two c h v g k p q) = fit_of r (later_code c k) p q (omega arith)
fit_late r (three c h v g w k p q u) = fit_of r (later_code c k) p q u
fit_late r (double h v g s p q u) = record { some_code = omega arith; a_code = omega arith; first = p; second = q; third = u }

fit_made : (r : Rec) → Made Straight r → Fit r
fit_made r (name c h k p) = fit_of r (early_code c k) p (omega arith) (omega arith)
fit_made r (late q l) = fit_late q l

-- a code of flow, incompatible and dubious is none of names'
late_code : (r : Rec) → Late Straight r → 7 ≤ r.code
late_code r (one c h v k p) = later_low c k
late_code r (two c h v g k p q) = later_low c k
late_code r (three c h v g w k p q u) = later_low c k
late_code r (double h v g s p q u) = omega arith

-- ---- .. and its numbers lead to the nodes that it is made of

module _ (t : List ℕ) where
  lies : (h : Head) → Sits t h → Lies t h.number (spot_span h.spot)
  lies h p = (p.below, ap spot_span p.there)

  not_early : (c : ℕ) {A : Type 0} → 7 ≤ c → c ≤ 6 → A
  not_early c a b = absurd (let z : ⊥ = omega arith in z)

  placed_late : (r : Rec) → Late (Sits t) r → Placed t r
  placed_late r (one c h v k p) = record { first = lies h p; second = inl (refl, refl); named = not_early c (later_low c k) }
  placed_late r (two c h v g k p q) = record { first = lies h p; second = inr (lies g q); named = not_early c (later_low c k) }
  placed_late r (three c h v g w k p q u) = record { first = lies h p; second = inr (lies g q); named = not_early c (later_low c k) }
  placed_late r (double h v g s p q u) = record { first = lies h p; second = inr (lies g q); named = not_early 16 (omega arith) }

  placed_made : (r : Rec) → Made (Sits t) r → Placed t r
  placed_made r (name c h k p) = record { first = lies h p; second = inl (refl, refl); named = λ l. p.there }
  placed_made r (late q l) = placed_late q l

-- ---- the joined list of a valid file

-- EVERY RECORD makes sense.
pub file_fit : (t : List ℕ) (f : Facts) → judged t ≡ Ok f → (mode : Mode) → Each Fit (lint_list mode t)
file_fit t f v mode =
    each_more (Made Straight) Fit fit_made (lint_list mode t) (file_made Straight t (tree_straight t f (sound t f v)) mode)

-- THE NUMBERS of every record are those of nodes of the file that have its first and second span.
pub file_placed : (t : List ℕ) (f : Facts) → judged t ≡ Ok f → (mode : Mode) → Each (Placed t) (lint_list mode t)
file_placed t f v mode =
    each_more (Made (Sits t)) (Placed t) (placed_made t) (lint_list mode t) (file_made (Sits t) t (tree_sits t f (sound t f v)) mode)

-- AFTER NAMES no record has a code of names.
pub file_late : (t : List ℕ) (f : Facts) → judged t ≡ Ok f → (mode : Mode)
    → Each (λ r. 7 ≤ r.code) (flow_list t ++ (incompatible_list t ++ dubious_list mode t))
file_late t f v mode =
    each_more (Late Straight) (λ r. 7 ≤ r.code) late_code (flow_list t ++ (incompatible_list t ++ dubious_list mode t))
    (rest_late Straight t (tree_straight t f (sound t f v)) mode)
