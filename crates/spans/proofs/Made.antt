-- What a record is made of: nodes. Assumes nothing.
use Prim.Native.Nat.{ℕ, suc}
use mathlib.Core.Path.{subst}
use mathlib.Core.Bool.{Bool, true, false, ◌&&◌, ◌||◌, not}
use mathlib.Core.List.{List, ◌++◌}
use lib.Dec.{eqb, leb, T, eqb-suc-zero}
use Rattle.tree.specs.Forest.{Head, Forest, Forest.none as leaf, node}
use Rattle.rules.specs.Record.{Rec, Span, no_span, spot_span, named_at, valued_at, also_at, Each}
use Rattle.rules.specs.Visit.{has, head_at, kind_among, each}
use Rattle.rules.specs.Joined.{codes}
use Rattle.spans.specs.Fit.{Reason}
use Rattle.rules.proofs.Each.{join}

-- what holds of every node of a forest; and every statement that is an expression has it
abbrev pub Throughout : (Head → Type 0) → Forest → Type 0
Throughout P leaf = Unit {0}
Throughout P (node h k s) = (P h × (T (eqb h.kind 5) → T (has 4 k))) × (Throughout P k × Throughout P s)

-- the codes of names; those of flow, incompatible and dubious but 16
abbrev pub early : ℕ → Bool
early c = leb 1 c && leb c 6

abbrev pub later : ℕ → Bool
later c = leb 7 c && (leb c codes && not (eqb 16 c))

-- a record of flow, incompatible or dubious whose spans and numbers are those of nodes of which P holds: of one node, of two, of two and a
-- third span; 16
pub data Late (P : Head → Type 0) : Rec → Type 0 where
  one : (c : ℕ) (h : Head) (v : ℕ) → T (later c) → P h → Late P (valued_at c h v)
  two : (c : ℕ) (h : Head) (v : ℕ) (g : Head) → T (later c) → P h → P g → Late P (also_at c h v g no_span)
  three : (c : ℕ) (h : Head) (v : ℕ) (g w : Head) → T (later c) → P h → P g → P w → Late P (also_at c h v g (spot_span w.spot))
  double : (h : Head) (v : ℕ) (g : Head) (s : Span) → P h → P g → Reason s → Late P (also_at 16 h v g s)

-- .. or of names: of one node, with its name
pub data Made (P : Head → Type 0) : Rec → Type 0 where
  name : (c : ℕ) (h : Head) → T (early c) → P h → Made P (named_at c h)
  late : (r : Rec) → Late P r → Made P r

-- a node that has a kind is there
pub kind_has : (k : Forest) (r n : ℕ) → T (eqb (suc n) (kind_among r k)) → T (has r k)
kind_has leaf r n t = absurd (subst T (eqb-suc-zero n) t)
kind_has (node h k s) r n t = go (eqb r h.role) t (kind_has s r n)
  where
    go : (b : Bool) → T (eqb (suc n) (elim b as (λ z. Head) [ true ↦ h | false ↦ head_at r s ]).kind)
        → (T (eqb (suc n) (kind_among r s)) → T (has r s)) → T (b || has r s)
    go true u f = tt
    go false u f = f u

module _ (P : Head → Type 0) where
  pub place : (k : Forest) → Throughout P k → (r : ℕ) → T (has r k) → P (head_at r k)
  place leaf o r t = absurd t
  place (node h k s) o r t = go (eqb r h.role) t (place s o.1.1 r)
    where
      go : (b : Bool) → T (b || has r s) → (T (has r s) → P (head_at r s)) → P (elim b as (λ z. Head) [ true ↦ h | false ↦ head_at r s ])
      go true u f = o.0.0
      go false u f = f u

  -- what holds of a node's own records holds of those of each node
  pub each_late : (g : Head → Forest → List Rec)
      → ((h : Head) (k : Forest) → P h → Throughout P k → Each (Late P) (g h k))
      → (f : Forest) → Throughout P f → Each (Late P) (each g f)
  each_late g c leaf o = tt
  each_late g c (node h k s) o =
      join (Late P) (g h k) (each g k ++ each g s) (c h k o.0.0 o.1.0)
      (join (Late P) (each g k) (each g s) (each_late g c k o.1.0) (each_late g c s o.1.1))
