-- 01, "Incompatible and dubious", codes 14 and 15: "14 is walked before 15". Assumes nothing.
use Rattle.std.specs.Prelude.{ℕ, Bool, true, false, cond, not, ◌&&◌, ◌||◌, List, [], ◌∷◌, ◌++◌, eqb}
use Rattle.std.proofs.Math.Option.{Option, none, some}
use Rattle.tree.specs.Bytes.{ascii, version_of, pick}
use Rattle.tree.specs.Forest.{Head, Forest, Forest.none as leaf, node, tree_of}
use Rattle.tree.specs.Values.{Value}
use Rattle.tree.specs.Table.{table_of, spells}
use Rattle.rules.specs.declared.Allowance.{Allowance}
use Rattle.rules.specs.declared.Allowance.TheVariants.{Once, Always}
use Rattle.rules.specs.Record.{Rec, no_span, valued_at, also_at, listed}
use Rattle.rules.specs.Visit.{look, each, head_at, kind_among, spot_at, under, how_many}
use Rattle.rules.specs.Order.{Sort, Sort.load, Sort.assign, Sort.argument, Bind, one, several, nothing, bind_of}

-- ---- 14

-- the node of the role r among these is an identifier with such a name
abbrev pub identifier : ℕ → (ℕ → Bool) → Forest → Bool
identifier r p k = eqb 20 (kind_among r k) && p (spot_at r k).value

-- "type called with one argument, left of equal or not equal, an identifier bool, tuple, str, list or int right"
abbrev pub type_check : (ℕ → Bool) → (ℕ → Bool) → Forest → Bool
type_check is-type names-type k =
    eqb 23 (kind_among 1 k)
    && (identifier 7 is-type (under 1 k)
    && (eqb 1 (how_many 0 (under 1 k))
    && identifier 2 names-type k))

-- "value is that name"
abbrev pub check_at : (ℕ → Bool) → (ℕ → Bool) → Head → Forest → List Rec
check_at is-type names-type h k =
    listed ((eqb 31 h.kind || eqb 32 h.kind) && type_check is-type names-type k)
    (valued_at 14 h (spot_at 2 k).value ∷ []) []

-- ---- 15

-- what a statement does to the top level's names, in file order: define one, by a load or otherwise; x = x
pub data Deed : Type 0 where
  defines : Bool → Head → Deed
  repeats : Head → Deed

abbrev pub is_load : Sort → Bool
is_load load = true
is_load assign = false
is_load argument = false

-- the names of the role r, also those of several; down: the same below
abbrev pub deed_part : Bind → Head → (ℕ → List Deed) → List Deed
deed_part (one o) h down = defines (is_load o) h ∷ []
deed_part several h down = down 0
deed_part nothing h down = []

abbrev pub defined_names : ℕ → Forest → List Deed
defined_names r leaf = []
defined_names r (node h k s) = listed (eqb r h.role) (deed_part (bind_of h) h (λ v. defined_names v k)) (defined_names r s)

-- x = x: the target a name, the value the identifier of that name
abbrev pub self_set : Forest → Bool
self_set k = eqb 40 (kind_among 5 k) && identifier 4 (eqb (spot_at 5 k).value) k

-- "Assign, assign-modify, def and load count, under if and for too; not for targets or insides of defs."
pub data Top : Type 0 where
  assigning modifying defining loading holding aside : Top

abbrev pub tops : List (ℕ × Top)
tops =
    (6, assigning) ∷ (7, modifying) ∷ (12, defining) ∷ (13, loading)
    ∷ (8, holding) ∷ (9, holding) ∷ (10, holding) ∷ (11, holding) ∷ []

abbrev pub top_part : Top → Forest → List Deed → List Deed
top_part assigning k down = cond (self_set k) (repeats (head_at 5 k) ∷ []) (defined_names 5 k)
top_part modifying k down = defined_names 5 k
top_part defining k down = defined_names 6 k
top_part loading k down = defined_names 0 k
top_part holding k down = down
top_part aside k down = []

abbrev pub deeds : Forest → List Deed
deeds leaf = []
deeds (node h k s) = top_part (look h.kind tops aside) k (deeds k) ++ deeds s

-- a name as first defined
pub record First : Type 0 where
  pub head : Head
  pub loaded : Bool

abbrev pub first_of : ℕ → List First → Option First
first_of x [] = none
first_of x (d ∷ ds) = elim (eqb x d.head.spot.value) [ true ↦ some d | false ↦ first_of x ds ]

-- x is among the names whose x = x was free
abbrev pub was_free : ℕ → List ℕ → Bool
was_free x [] = false
was_free x (y ∷ ys) = eqb x y || was_free x ys

-- "at the later name, second span the name as first defined"
abbrev pub again : Head → Head → Rec
again old h = also_at 15 h h.spot.value old no_span

-- on: the rest, with the first definitions so far
abbrev pub defined : Option First → Bool → Head → List First → (List First → List Rec) → List Rec
defined none l h ds on = on (record { head = h; loaded = l } ∷ ds)
defined (some d) l h ds on = again d.head h ∷ on ds

-- "x = x, where the first definition of x is a load, is free once"; 02, §9, of version 2: "is then free each time"; before: it was free already
abbrev pub free : Allowance → Bool → Bool
free Once before = not before
free Always before = true

-- 02, §9: "Both are proved as one rule with the allowance as its parameter"; xs: the names whose x = x was free so far
module _ (allowed : Allowance) where
  abbrev pub may_repeat : Option First → Bool → Bool
  may_repeat none before = false
  may_repeat (some d) before = d.loaded && free allowed before

  abbrev pub repeated : List Deed → List First → List ℕ → List Rec
  repeated [] ds xs = []
  repeated (defines l h ∷ es) ds xs = defined (first_of h.spot.value ds) l h ds (λ v. repeated es v xs)
  repeated (repeats h ∷ es) ds xs =
      elim (may_repeat (first_of h.spot.value ds) (was_free h.spot.value xs)) [
        | true ↦ repeated es ds (h.spot.value ∷ xs)
        | false ↦ defined (first_of h.spot.value ds) false h ds (λ v. repeated es v xs)
      ]

abbrev pub incompatible : Allowance → (ℕ → Bool) → (ℕ → Bool) → Forest → List Rec
incompatible allowed is-type names-type f = each (check_at is-type names-type) f ++ repeated allowed (deeds f) [] []

-- the allowance of a tree file's version
abbrev pub allowance : ℕ → Allowance
allowance version = pick (eqb version 2) Always Once

abbrev pub type_name : List ℕ
type_name = ascii "type"

abbrev pub five_types : List (List ℕ)
five_types = ascii "bool" ∷ ascii "tuple" ∷ ascii "str" ∷ ascii "list" ∷ ascii "int" ∷ []

abbrev pub spells_one : List Value → List (List ℕ) → ℕ → Bool
spells_one vs [] x = false
spells_one vs (bs ∷ bss) x = spells vs bs x || spells_one vs bss x

-- of a file's bytes
unfoldable pub incompatible_list : List ℕ → List Rec
incompatible_list t = incompatible (allowance (version_of t)) (spells (table_of t) type_name) (spells_one (table_of t) five_types) (tree_of t)
