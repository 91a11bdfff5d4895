-- What private functions promise: 01's list of first definitions as a table by value number. Assumes nothing.
-- Nobody has to believe them: proofs/Told shows that what is told by the table is what the rule judges.
use Rattle.std.specs.Prelude.{ℕ, ◌≡◌, ◌<◌, List, [], ◌∷◌, ◌++◌, Bool, true, false, ◌&&◌, ◌||◌, eqb, get_or}
use Rattle.std.specs.Prelude.{Option as Maybe, None, Some}
use Rattle.std.proofs.Math.Option.{Option, none, some}
use Rattle.tree.specs.Bytes.{kind_at}
use Rattle.tree.specs.Forest.{Head, Forest, node_head, forest_of}
use Rattle.rules.specs.Record.{Rec, listed}
use Rattle.rules.specs.Visit.{look, head_at}
use Rattle.rules.specs.Order.{bind_of}
use Rattle.rules.specs.Incompatible.{Deed, defines, repeats, First, again, may_repeat, defined_names, deed_part, self_set, tops, top_part}
use Rattle.rules.specs.Incompatible.{Top, holding, assigning, modifying, defining, loading, aside}
use Rattle.rules.specs.declared.Allowance.{Allowance}
use Rattle.answer.specs.declared.LentSheet.{LentSheet}
use Rattle.answer.specs.Page.{Added}
use Rattle.incompatible.specs.declared.assigns.Defined.{Defined}
use Rattle.incompatible.specs.declared.assigns.Definition.{Definition}

-- how often x = x is free, and what is known of each name: how it was first defined, whether x = x was free already
pub record Ledger : Type 0 where
  pub allowed : Allowance
  pub first : ℕ → Option First
  pub spent : ℕ → Bool

-- ---- a deed: what it has told, and what is known after it

abbrev pub told_by : Option First → Head → List Rec
told_by none h = []
told_by (some d) h = again d.head h ∷ []

abbrev pub ledger_by : Option First → Bool → Head → Ledger → Ledger
ledger_by none l h k =
    record {
      allowed = k.allowed;
      first = λ x. elim (eqb x h.spot.value) [ true ↦ some (record { head = h; loaded = l }) | false ↦ k.first x ];
      spent = k.spent;
    }
ledger_by (some d) l h k = k

abbrev pub free_now : Ledger → ℕ → Bool
free_now k v = may_repeat k.allowed (k.first v) (k.spent v)

abbrev pub spend : Ledger → ℕ → Ledger
spend k v = record { allowed = k.allowed; first = k.first; spent = λ x. eqb x v || k.spent x }

abbrev pub told : Deed → Ledger → List Rec
told (defines l h) k = told_by (k.first h.spot.value) h
told (repeats h) k = elim (free_now k h.spot.value) [ true ↦ [] | false ↦ told_by (k.first h.spot.value) h ]

abbrev pub knows : Deed → Ledger → Ledger
knows (defines l h) k = ledger_by (k.first h.spot.value) l h k
knows (repeats h) k = elim (free_now k h.spot.value) [ true ↦ spend k h.spot.value | false ↦ ledger_by (k.first h.spot.value) false h k ]

-- deeds one after the other
unfoldable pub tells : List Deed → Ledger → List Rec
tells [] k = []
tells (e ∷ es) k = told e k ++ tells es (knows e k)

unfoldable pub after : List Deed → Ledger → Ledger
after [] k = k
after (e ∷ es) k = after es (knows e k)

-- ---- what the table says

abbrev pub first_by : List ℕ → Maybe Definition → Option First
first_by t None = none
first_by t (Some d) = some (record { head = node_head t d.node; loaded = eqb (kind_at t d.node) 47 })

abbrev pub spent_by : Maybe Definition → Bool
spent_by None = false
spent_by (Some d) = d.exported

abbrev pub ledger : List ℕ → Defined → Ledger
ledger t d =
    record {
      allowed = d.allowed;
      first = λ v. first_by t (get_or d.names v None);
      spent = λ v. spent_by (get_or d.names v None);
    }

-- ---- the deeds of one node

abbrev pub named_one : ℕ → Head → Forest → List Deed
named_one r h k = listed (eqb r h.role) (deed_part (bind_of h) h (λ v. defined_names v k)) []

-- a list, if, if-else or for is gone into
abbrev pub goes_in : Top → Bool
goes_in holding = true
goes_in assigning = false
goes_in modifying = false
goes_in defining = false
goes_in loading = false
goes_in aside = false

abbrev pub top_of : ℕ → Top
top_of k = look k tops aside

-- the deeds of a statement itself
abbrev pub deeds_one : Head → Forest → List Deed
deeds_one h k = top_part (top_of h.kind) k []

-- the deeds of one node below several: its members have role 0
abbrev pub below_one : Head → List Deed
below_one h = listed (eqb 0 h.role) (deed_part (bind_of h) h (λ v. [])) []

abbrev pub is_several : Head → Bool
is_several h = eqb 0 h.role && eqb 41 h.kind

-- what a function does that is given what is defined, d, and a sheet s: it leaves d' and s'
pub record Does (t : List ℕ) (d : Defined) (s : LentSheet) (es : List Deed) (d' : Defined) (s' : LentSheet) : Type 0 where
  pub wrote : Added s s' (tells es (ledger t d))
  pub then : ledger t d' ≡ after es (ledger t d)

-- the deeds of an assignment with these children
abbrev pub top_assign : Forest → List Deed
top_assign k = top_part assigning k []

-- the target of x = x among the siblings from i up to e
abbrev pub SelfSet : List ℕ → ℕ → ℕ → Maybe ℕ → Type 0
SelfSet t i e None = self_set (forest_of t i e) ≡ false
SelfSet t i e (Some x) =
    (self_set (forest_of t i e) ≡ true) × (head_at 5 (forest_of t i e) ≡ node_head t x)
    × (x < e) × (kind_at t x ≡ 40)
