-- 01, "Incompatible and dubious", codes 16 and 17: "16 before 17"; 02, §11: why two keys are equal. Assumes nothing.
use Rattle.std.specs.Prelude.{ℕ, ◌&&◌, ◌||◌, List, [], ◌∷◌, ◌++◌, eqb}
use Rattle.tree.specs.Forest.{Head, Forest, Forest.none as leaf, node, tree_of}
use Rattle.tree.specs.declared.Mode.{Mode}
use Rattle.tree.specs.declared.Likeness.{Likeness}
use Rattle.tree.specs.declared.Likeness.TheVariants.{Different, SameForm, SameNumber}
use Rattle.tree.specs.Keys.{like, reason}
use Rattle.tree.specs.Table.{table_of, at}
use Rattle.rules.specs.Record.{Rec, Span, named_at, also_at, listed}
use Rattle.rules.specs.Visit.{head_at, each, kind_among}

-- "Keys: identifiers and literals": a dict's, in file order
abbrev pub keys : Forest → List Head
keys leaf = []
keys (node h k s) = listed (eqb 8 h.role && (eqb 20 h.kind || eqb 21 h.kind)) (h ∷ []) (keys s)

-- the keys before the next one, the last first: "the previous equal key" is the first of them that is equal
abbrev pub seen_with : Head → List Head → List Head
seen_with h seen = h ∷ seen

-- 02, §11: "In a code 16 record the first word of the third span is then 1 or 2 and the second word 0."
abbrev pub reason_span : Likeness → Span
reason_span l = record { begin = reason l; end = 0 }

-- "16 duplicate key, at the previous equal key's span, second span the later key"; "16 the later key" is its value
abbrev pub double : Likeness → Head → Head → Rec
double l old h = also_at 16 old h.spot.value h (reason_span l)

abbrev pub clash : Likeness → Head → Head → List Rec → List Rec
clash Different old h on = on
clash SameForm old h on = double SameForm old h ∷ []
clash SameNumber old h on = double SameNumber old h ∷ []

-- test: the key test on value numbers
module _ (test : ℕ → ℕ → Likeness) where
  -- h against the keys before it
  abbrev pub against : Head → List Head → List Rec
  against h [] = []
  against h (old ∷ seen) = clash (test old.spot.value h.spot.value) old h (against h seen)

  abbrev pub doubles : List Head → List Head → List Rec
  doubles seen [] = []
  doubles seen (h ∷ hs) = against h seen ++ doubles (seen_with h seen) hs

  abbrev pub dict_at : Head → Forest → List Rec
  dict_at h k = listed (eqb 29 h.kind) (doubles [] (keys k)) []

-- "17 identifier as statement"
abbrev pub idle_at : Head → Forest → List Rec
idle_at h k = listed (eqb 5 h.kind && eqb 20 (kind_among 4 k)) (named_at 17 (head_at 4 k) ∷ []) []

abbrev pub dubious : (ℕ → ℕ → Likeness) → Forest → List Rec
dubious test f = each (dict_at test) f ++ each idle_at f

-- of a file's bytes
unfoldable pub dubious_list : Mode → List ℕ → List Rec
dubious_list mode t = dubious (λ a b. like mode (at (table_of t) a) (at (table_of t) b)) (tree_of t)
