-- What version 2 changes of a list (02, §9), for a theorem: nobody has to believe it. Assumes nothing.
use Rattle.std.specs.Prelude.{ℕ, ◌≡◌, Bool, true, false, List, [], ◌∷◌, ◌++◌, eqb}
use Rattle.std.proofs.Math.Option.{Option, none, some}
use Rattle.tree.specs.Forest.{Head}
use Rattle.rules.specs.Record.{Rec}
use Rattle.rules.specs.Incompatible.{Deed, defines, repeats, again}

abbrev pub head_of : Deed → Head
head_of (defines l h) = h
head_of (repeats h) = h

-- what defines x first, x = x counted
abbrev pub first_deed : ℕ → List Deed → Option Deed
first_deed x [] = none
first_deed x (e ∷ es) = elim (eqb x (head_of e).spot.value) [ true ↦ some e | false ↦ first_deed x es ]

-- e is one of these deeds
pub record Among (es : List Deed) (e : Deed) : Type 0 where
  pub earlier : List Deed
  pub later : List Deed
  pub there : es ≡ earlier ++ (e ∷ later)

-- "x was first defined by a load", at g
abbrev pub Loaded : List Deed → ℕ → Head → Type 0
Loaded es x g = first_deed x es ≡ some (defines true g)

-- two lists of 15s: of the first those go that are re-exports, an x = x "where x was first defined by a load"; in the second stay those at
-- another definition, and at an x = x of a name that wasn't
pub data Quieted (es : List Deed) : List Rec → List Rec → Type 0 where
  end : Quieted es [] []
  goes : {xs ys : List Rec} (g h : Head) → Among es (repeats h) → Loaded es h.spot.value g → Quieted es xs ys → Quieted es (again g h ∷ xs) ys
  stays : {xs ys : List Rec} (g h : Head) (l : Bool) → Among es (defines l h) → Quieted es xs ys → Quieted es (again g h ∷ xs) (again g h ∷ ys)
  stays_own : {xs ys : List Rec} (g h : Head) → Among es (repeats h) → ((i : Head) → Loaded es h.spot.value i → ⊥) → Quieted es xs ys
      → Quieted es (again g h ∷ xs) (again g h ∷ ys)

-- two lists that are the same but for 15s in one place
pub record QuietedIn (es : List Deed) (xs ys : List Rec) : Type 0 where
  pub front : List Rec
  pub behind : List Rec
  pub ones : List Rec
  pub others : List Rec
  pub first : xs ≡ front ++ (ones ++ behind)
  pub second : ys ≡ front ++ (others ++ behind)
  pub quieted : Quieted es ones others
