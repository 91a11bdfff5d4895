-- A fact of each member: of joined lists, and of a list that is there or not. Assumes nothing.
use mathlib.Core.Bool.{Bool, true, false}
use mathlib.Core.List.{List, [], ◌∷◌, ◌++◌}
use mathlib.Core.Option.{Option, none, some}
use lib.Dec.{T}
use Rattle.rules.specs.Record.{listed, Each}

-- a fact of what there may be
abbrev pub IfSome : {A : Type 0} → (A → Type 0) → Option A → Type 0
IfSome P none = Unit {0}
IfSome P (some x) = P x

-- of one of two things what holds of both
pub either : {A : Type 0} (P : A → Type 0) (b : Bool) (x y : A) → P x → P y → P (elim b as (λ z. A) [ true ↦ x | false ↦ y ])
either P true x y p q = p
either P false x y p q = q

-- .. where the first is only asked if it is the one
pub either_if : {A : Type 0} (P : A → Type 0) (b : Bool) (x y : A) → (T b → P x) → P y → P (elim b as (λ z. A) [ true ↦ x | false ↦ y ])
either_if P true x y p q = p tt
either_if P false x y p q = q

module _ {A : Type 0} (P : A → Type 0) where
  pub join : (xs ys : List A) → Each P xs → Each P ys → Each P (xs ++ ys)
  join [] ys p q = q
  join (x ∷ xs) ys p q = (p.0, join xs ys p.1 q)

  pub each_left : (xs ys : List A) → Each P (xs ++ ys) → Each P xs
  each_left [] ys p = tt
  each_left (x ∷ xs) ys p = (p.0, each_left xs ys p.1)

  pub each_right : (xs ys : List A) → Each P (xs ++ ys) → Each P ys
  each_right [] ys p = p
  each_right (x ∷ xs) ys p = each_right xs ys p.1

  pub listed_if : (b : Bool) (xs ys : List A) → (T b → Each P xs) → Each P ys → Each P (listed b xs ys)
  listed_if true xs ys p q = join xs ys (p tt) q
  listed_if false xs ys p q = q

  pub listed_each : (b : Bool) (xs ys : List A) → Each P xs → Each P ys → Each P (listed b xs ys)
  listed_each b xs ys p q = listed_if b xs ys (λ t. p) q

pub each_more : {A : Type 0} (P Q : A → Type 0) → ((x : A) → P x → Q x) → (xs : List A) → Each P xs → Each Q xs
each_more P Q f [] p = tt
each_more P Q f (x ∷ xs) p = (f x p.0, each_more P Q f xs p.1)
