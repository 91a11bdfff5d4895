-- Laws of truth values, as facts T b.
use mathlib.Core.Path.{◌≡◌, refl}
use mathlib.Core.Bool.{Bool, true, false, ◌||◌, ◌&&◌, not}
use mathlib.Core.Logic.{◌⊎◌, inl, inr}
use lib.Dec.{T}

pub so : (b : Bool) → T b → b ≡ true
so true t = refl
so false t = absurd t

pub nope : (b : Bool) → T (not b) → b ≡ false
nope true t = absurd t
nope false t = refl

pub or_left : (a b : Bool) → T a → T (a || b)
or_left true b t = tt
or_left false b t = absurd t

pub or_right : (a b : Bool) → T b → T (a || b)
or_right true b t = tt
or_right false b t = t

pub or_case : (a b : Bool) {P : Type 0} → (T a → P) → (T b → P) → T (a || b) → P
or_case true b f g t = f t
or_case false b f g t = g t

pub or_cases : (a b : Bool) → T (a || b) → T a ⊎ T b
or_cases true b t = inl tt
or_cases false b t = inr t

pub or_other : (a b : Bool) → T (not a) → T (a || b) → T b
or_other true b n t = absurd n
or_other false b n t = t

pub and_left : (a b : Bool) → T (a && b) → T a
and_left true b t = tt
and_left false b t = t

pub and_right : (a b : Bool) → T (a && b) → T b
and_right true b t = t
and_right false b t = absurd t

pub both : (a b : Bool) → T a → T b → T (a && b)
both true b s t = t
both false b s t = s

pub nor_left : (a b : Bool) → T (not (a || b)) → T (not a)
nor_left true b t = t
nor_left false b t = tt

pub nor_right : (a b : Bool) → T (not (a || b)) → T (not b)
nor_right true b t = absurd t
nor_right false b t = t

pub nor_both : (a b : Bool) → T (not a) → T (not b) → T (not (a || b))
nor_both true b t u = t
nor_both false b t u = u

pub never : {P : Type 0} (b : Bool) → T b → T (not b) → P
never true t u = absurd u
never false t u = absurd t

pub implies : (a b : Bool) → T (not a || b) → T a → T b
implies true b t u = t
implies false b t u = absurd u

pub imply : (a b : Bool) → (T a → T b) → T (not a || b)
imply true b f = f tt
imply false b f = tt

pub test : (b : Bool) {P : Type 0} → (T b → P) → (T (not b) → P) → P
test true f g = f tt
test false f g = g tt

pub decide : (b : Bool) → T b ⊎ T (not b)
decide true = inl tt
decide false = inr tt
