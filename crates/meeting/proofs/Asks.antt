-- What an ask of a plan stands for, by its number. Assumes nothing.
use Prim.Native.Nat.{ℕ, ◌+◌}
use mathlib.Core.Path.{◌≡◌, refl}
use Rattle.tree.specs.declared.kinds.Role.{Role}
use Rattle.tree.specs.declared.kinds.Role.TheVariants.{Item, First, Second, «Type», Expression, Target, Name, Function, Key}
use Rattle.tree.specs.Forest.{Head, Forest}
use Rattle.rules.specs.Order.{of_role}
use Rattle.meeting.specs.Asked.{visits, names, ask_of, asked, asked_as, below}
use Rattle.meeting.specs.Meant.{role_number, number, meant}
use Rattle.meeting.specs.declared.walk.Ask.{Ask as Asking}
use Rattle.meeting.specs.declared.walk.Ask.TheVariants.{Of, Every, FirstOver, FirstTarget, Clauses, Names, Nothing, Itself}

role_all : (Q : ℕ → Type 0) → Q 0 → Q 1 → Q 2 → Q 3 → Q 4 → Q 5 → Q 6 → Q 7 → Q 8 → (r : Role) → Q (role_number r)
role_all Q a b c d e f g h i Item = a
role_all Q a b c d e f g h i First = b
role_all Q a b c d e f g h i Second = c
role_all Q a b c d e f g h i «Type» = d
role_all Q a b c d e f g h i Expression = e
role_all Q a b c d e f g h i Target = f
role_all Q a b c d e f g h i Name = g
role_all Q a b c d e f g h i Function = h
role_all Q a b c d e f g h i Key = i

-- what a number of a row has met, but for the node itself
pub below_is : (a : Asking) (h : Head) (k : Forest) → (a ≡ Itself → ⊥) → below (number a) h k ≡ asked_as (meant a) k
unfolding below asked ask_of asked_as
below_is (Of r) h k n = role_all (λ m. below m h k ≡ asked_as (visits (of_role m)) k) refl refl refl refl refl refl refl refl refl r
below_is Every h k n = refl
below_is FirstOver h k n = refl
below_is FirstTarget h k n = refl
below_is Clauses h k n = refl
below_is (Names r) h k n = role_all (λ m. below (16 + m) h k ≡ asked_as (names m) k) refl refl refl refl refl refl refl refl refl r
below_is Nothing h k n = refl
below_is Itself h k n = absurd (n refl)
