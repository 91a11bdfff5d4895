-- What the rules say of a node by its kind. Assumes nothing.
use Prim.Native.Nat.{ℕ}
use native.Mathlib.Decide.{ℕ_discrete}
use mathlib.Core.Path.{◌≡◌, ap}
use mathlib.Core.List.{List, [], ◌∷◌}
use mathlib.Core.Bool.{Bool, false, not}
use borrow.Author.Tests.{ne_eqb}
use Rattle.tree.specs.Forest.{Head, Forest}
use Rattle.rules.specs.Visit.{look}
use Rattle.rules.specs.Record.{Rec, listed, plainly}
use Rattle.rules.specs.Flow.{effect_part, Loads, loads_part, Reached, Course, one_by_one, on_through, reached_part, tail_part, redundant_part}

-- an expression statement is the only one whose insides are not gone through
pub effect_other : (F : ℕ → Bool) (h : Head) (k : Forest) (down : List Rec) → (h.kind ≡ 5 → ⊥) → effect_part F h.kind k down ≡ down
effect_other F h k down n = rw (ne_eqb h.kind 5 n, look)

-- only a list goes down
pub loads_other : (F : ℕ → Bool) (may : Bool) (h : Head) (k : Forest) (down below : Bool → Loads) → (h.kind ≡ 8 → ⊥)
    → loads_part F h.kind may h k down ≡ loads_part F h.kind may h k below
loads_other F may h k down below n = go (ℕ_discrete h.kind 5)
  where
    go : Dec (h.kind ≡ 5) → loads_part F h.kind may h k down ≡ loads_part F h.kind may h k below
    go (yes e) = rw e
    go (no m) = rw (ne_eqb h.kind 5 m, ne_eqb h.kind 8 n, look)

-- what is no list, load or expression ends the loads
pub loads_end : (F : ℕ → Bool) (may : Bool) (h : Head) (k : Forest) (down : Bool → Loads) → (h.kind ≡ 5 → ⊥) → (h.kind ≡ 8 → ⊥) → (h.kind ≡ 13 → ⊥)
    → loads_part F h.kind may h k down ≡ record { may = false; recs = [] }
loads_end F may h k down a b c = rw (ne_eqb h.kind 5 a, ne_eqb h.kind 8 b, ne_eqb h.kind 13 c, look)

pub loads_load : (F : ℕ → Bool) (may : Bool) (h : Head) (k : Forest) (down : Bool → Loads) → h.kind ≡ 13
    → loads_part F h.kind may h k down ≡ record { may = may; recs = listed (not may) (plainly 12 h ∷ []) [] }
loads_load F may h k down e = ap (λ (m : ℕ). loads_part F m may h k down) e

pub loads_silent : (F : ℕ → Bool) (may : Bool) (h : Head) (k : Forest) → (h.kind ≡ 13 → ⊥)
    → (loads_part F h.kind may h k (λ v. record { may = v; recs = [] })).recs ≡ []
loads_silent F may h k n = go (ℕ_discrete h.kind 5) (ℕ_discrete h.kind 8)
  where
    go : Dec (h.kind ≡ 5) → Dec (h.kind ≡ 8) → (loads_part F h.kind may h k (λ v. record { may = v; recs = [] })).recs ≡ []
    go (yes e) d = rw e
    go (no a) (yes e) = rw e
    go (no a) (no b) = rw (ne_eqb h.kind 5 a, ne_eqb h.kind 8 b, ne_eqb h.kind 13 n, look)

-- only a for and a def have a body that ends with something
pub redundant_other : (h : Head) (k : Forest) → (h.kind ≡ 11 → ⊥) → (h.kind ≡ 12 → ⊥) → redundant_part h.kind k ≡ []
redundant_other h k a b = rw (ne_eqb h.kind 11 a, ne_eqb h.kind 12 b, look)

-- last goes through lists, if and if-else only
pub tail_other : (loops : Bool) (h : Head) (k : Forest) (down : ℕ → List Rec)
    → (h.kind ≡ 2 → ⊥) → (h.kind ≡ 4 → ⊥) → (h.kind ≡ 8 → ⊥) → (h.kind ≡ 9 → ⊥) → (h.kind ≡ 10 → ⊥)
    → tail_part h.kind loops h k down ≡ []
tail_other loops h k down a b c d e =
    rw (ne_eqb h.kind 2 a, ne_eqb h.kind 4 b, ne_eqb h.kind 8 c, ne_eqb h.kind 9 d, ne_eqb h.kind 10 e, look)

-- any other statement's children are gone through each by itself
pub reach_other : (F : ℕ → Bool) (h : Head) (k : Forest) (down : Course → Reached)
    → (h.kind ≡ 1 → ⊥) → (h.kind ≡ 2 → ⊥) → (h.kind ≡ 4 → ⊥) → (h.kind ≡ 5 → ⊥) → (h.kind ≡ 8 → ⊥) → (h.kind ≡ 10 → ⊥)
    → reached_part F h.kind k down ≡ on_through (down one_by_one)
reach_other F h k down a b c d e f =
    rw (ne_eqb h.kind 1 a, ne_eqb h.kind 2 b, ne_eqb h.kind 4 c, ne_eqb h.kind 5 d, ne_eqb h.kind 8 e, ne_eqb h.kind 10 f, look)
