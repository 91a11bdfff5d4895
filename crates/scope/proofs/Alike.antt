-- Laws of what two nodes have alike, and of sorts. Assumes nothing.
use Prim.Native.Nat.{ℕ}
use mathlib.Core.Path.{◌≡◌, refl}
use mathlib.Core.Bool.{false}
use mathlib.Core.List.{List}
use lib.Dec.{eqb}
use borrow.Author.Tests.{eq-eqb, ne_eqb}
use Rattle.tree.specs.Bytes.{kind_at, begin_at, end_at, value_at}
use Rattle.tree.specs.Forest.{node_spot}
use Rattle.rules.specs.Order.{Sort}
use Rattle.rules.specs.Names.{same, unused}
use Rattle.rules.specs.code.Marks.{same_sort, same_setting}
use Rattle.scope.specs.State.{sort_of}
use Rattle.scope.specs.Words.{setting_at}

pub code_load : (k : ℕ) → k ≡ 47 → 1 ≡ unused (sort_of k)
unfolding sort_of
code_load k e = rw e

pub code_argument : (k : ℕ) → k ≡ 43 → 3 ≡ unused (sort_of k)
unfolding sort_of
code_argument k e = rw e

pub code_assign : (k : ℕ) → (k ≡ 47 → ⊥) → (k ≡ 43 → ⊥) → 2 ≡ unused (sort_of k)
unfolding sort_of
code_assign k p q = rw (ne_eqb k 47 p, ne_eqb k 43 q)

module _ (t : List ℕ) (a b : ℕ) where
  pub value_differs : (value_at t a ≡ value_at t b → ⊥) → false ≡ same (node_spot t a) (node_spot t b)
  unfolding node_spot
  value_differs h = rw (ne_eqb (value_at t a) (value_at t b) h)

  pub begin_differs : value_at t a ≡ value_at t b → (begin_at t a ≡ begin_at t b → ⊥) → false ≡ same (node_spot t a) (node_spot t b)
  unfolding node_spot
  begin_differs e h = rw (eq-eqb (value_at t a) (value_at t b) e, ne_eqb (begin_at t a) (begin_at t b) h)

  pub end_decides : value_at t a ≡ value_at t b → begin_at t a ≡ begin_at t b → eqb (end_at t a) (end_at t b) ≡ same (node_spot t a) (node_spot t b)
  unfolding node_spot
  end_decides e h = rw (eq-eqb (value_at t a) (value_at t b) e, eq-eqb (begin_at t a) (begin_at t b) h)

sort_code : (x y : Sort) → eqb (unused x) (unused y) ≡ same_sort x y
sort_code Sort.load Sort.load = refl
sort_code Sort.load Sort.assign = refl
sort_code Sort.load Sort.argument = refl
sort_code Sort.assign Sort.load = refl
sort_code Sort.assign Sort.assign = refl
sort_code Sort.assign Sort.argument = refl
sort_code Sort.argument Sort.load = refl
sort_code Sort.argument Sort.assign = refl
sort_code Sort.argument Sort.argument = refl

module _ (t : List ℕ) (a b : ℕ) where
  pub sort_differs : (unused (sort_of (kind_at t a)) ≡ unused (sort_of (kind_at t b)) → ⊥) → false ≡ same_setting (setting_at t a) (setting_at t b)
  sort_differs h = rw (← sort_code (sort_of (kind_at t a)) (sort_of (kind_at t b)), ne_eqb (unused (sort_of (kind_at t a))) (unused (sort_of (kind_at t b))) h)

  pub sort_same : unused (sort_of (kind_at t a)) ≡ unused (sort_of (kind_at t b)) → same (node_spot t a) (node_spot t b) ≡ same_setting (setting_at t a) (setting_at t b)
  sort_same e = rw (← sort_code (sort_of (kind_at t a)) (sort_of (kind_at t b)), eq-eqb (unused (sort_of (kind_at t a))) (unused (sort_of (kind_at t b))) e)
