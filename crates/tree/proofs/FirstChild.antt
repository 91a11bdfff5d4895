-- The first child of a role, where there is one, and where there is none. Assumes nothing.
use Rattle.std.specs.Prelude.{ℕ, ◌≡◌, ◌<◌, ◌≤◌, List, Bool, true, false, Option, Some, None, ltb}
use Rattle.std.proofs.Common.{refl, sym}
use mathlib.Core.Path.{subst}
use borrow.Author.Tests.{lt-ltb, le-ltb, ltb-true, ltb-false}
use Rattle.tree.specs.code.Find.{child_of, first_child}

pub child_some : (t : List ℕ) (r i e j : ℕ) → ◌≡◌ {A = Option ℕ} (Some j) (first_child t r i e) → (j ≡ child_of t r i e) × (j < e)
child_some t r i e j h = go (ltb (child_of t r i e) e) refl h
  where
    go : (b : Bool) → ltb (child_of t r i e) e ≡ b → ◌≡◌ {A = Option ℕ} (Some j) (elim b [ true ↦ Some (child_of t r i e) | false ↦ None ])
        → (j ≡ child_of t r i e) × (j < e)
    go true q h = let s : j ≡ child_of t r i e = cc in (s, rw s (ltb-true _ _ q))
    go false q h = cc

pub child_none : (t : List ℕ) (r i e : ℕ) → ◌≡◌ {A = Option ℕ} None (first_child t r i e) → e ≤ child_of t r i e
child_none t r i e h = go (ltb (child_of t r i e) e) refl h
  where
    go : (b : Bool) → ltb (child_of t r i e) e ≡ b → ◌≡◌ {A = Option ℕ} None (elim b [ true ↦ Some (child_of t r i e) | false ↦ None ])
        → e ≤ child_of t r i e
    go true q h = cc
    go false q h = ltb-false _ _ q

-- what the search finds, and that it finds none
pub is_first : (t : List ℕ) (r i e j : ℕ) → j ≡ child_of t r i e → j < e → ◌≡◌ {A = Option ℕ} (Some j) (first_child t r i e)
is_first t r i e j q h = let s : ltb (child_of t r i e) e ≡ true = lt-ltb _ _ (rw (← q) h) in
    subst (λ (x : ℕ). ◌≡◌ {A = Option ℕ} (Some x) (first_child t r i e)) (sym q) (rw (s, first_child) refl)

pub is_none : (t : List ℕ) (r i e : ℕ) → e ≤ child_of t r i e → ◌≡◌ {A = Option ℕ} None (first_child t r i e)
is_none t r i e h = let s : ltb (child_of t r i e) e ≡ false = le-ltb _ _ h in rw (s, first_child) refl
