-- What each step and return of the functions of ends shows. Assumes nothing.
use Rattle.std.specs.Prelude.{Some, None}
use Prim.Native.Nat.{ℕ, ◌+◌}
use native.Mathlib.Decide.{ℕ_discrete}
use mathlib.Core.Path.{◌≡◌, refl, sym, ◌∙◌}
use mathlib.Core.Bool.{Bool, false, ◌&&◌}
use mathlib.Core.List.{List}
use lib.Dec.{eqb}
use borrow.Author.Tests.{ne_eqb}
use Rattle.tree.specs.Bytes.{kind_at, size_at}
use Rattle.tree.specs.Forest.{Forest, node_head, forest_of}
use Rattle.rules.specs.Visit.{look}
use Rattle.rules.specs.Order.{fail_called}
use Rattle.rules.specs.Flow.{ends_part, ends}
use Rattle.flow.specs.Returns.{Last}
use Rattle.flow.proofs.LastLaws.{last_there, last_absent}

-- ---- the body ends surely

module _ (is_fail : ℕ → Bool) {t : List ℕ} {r i e : ℕ} where
  pub ends_absent : Last t r i e None → false ≡ ends is_fail r (forest_of t i e)
  ends_absent l = sym (last_absent r (ends is_fail r) (λ h k. ends_part is_fail h.kind k (λ v. ends is_fail v k)) false refl (λ h k s. refl) l)

  -- j is the last of role r
  module _ {j : ℕ} (l : Last t r i e (Some j)) where
    abbrev below : Forest
    below = forest_of t (j + 1) (j + size_at t j)

    at_last : ends is_fail r (forest_of t i e) ≡ ends_part is_fail (kind_at t j) below (λ v. ends is_fail v below)
    unfolding node_head
    at_last = last_there r (ends is_fail r) (λ h k. ends_part is_fail h.kind k (λ v. ends is_fail v k)) false refl (λ h k s. refl) l

    pub ends_fail : kind_at t j ≡ 5 → fail_called is_fail below ≡ ends is_fail r (forest_of t i e)
    ends_fail q = sym (at_last ∙ rw q)

    pub ends_list : kind_at t j ≡ 8 → ends is_fail 0 below ≡ ends is_fail r (forest_of t i e)
    ends_list q = sym (at_last ∙ rw q)

    pub ends_sides : kind_at t j ≡ 10 → (ends is_fail 1 below && ends is_fail 2 below) ≡ ends is_fail r (forest_of t i e)
    ends_sides q = sym (at_last ∙ rw q)

    pub ends_other : (kind_at t j ≡ 5 → ⊥) → (kind_at t j ≡ 8 → ⊥) → (kind_at t j ≡ 10 → ⊥) → eqb (kind_at t j) 4 ≡ ends is_fail r (forest_of t i e)
    ends_other b c d = sym (at_last ∙ go (ℕ_discrete (kind_at t j) 4))
      where
        go : Dec (kind_at t j ≡ 4) → ends_part is_fail (kind_at t j) below (λ v. ends is_fail v below) ≡ eqb (kind_at t j) 4
        go (yes q) = rw q
        go (no a) = rw (ne_eqb (kind_at t j) 4 a, ne_eqb (kind_at t j) 5 b, ne_eqb (kind_at t j) 8 c, ne_eqb (kind_at t j) 10 d, look)
