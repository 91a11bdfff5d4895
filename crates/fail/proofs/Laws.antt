-- What each step and return of the fail test shows. Assumes nothing.
use Prim.Native.Nat.{ℕ, ◌+◌, ◌≤◌, ◌<◌}
use mathlib.Core.Path.{◌≡◌, refl, sym, ap, ◌∙◌}
use mathlib.Core.Bool.{Bool, true, false, ◌&&◌, ◌||◌}
use mathlib.Core.List.{List}
use lib.Dec.{eqb}
use Rattle.tree.specs.Bytes.{kind_at, role_at, size_at, value_at}
use Rattle.tree.specs.Forest.{Head, Forest, none, node, node_spot, node_head, forest_of}
use Rattle.tree.specs.code.Part.{Part}
use Rattle.tree.proofs.Laws.{forest_none, forest_node, kids, rest}
use Rattle.rules.specs.Order.{fail_named, fail_called}

-- the siblings from i up to e are gone through up to j: what g says of them is what it says of the rest
abbrev pub Gone : (Forest → Bool) → List ℕ → ℕ → ℕ → ℕ → Type 0
Gone g t i e j = Part t i e → Part t j e × (g (forest_of t j e) ≡ g (forest_of t i e))

-- g is whether one of some siblings is G, by its head and children
module _ (g : Forest → Bool) (G : Head → Forest → Bool) (nil : g none ≡ false) (cons : (h : Head) (k s : Forest) → g (node h k s) ≡ (G h k || g s)) where
  any_end : {t : List ℕ} {i e j : ℕ} → Gone g t i e j → e ≤ j → Part t i e → false ≡ g (forest_of t i e)
  any_end {t} {i} {e} {j} f h p = sym (ap g (forest_none t j e h) ∙ nil) ∙ (f p).1

  -- node j, which ends at n; b: whether it is G
  module _ {t : List ℕ} {i e j n : ℕ} (f : Gone g t i e j) (lt : j < e) (there : Part t j e → n ≡ j + size_at t j)
      {b : Bool} (is : Part t (j + 1) n → b ≡ G (node_head t j) (forest_of t (j + 1) n)) where
    any_node : Part t j e → g (forest_of t j e) ≡ (b || g (forest_of t n e))
    any_node p =
        let q : Part t (j + 1) n = rw (there p) (kids p lt) in
        ap g (forest_node p lt) ∙ cons _ _ _ ∙ rw (← there p) (ap (λ (x : Bool). x || g (forest_of t n e)) (sym (is q)))

    any_here : b ≡ true → Part t i e → true ≡ g (forest_of t i e)
    any_here q p = sym (any_node (f p).0 ∙ rw q) ∙ (f p).1

    any_next : b ≡ false → Gone g t i e n
    any_next q p = (rw (there (f p).0) (rest (f p).0 lt), sym (any_node (f p).0 ∙ rw q) ∙ (f p).1)

module _ (fail : ℕ) where
  abbrev named : Head → Forest → Bool
  named h k = eqb 7 h.role && (eqb 20 h.kind && eqb h.spot.value fail)

  abbrev called : Head → Forest → Bool
  called h k = eqb 4 h.role && (eqb 23 h.kind && fail_named (λ v. eqb v fail) k)

  module _ {t : List ℕ} {i e j : ℕ} where
    pub named_end : Gone (fail_named (λ v. eqb v fail)) t i e j → e ≤ j → Part t i e → false ≡ fail_named (λ v. eqb v fail) (forest_of t i e)
    named_end = any_end (fail_named (λ v. eqb v fail)) named refl (λ h k s. refl)

    pub called_end : Gone (fail_called (λ v. eqb v fail)) t i e j → e ≤ j → Part t i e → false ≡ fail_called (λ v. eqb v fail) (forest_of t i e)
    called_end = any_end (fail_called (λ v. eqb v fail)) called refl (λ h k s. refl)

    module _ {b : Bool} (is : b ≡ (eqb 7 (role_at t j) && (eqb 20 (kind_at t j) && eqb (value_at t j) fail))) where
      pub named_here : Gone (fail_named (λ v. eqb v fail)) t i e j → j < e → b ≡ true → Part t i e → true ≡ fail_named (λ v. eqb v fail) (forest_of t i e)
      unfolding node_head node_spot
      named_here f lt = any_here (fail_named (λ v. eqb v fail)) named refl (λ h k s. refl) {n = j + size_at t j} f lt (λ p. refl) (λ p. is)

      pub named_next : Gone (fail_named (λ v. eqb v fail)) t i e j → j < e → {n : ℕ} → (Part t j e → n ≡ j + size_at t j) → b ≡ false → Gone (fail_named (λ v. eqb v fail)) t i e n
      unfolding node_head node_spot
      named_next f lt there = any_next (fail_named (λ v. eqb v fail)) named refl (λ h k s. refl) f lt there (λ p. is)

    module _ {n : ℕ} (there : Part t j e → n ≡ j + size_at t j) {b : Bool}
        (is : Part t (j + 1) n → b ≡ (eqb 4 (role_at t j) && (eqb 23 (kind_at t j) && fail_named (λ v. eqb v fail) (forest_of t (j + 1) n)))) where
      pub called_here : Gone (fail_called (λ v. eqb v fail)) t i e j → j < e → b ≡ true → Part t i e → true ≡ fail_called (λ v. eqb v fail) (forest_of t i e)
      unfolding node_head
      called_here f lt = any_here (fail_called (λ v. eqb v fail)) called refl (λ h k s. refl) f lt there is

      pub called_next : Gone (fail_called (λ v. eqb v fail)) t i e j → j < e → b ≡ false → Gone (fail_called (λ v. eqb v fail)) t i e n
      unfolding node_head
      called_next f lt = any_next (fail_called (λ v. eqb v fail)) called refl (λ h k s. refl) f lt there is
