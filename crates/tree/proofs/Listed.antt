-- The children of a node, by number and in the forest, are the same. Assumes nothing.
use Prim.Native.Nat.{ℕ, zero, suc, ◌+◌, ◌-◌}
use mathlib.Core.Path.{◌≡◌, refl, ap}
use mathlib.Core.List.{[], List, ◌∷◌}
use mathlib.Core.Bool.{Bool, true, false}
use lib.Dec.{ltb, eqb}
use Rattle.tree.specs.Bytes.{size_at, kind_at, role_at}
use Rattle.tree.specs.Forest.{Forest, none, node, node_head, forest_in, forest_of}
use Rattle.tree.specs.Children.{all_stand, many, all_filled, in_pairs, for_first, in_order, kids_fit}
use Rattle.tree.specs.code.Kids.{kids_in, kids_of, kids_stand, of_role, kids_filled, paired, kids_for_first, kids_in_order, good7}

-- node numbers, and a forest whose topmost nodes they are
data Lists (t : List ℕ) : List ℕ → Forest → Type 0 where
  nil : Lists t [] none
  cons : (c : ℕ) (k : Forest) {cs : List ℕ} {r : Forest} → Lists t cs r → Lists t (c ∷ cs) (node (node_head t c) k r)

lists : (k : ℕ) (t : List ℕ) (c e : ℕ) → Lists t (kids_in k t c e) (forest_in k t c e)
unfolding kids_in forest_in
lists zero t c e = nil
lists (suc k) t c e = go (ltb c e) (lists k t (c + size_at t c) e)
  where
    go : (b : Bool) → Lists t (kids_in k t (c + size_at t c) e) (forest_in k t (c + size_at t c) e)
        → Lists t (elim b as (λ x. List ℕ) [ true ↦ c ∷ kids_in k t (c + size_at t c) e | false ↦ [] ])
        (elim b as (λ x. Forest) [ true ↦ node (node_head t c) (forest_in k t (c + 1) (c + size_at t c)) (forest_in k t (c + size_at t c) e) | false ↦ none ])
    go true l = cons c _ l
    go false l = nil

stand_same : (k : ℕ) {t : List ℕ} {cs : List ℕ} {f : Forest} → Lists t cs f → all_stand k f ≡ kids_stand t k cs
unfolding all_stand kids_stand node_head
stand_same k nil = refl
stand_same k (cons c g l) = rw (stand_same k l)

many_same : (r : ℕ) {t : List ℕ} {cs : List ℕ} {f : Forest} → Lists t cs f → many r f ≡ of_role t r cs
unfolding many of_role node_head
many_same r nil = refl
many_same r (cons c g l) = rw (many_same r l)

filled_same : (r k : ℕ) {t : List ℕ} {cs : List ℕ} {f : Forest} → Lists t cs f → all_filled r k f ≡ kids_filled r t k cs
unfolding all_filled kids_filled
filled_same zero k l = refl
filled_same (suc r) k l = rw (filled_same r k l, many_same r l)

pairs_same : {t : List ℕ} (w : ℕ) {cs : List ℕ} {f : Forest} → Lists t cs f → in_pairs w f ≡ paired t w cs
unfolding in_pairs paired node_head
pairs_same w nil = refl
pairs_same w (cons c g l) = rw (pairs_same (12 - w) l)

for_same : {t : List ℕ} {cs : List ℕ} {f : Forest} → Lists t cs f → for_first f ≡ kids_for_first t cs
unfolding for_first kids_for_first node_head
for_same nil = refl
for_same {t} (cons c g l) = ap (λ (x : Bool). elim (eqb (role_at t c) 0) as (λ b. Bool) [ true ↦ eqb (kind_at t c) 45 | false ↦ x ]) (for_same l)

order_same : (k : ℕ) {t : List ℕ} {cs : List ℕ} {f : Forest} → Lists t cs f → in_order k f ≡ kids_in_order t k cs
unfolding in_order kids_in_order
order_same k l = rw (pairs_same 8 l, for_same l)

-- the forest below node p fits its kind exactly where its children do by number
pub kids_same : (t : List ℕ) (p : ℕ) → kids_fit (kind_at t p) (forest_of t (p + 1) (p + size_at t p)) ≡ good7 t p
unfolding kids_fit good7 kids_of forest_of
kids_same t p =
    let l = lists (p + size_at t p - (p + 1)) t (p + 1) (p + size_at t p) in
    rw (stand_same (kind_at t p) l, filled_same 9 (kind_at t p) l, order_same (kind_at t p) l)
