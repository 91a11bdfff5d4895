-- Refusal 7 by node numbers, as the code goes: proofs/Staged shows that Children's test of the forest says the same. Assumes
-- nothing.
use Rattle.std.specs.Prelude.{ℕ, zero, suc, ◌+◌, ◌-◌, ◌≤◌, ◌<◌, [], List, ◌∷◌, Bool, true, false, ◌&&◌, not, leb, ltb, eqb}
use Rattle.tree.specs.Bytes.{kind_at, role_at, size_at, pick}
use Rattle.tree.specs.Children.{in_class, slot_of, root_ok}

-- every node below e has a size
abbrev pub Sized : List ℕ → ℕ → Type 0
Sized t e = (j : ℕ) → j < e → 1 ≤ size_at t j

-- children from node c on up to e, f at least their number
unfoldable pub kids_in : ℕ → List ℕ → ℕ → ℕ → List ℕ
kids_in zero t c e = []
kids_in (suc f) t c e = elim (ltb c e) [ true ↦ c ∷ kids_in f t (c + size_at t c) e | false ↦ [] ]

abbrev pub kids_from : List ℕ → ℕ → ℕ → List ℕ
kids_from t c e = kids_in (e - c) t c e

unfoldable pub kids_of : List ℕ → ℕ → List ℕ
kids_of t p = kids_from t (p + 1) (p + size_at t p)

-- each child of a node of kind k stands in the slot of its role
unfoldable pub kids_stand : List ℕ → ℕ → List ℕ → Bool
kids_stand t k [] = true
kids_stand t k (c ∷ cs) = in_class (slot_of k (role_at t c)).class (kind_at t c) && kids_stand t k cs

-- how many have role r
unfoldable pub of_role : List ℕ → ℕ → List ℕ → ℕ
of_role t r [] = 0
of_role t r (c ∷ cs) = pick (eqb (role_at t c) r) 1 0 + of_role t r cs

abbrev pub filled : List ℕ → ℕ → List ℕ → ℕ → Bool
filled t k cs r = leb (slot_of k r).least (of_role t r cs) && leb (of_role t r cs) (slot_of k r).most

-- of each role below the number given, as many as the slot says (roles go from 0 to 8)
unfoldable pub kids_filled : ℕ → List ℕ → ℕ → List ℕ → Bool
kids_filled zero t k cs = true
kids_filled (suc r) t k cs = kids_filled r t k cs && filled t k cs r

-- key, role 8, and value, role 4, in turn; w is whose turn it is
unfoldable pub paired : List ℕ → ℕ → List ℕ → Bool
paired t w [] = eqb w 8
paired t w (c ∷ cs) = eqb (role_at t c) w && paired t (12 - w) cs

-- the first clause is a for
unfoldable pub kids_for_first : List ℕ → List ℕ → Bool
kids_for_first t [] = true
kids_for_first t (c ∷ cs) = elim (eqb (role_at t c) 0) [ true ↦ eqb (kind_at t c) 45 | false ↦ kids_for_first t cs ]

unfoldable pub kids_in_order : List ℕ → ℕ → List ℕ → Bool
kids_in_order t k cs = pick (eqb k 29) (paired t 8 cs) (pick (eqb k 25) (kids_for_first t cs) (pick (eqb k 26) (kids_for_first t cs) true))

unfoldable pub good7 : List ℕ → ℕ → Bool
good7 t p =
    kids_stand t (kind_at t p) (kids_of t p)
    && (kids_filled 9 t (kind_at t p) (kids_of t p) && kids_in_order t (kind_at t p) (kids_of t p))

-- 7: node i
unfoldable pub bad7 : List ℕ → ℕ → ℕ → Bool
bad7 t n i = not (pick (eqb i 0) (root_ok t n) true && good7 t i)
