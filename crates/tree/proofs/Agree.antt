-- What two files have in common where their bytes are the same: numbers, nodes and the forest, values and the table. Assumes nothing.
use Prim.Native.Nat.{ℕ, zero, suc, ◌+◌, ◌-◌, ◌≤◌, ◌<◌}
use native.Mathlib.Omega.{arith}
use mathlib.Core.Path.{◌≡◌, refl, ap, ap₂, ◌∙◌}
use mathlib.Core.List.{List, ◌∷◌}
use mathlib.Core.Bool.{Bool, true, false}
use lib.Dec.{ltb}
use lib.ListN.{get_or}
use borrow.Author.Tests.{ltb-true}
use Rattle.tree.specs.Bytes.{bytes_from, u16_at, u32_at, node_at, kind_at, role_at, size_at, begin_at, end_at, value_at, last_at}
use Rattle.tree.specs.Forest.{Forest, Forest.none as leaf, node, node_spot, node_head, forest_in, forest_of}
use Rattle.tree.specs.Values.{Value, value_from, after}
use Rattle.tree.specs.Table.{values_from}

-- of the bytes from low on those before an end k with Upto k are the same
module _ (t u : List ℕ) (low : ℕ) (Upto : ℕ → Type 0) (down : (j k : ℕ) → j ≤ k → Upto k → Upto j)
    (same : (k : ℕ) → low ≤ k → Upto (k + 1) → get_or t k 0 ≡ get_or u k 0) where
  -- ---- numbers

  pub two : (k : ℕ) → low ≤ k → Upto (k + 2) → u16_at t k ≡ u16_at u k
  unfolding u16_at
  two k h b = rw (same k h (down (k + 1) (k + 2) (omega arith) b), same (k + 1) (omega arith) (down (k + 1 + 1) (k + 2) (omega arith) b))

  four : (k : ℕ) → low ≤ k → Upto (k + 4) → u32_at t k ≡ u32_at u k
  unfolding u32_at
  four k h b = rw (two k h (down (k + 2) (k + 4) (omega arith) b), two (k + 2) (omega arith) (down (k + 2 + 2) (k + 4) (omega arith) b))

  bytes : (k o : ℕ) → low ≤ o → Upto (o + k) → bytes_from k t o ≡ bytes_from k u o
  bytes zero o h b = refl
  bytes (suc k) o h b =
      rw (same o h (down (o + 1) (o + suc k) (omega arith) b), bytes k (o + 1) (omega arith) (down (o + 1 + k) (o + suc k) (omega arith) b))

  -- ---- a node, whose bytes are the same

  module _ (header : low ≤ 11) where
    abbrev pub Whole : ℕ → Type 0
    Whole i = Upto (node_at i + 16)

    pub kind : (i : ℕ) → Whole i → kind_at t i ≡ kind_at u i
    unfolding kind_at
    kind i b = same (node_at i + 0) (omega arith) (down (node_at i + 0 + 1) (node_at i + 16) (omega arith) b)

    pub role : (i : ℕ) → Whole i → role_at t i ≡ role_at u i
    unfolding role_at
    role i b = same (node_at i + 1) (omega arith) (down (node_at i + 1 + 1) (node_at i + 16) (omega arith) b)

    pub size : (i : ℕ) → Whole i → size_at t i ≡ size_at u i
    unfolding size_at
    size i b = two (node_at i + 2) (omega arith) (down (node_at i + 2 + 2) (node_at i + 16) (omega arith) b)

    pub begin : (i : ℕ) → Whole i → begin_at t i ≡ begin_at u i
    unfolding begin_at
    begin i b = four (node_at i + 4) (omega arith) (down (node_at i + 4 + 4) (node_at i + 16) (omega arith) b)

    pub end : (i : ℕ) → Whole i → end_at t i ≡ end_at u i
    unfolding end_at
    end i b = four (node_at i + 8) (omega arith) (down (node_at i + 8 + 4) (node_at i + 16) (omega arith) b)

    pub value : (i : ℕ) → Whole i → value_at t i ≡ value_at u i
    unfolding value_at
    value i b = two (node_at i + 12) (omega arith) (down (node_at i + 12 + 2) (node_at i + 16) (omega arith) b)

    pub last : (i : ℕ) → Whole i → last_at t i ≡ last_at u i
    unfolding last_at
    last i b = two (node_at i + 14) (omega arith) (down (node_at i + 14 + 2) (node_at i + 16) (omega arith) b)

    head : (i : ℕ) → Whole i → node_head t i ≡ node_head u i
    unfolding node_head node_spot
    head i b = rw (kind i b, role i b, begin i b, end i b, value i b)

    -- ---- the forest up to an end before which every node is whole, as before every end below

    module _ (End : ℕ → Type 0) (there : (i e : ℕ) → i < e → End e → Whole i) (below : (i e : ℕ) → i < e → End e → End (i + size_at t i)) where
      forests_agree : (k i e : ℕ) → End e → forest_in k t i e ≡ forest_in k u i e
      unfolding forest_in
      forests_agree zero i e b = refl
      forests_agree (suc k) i e b =
          go (ltb i e) refl (λ h. forests_agree k (i + 1) (i + size_at t i) (below i e h b)) (forests_agree k (i + size_at t i) e b)
        where
          go : (c : Bool) → ltb i e ≡ c → (i < e → forest_in k t (i + 1) (i + size_at t i) ≡ forest_in k u (i + 1) (i + size_at t i))
              → forest_in k t (i + size_at t i) e ≡ forest_in k u (i + size_at t i) e
              → ◌≡◌ {A = Forest} (elim c [ true ↦ node (node_head t i) (forest_in k t (i + 1) (i + size_at t i)) (forest_in k t (i + size_at t i) e) | false ↦ leaf ])
              (elim c [ true ↦ node (node_head u i) (forest_in k u (i + 1) (i + size_at u i)) (forest_in k u (i + size_at u i) e) | false ↦ leaf ])
          go true q f g =
              let h : i < e = ltb-true i e q in
              let w : Whole i = there i e h b in
              rw (f h, g, head i w, size i w)
          go false q f g = refl

      pub forest : (i e : ℕ) → End e → forest_of t i e ≡ forest_of u i e
      unfolding forest_of
      forest i e b = forests_agree (e - i) i e b

  -- ---- the value at o, whose bytes are the same

  abbrev pub WholeValue : ℕ → Type 0
  WholeValue o = Upto (after t o)

  value_length : (o : ℕ) → low ≤ o → WholeValue o → u16_at t (o + 1) ≡ u16_at u (o + 1)
  value_length o h b = two (o + 1) (omega arith) (down (o + 1 + 2) (after t o) (omega arith) b)

  pub after_same : (o : ℕ) → low ≤ o → WholeValue o → after t o ≡ after u o
  after_same o h b = rw (value_length o h b)

  value_agrees : (o : ℕ) → low ≤ o → WholeValue o → value_from t o ≡ value_from u o
  value_agrees o h b =
      let l : u16_at t (o + 1) ≡ u16_at u (o + 1) = value_length o h b in
      rw (same o h (down (o + 1) (after t o) (omega arith) b), bytes (u16_at t (o + 1)) (o + 3) (omega arith) b, l)

  -- so many values from a place on, each of them whole
  module _ (Values : ℕ → ℕ → Type 0) (there : (k o : ℕ) → Values (suc k) o → WholeValue o) (later : (k o : ℕ) → Values (suc k) o → Values k (after t o)) where
    pub values_agree : (k o : ℕ) → low ≤ o → Values k o → values_from k t o ≡ values_from k u o
    values_agree zero o h b = refl
    values_agree (suc k) o h b =
        ap₂ (λ (v : Value) (vs : List Value). v ∷ vs) (value_agrees o h (there k o b))
        (values_agree k (after t o) (omega arith) (later k o b) ∙ ap (λ (a : ℕ). values_from k u a) (after_same o h (there k o b)))
