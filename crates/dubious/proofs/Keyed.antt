-- In a valid file the numbers that stand for keys give the list of 01 and 02, §11. Assumes nothing.
use Rattle.std.specs.Prelude.{Ok}
use Prim.Native.Nat.{ℕ, ◌+◌, ◌≤◌, ◌<◌}
use native.Mathlib.Omega.{arith}
use native.Mathlib.Decide.{ℕ_discrete}
use mathlib.Core.Path.{◌≡◌, refl, sym, ap, ap₂}
use mathlib.Core.List.{List, [], ◌∷◌, ◌++◌}
use mathlib.Core.Bool.{Bool, true, false, cond, ◌&&◌}
use lib.Dec.{eqb}
use lib.ListN.{length, get_or}
use borrow.Author.Tests.{ne_eqb}
use Rattle.tree.specs.Bytes.{node_count, value_count, kind_at, role_at, size_at, value_at}
use Rattle.tree.specs.Forest.{Head, Forest, none, node, node_spot, node_head, forest_of, tree_of}
use Rattle.tree.specs.code.Part.{Part}
use Rattle.tree.specs.Judge.{judged}
use Rattle.tree.specs.code.Sound.{Sound}
use Rattle.tree.specs.Keys.{like}
use Rattle.tree.specs.Table.{table_of, at}
use Rattle.tree.specs.code.Numbers.{KeyNumbers, like_by}
use Rattle.tree.specs.declared.Mode.{Mode}
use Rattle.tree.specs.declared.Likeness.{Likeness}
use Rattle.tree.specs.declared.Facts.{Facts}
use Rattle.tree.proofs.Laws.{ended, forest_none, forest_node, induct}
use Rattle.tree.proofs.Whole.{sound, whole_part}
use Rattle.tree.proofs.Entries.{names_fit, value_among_names, value_past_names}
use Rattle.tree.proofs.KeyTable.{like_numbers}
use Rattle.rules.specs.Record.{Rec, listed}
use Rattle.rules.specs.Visit.{each}
use Rattle.rules.specs.Dubious.{keys, clash, against, doubles, dict_at, idle_at, dubious, dubious_list}
use Rattle.rules.proofs.Few.{dubious_list_few}
use Rattle.answer.proofs.Whole.{few_nodes}
use Rattle.dubious.specs.Scan.{is_key}

-- every key has a value number below nv
pub data Low (nv : ℕ) : List Head → Type 0 where
  low_none : Low nv []
  low_more : {s : Head} {ss : List Head} → s.spot.value < nv → Low nv ss → Low nv (s ∷ ss)

pub data Fine (nv : ℕ) : Forest → Type 0 where
  fine_none : Fine nv none
  fine_node : {h : Head} {k s : Forest} → (is_key h ≡ true → h.spot.value < nv) → Fine nv k → Fine nv s → Fine nv (node h k s)

keys_low : (nv : ℕ) (f : Forest) → Fine nv f → Low nv (keys f)
keys_low nv none w = low_none
keys_low nv (node h k s) (fine_node a u v) = go (is_key h) refl (keys_low nv s v)
  where
    go : (b : Bool) → is_key h ≡ b → Low nv (keys s) → Low nv (listed b (h ∷ []) (keys s))
    go true e l = low_more (a e) l
    go false e l = l

-- two key tests that agree below nv
module _ (nv : ℕ) (p q : ℕ → ℕ → Likeness) (agree : (a b : ℕ) → a < nv → b < nv → p a b ≡ q a b) where
  against_same : (s : Head) (os : List Head) → s.spot.value < nv → Low nv os → against p s os ≡ against q s os
  against_same s [] h w = refl
  against_same s (o ∷ os) h (low_more a w) =
      ap₂ (λ (l : Likeness) (on : List Rec). clash l o s on) (agree o.spot.value s.spot.value a h) (against_same s os h w)

  doubles_same : (os ss : List Head) → Low nv os → Low nv ss → doubles p os ss ≡ doubles q os ss
  doubles_same os [] w v = refl
  doubles_same os (s ∷ ss) w (low_more a v) =
      ap₂ (λ (x y : List Rec). x ++ y) (against_same s os a w) (doubles_same (s ∷ os) ss (low_more a w) v)

  dict_same : (h : Head) (k : Forest) → Fine nv k → dict_at p h k ≡ dict_at q h k
  dict_same h k w = ap (λ (l : List Rec). listed (eqb 29 h.kind) l []) (doubles_same [] (keys k) low_none (keys_low nv k w))

  each_same : (f : Forest) → Fine nv f → each (dict_at p) f ≡ each (dict_at q) f
  each_same none w = refl
  each_same (node h k s) (fine_node a u v) =
      ap₂ (λ (x y : List Rec). x ++ y) (dict_same h k u) (ap₂ (λ (x y : List Rec). x ++ y) (each_same k u) (each_same s v))

never : (b : Bool) → b && false ≡ true → ⊥
never true z = let y : ◌≡◌ {A = ℕ} 0 1 = ap (λ (b : Bool). cond b 1 0) z in omega arith
never false z = let y : ◌≡◌ {A = ℕ} 0 1 = ap (λ (b : Bool). cond b 1 0) z in omega arith

-- the keys of a valid file
key_value : {t : List ℕ} {f : Facts} → Sound t f → (i : ℕ) → i < node_count t → is_key (node_head t i) ≡ true → value_at t i < value_count t
unfolding node_head
key_value {t} {f} s i h e = go (ℕ_discrete (kind_at t i) 20) (ℕ_discrete (kind_at t i) 21)
  where
    go : Dec (kind_at t i ≡ 20) → Dec (kind_at t i ≡ 21) → value_at t i < value_count t
    go (yes k) d = omega (arith, value_among_names s h (rw k tt), names_fit s, s.values)
    go (no j) (yes k) = omega (arith, (value_past_names s h k).1, s.values)
    go (no j) (no k) =
        let z : eqb 8 (role_at t i) && false ≡ true = rw (ne_eqb 20 (kind_at t i) (λ y. j (sym y)), ne_eqb 21 (kind_at t i) (λ y. k (sym y))) at e in
        absurd (never (eqb 8 (role_at t i)) z)

part_fine : {t : List ℕ} {f : Facts} → Sound t f → {i e : ℕ} → Part t i e → e ≤ node_count t → Fine (value_count t) (forest_of t i e)
unfolding node_head node_spot
part_fine {t} {f} s p = induct (λ i e. e ≤ node_count t → Fine (value_count t) (forest_of t i e)) t nothing more p
  where
    nothing : (i e : ℕ) → e ≤ i → e ≤ node_count t → Fine (value_count t) (forest_of t i e)
    nothing i e h n = rw (forest_none t i e h) fine_none

    more : (i e : ℕ) → Part t i e → i < e
        → (i + size_at t i ≤ node_count t → Fine (value_count t) (forest_of t (i + 1) (i + size_at t i)))
        → (e ≤ node_count t → Fine (value_count t) (forest_of t (i + size_at t i) e)) → e ≤ node_count t → Fine (value_count t) (forest_of t i e)
    more i e p lt u v n = rw (forest_node p lt) (fine_node (key_value s i (omega arith)) (u (omega (arith, ended p lt))) (v n))

module _ (t : List ℕ) (f : Facts) (valid : judged t ≡ Ok f) (bytes : (k : ℕ) → get_or t k 0 < 256) (m : Mode) (ns : List ℕ) (numbers : KeyNumbers t m ns) where
  -- what the walks list is the list of 01 and 02, §11
  pub list_is : dubious_list m t ≡ dubious (like_by ns) (forest_of t 0 f.nodes)
  unfolding dubious_list tree_of
  list_is =
      let s = sound t f valid in
      rw s.nodes
      (ap (λ (l : List Rec). l ++ each idle_at (forest_of t 0 (node_count t)))
      (each_same (value_count t) (λ a b. like m (at (table_of t) a) (at (table_of t) b)) (like_by ns)
      (λ a b h k. sym (like_numbers t f valid bytes m ns numbers a b h k)) (forest_of t 0 (node_count t)) (part_fine s (whole_part t f s) (omega arith))))

  pub list_few : length (dubious_list m t) ≤ 18446744073709551615
  list_few = omega (arith, dubious_list_few m t, few_nodes t f valid)
