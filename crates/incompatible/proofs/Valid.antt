-- In a valid file the numbers of the names give the list of 01. Assumes nothing.
use Rattle.std.specs.Prelude.{Ok}
use Prim.Native.Nat.{ℕ, ◌≤◌, ◌<◌}
use native.Mathlib.Omega.{arith}
use mathlib.Core.Path.{◌≡◌, refl, ap, ap₂}
use mathlib.Core.List.{List, [], ◌∷◌, ◌++◌}
use mathlib.Core.Bool.{Bool, true, false, ◌&&◌, ◌||◌}
use lib.Dec.{eqb}
use lib.ListN.{length, get_or}
use Rattle.tree.specs.Bytes.{version_of, node_count}
use Rattle.tree.specs.Forest.{Head, Forest, none, node, forest_of, tree_of}
use Rattle.tree.specs.Judge.{judged}
use Rattle.tree.specs.Table.{table_of, spells}
use Rattle.tree.specs.declared.Facts.{Facts}
use Rattle.tree.proofs.Fields.{Small, small_none, small_node, part_small}
use Rattle.tree.proofs.Whole.{sound, whole_part}
use Rattle.tree.proofs.Entries.{names_fit, value_among_names}
use Rattle.tree.proofs.ValidTable.{spells_number}
use Rattle.rules.specs.Record.{Rec, listed, valued_at}
use Rattle.rules.specs.Visit.{head_at, spot_at, each, kind_among, under, how_many}
use Rattle.rules.specs.Incompatible.{identifier, check_at, deeds, repeated, allowance, incompatible, incompatible_list, type_name, five_types, spells_one}
use Rattle.rules.proofs.Few.{incompatible_list_few}
use Rattle.answer.proofs.Whole.{few_nodes}
use Rattle.incompatible.specs.declared.types.Types.{Types}
use Rattle.incompatible.specs.Ground.{Low}
use Rattle.incompatible.specs.Five.{is, five, NumbersOf}

place_small : (r : ℕ) (f : Forest) → Small f → (spot_at r f).value < 65536
place_small r none w = omega arith
place_small r (node h k s) (small_node a u v) = go (eqb r h.role) (place_small r s v)
  where
    go : (b : Bool) → (spot_at r s).value < 65536 → (elim b as (λ x. Head) [ true ↦ h | false ↦ head_at r s ]).spot.value < 65536
    go true l = a
    go false l = l

under_small : (r : ℕ) (f : Forest) → Small f → Small (under r f)
under_small r none w = small_none
under_small r (node h k s) (small_node a u v) = go (eqb r h.role) (under_small r s v)
  where
    go : (b : Bool) → Small (under r s) → Small (elim b [ true ↦ k | false ↦ under r s ])
    go true l = u
    go false l = l

-- two tests that agree below 65536
identifier_same : (p q : ℕ → Bool) → ((v : ℕ) → v < 65536 → p v ≡ q v) → (r : ℕ) (f : Forest) → Small f → identifier r p f ≡ identifier r q f
identifier_same p q agree r f w = ap (λ (b : Bool). eqb 20 (kind_among r f) && b) (agree (spot_at r f).value (place_small r f w))

module _ (p q p' q' : ℕ → Bool) (call : (v : ℕ) → v < 65536 → p v ≡ q v) (name : (v : ℕ) → v < 65536 → p' v ≡ q' v) where
  check_same : (h : Head) (k : Forest) → Small k → check_at p p' h k ≡ check_at q q' h k
  check_same h k w =
      ap₂ (λ (a b : Bool). listed ((eqb 31 h.kind || eqb 32 h.kind) && (eqb 23 (kind_among 1 k) && (a && (eqb 1 (how_many 0 (under 1 k)) && b)))) (valued_at 14 h (spot_at 2 k).value ∷ []) [])
      (identifier_same p q call 7 (under 1 k) (under_small 1 k w)) (identifier_same p' q' name 2 k w)

  each_same : (f : Forest) → Small f → each (check_at p p') f ≡ each (check_at q q') f
  each_same none w = refl
  each_same (node h k s) (small_node a u v) =
      ap₂ (λ (x y : List Rec). x ++ y) (check_same h k u) (ap₂ (λ (x y : List Rec). x ++ y) (each_same k u) (each_same s v))

or_false : (b : Bool) → b || false ≡ b
or_false true = refl
or_false false = refl

module _ (t : List ℕ) (f : Facts) (valid : judged t ≡ Ok f) where
  -- a node that holds a name holds one of the first 512 values
  pub low_names : Low t f.nodes
  low_names =
      let s = sound t f valid in
      record { low = λ j h v. omega (arith, value_among_names s (omega (arith, s.nodes)) v, names_fit s, s.values, s.few_values) }

  module _ (bytes : (k : ℕ) → get_or t k 0 < 256) (names : Types) (numbers : NumbersOf t names) where
    five_same : (v : ℕ) → v < 65536 → spells_one (table_of t) five_types v ≡ five names v
    five_same v h =
        rw (numbers.boolean, numbers.tuple, numbers.string, numbers.list, numbers.integer, spells_number t f valid _ v h, spells_number t f valid _ v h, spells_number t f valid _ v h, spells_number t f valid _ v h, spells_number t f valid _ v h, or_false)

    call_same : (v : ℕ) → v < 65536 → spells (table_of t) type_name v ≡ is names.call v
    call_same v h = rw numbers.call (spells_number t f valid type_name v h)

    -- what the walks list is the list of 01
    pub list_is : incompatible_list t ≡ incompatible (allowance f.version) (is names.call) (five names) (forest_of t 0 f.nodes)
    unfolding incompatible_list tree_of
    list_is =
        let s = sound t f valid in
        rw (s.nodes, s.version)
        (ap (λ (l : List Rec). l ++ repeated (allowance (version_of t)) (deeds (forest_of t 0 (node_count t))) [] [])
        (each_same (spells (table_of t) type_name) (is names.call) (spells_one (table_of t) five_types) (five names) call_same five_same
        (forest_of t 0 (node_count t)) (part_small t bytes (whole_part t f s))))

  pub list_few : length (incompatible_list t) ≤ 18446744073709551615
  list_few = omega (arith, incompatible_list_few t, few_nodes t f valid)
