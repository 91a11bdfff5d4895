-- The judgement, check by check over the table and the forest, is the code's, number by number over the bytes. Assumes nothing.
use Rattle.std.specs.Prelude.{Ok, Err}
use Prim.Native.Nat.{ℕ, zero, suc, ◌+◌, ◌*◌, ◌-◌, ◌<◌, ◌≤◌}
use native.Mathlib.Omega.{arith}
use native.Mathlib.Decide.{dec_lt}
use mathlib.Core.Path.{◌≡◌, refl, ap, ap₂}
use mathlib.Core.List.{List}
use mathlib.Core.Bool.{Bool, true, false, not}
use lib.Dec.{eqb}
use lib.ListN.{length}
use borrow.Author.Tests.{lt-ltb, le-ltb}
use Rattle.tree.specs.Bytes.{node_count, value_count, global_count, value_at, pick}
use Rattle.tree.specs.Search.{first, lowest}
use Rattle.tree.specs.Table.{table_of, is_name, is_literal, wrong_value, listed, globals_from, global, wrong_global}
use Rattle.tree.specs.Nodes.{wrong_node, too_deep}
use Rattle.tree.specs.Children.{wrong_children}
use Rattle.tree.specs.Judge.{marked, versioned, limits, checks, refuse_at, facts_of, judged}
use Rattle.tree.specs.code.Stages.{is_name_at, is_literal_at, bad5, bad9, value_fits, good6, bad6, names_of, facts_at, judged9, judged8, judged7, judged6, judged5, judged4, judged3, staged}
use Rattle.tree.specs.code.Kids.{bad7}
use Rattle.tree.specs.declared.Refusal.{Refusal}
use Rattle.tree.specs.declared.Refusal.TheVariants.{Mark, Version, Counts, Sections, Value, Node, Children, Depth, Global}
use Rattle.tree.specs.Judge.{Judged}
use Rattle.tree.proofs.TableLaws.{at_table, at_past}
use Rattle.tree.proofs.Listed.{kids_same}

first_same : (k i : ℕ) (f g : ℕ → Bool) → ((j : ℕ) → i ≤ j → j < i + k → f j ≡ g j) → first k i f ≡ first k i g
unfolding first
first_same zero i f g h = refl
first_same (suc k) i f g h =
    ap₂ (λ (b : Bool) (r : ℕ). elim b as (λ x. ℕ) [ true ↦ i | false ↦ r ]) (h i (omega arith) (omega arith))
    (first_same k (i + 1) f g (λ j a b. h j (omega arith) (omega arith)))

lowest_same : (n : ℕ) (f g : ℕ → Bool) → ((i : ℕ) → i < n → f i ≡ g i) → lowest n f ≡ lowest n g
lowest_same n f g h = first_same n 0 f g (λ j a b. h j (omega arith))

-- a check of the whole file, and one of places
of_file_same : (b : Bool) (why : Refusal) {x y : Judged} → x ≡ y → refuse_at (λ i. why) (lowest 1 (λ i. not b)) 1 x ≡ pick b y (Err why)
unfolding first
of_file_same true why e = e
of_file_same false why e = refl

at_each_same : (why : ℕ → Refusal) (n : ℕ) (f g : ℕ → Bool) {x y : Judged} → ((i : ℕ) → i < n → f i ≡ g i) → x ≡ y
    → refuse_at why (lowest n f) n x ≡ refuse_at why (lowest n g) n y
at_each_same why n f g h e = ap₂ (λ (p : ℕ) (z : Judged). refuse_at why p n z) (lowest_same n f g h) e

module _ (t : List ℕ) where
  five_same : (i : ℕ) → i < value_count t → wrong_value (table_of t) i ≡ bad5 t (node_count t) i
  unfolding wrong_value bad5
  five_same i h = rw (at_table t i h, at_table t (i - 1) (omega arith))

  name_same : (v : ℕ) → is_name (table_of t) v ≡ is_name_at t (node_count t) (value_count t) v
  name_same v = go (dec_lt v (value_count t))
    where
      go : Dec (v < value_count t) → is_name (table_of t) v ≡ is_name_at t (node_count t) (value_count t) v
      go (yes l) = rw (at_table t v l, lt-ltb _ _ l)
      go (no l) = rw (at_past t v (omega arith), le-ltb v (value_count t) (omega arith))

  literal_same : (v : ℕ) → is_literal (table_of t) v ≡ is_literal_at t (node_count t) (value_count t) v
  literal_same v = go (dec_lt v (value_count t))
    where
      go : Dec (v < value_count t) → is_literal (table_of t) v ≡ is_literal_at t (node_count t) (value_count t) v
      go (yes l) = rw (at_table t v l, lt-ltb _ _ l)
      go (no l) = rw (at_past t v (omega arith), le-ltb v (value_count t) (omega arith))

  six_same : (i : ℕ) → wrong_node t i ≡ bad6 t (node_count t) (value_count t) i
  unfolding wrong_node bad6 good6 value_fits
  six_same i = rw (name_same (value_at t i), literal_same (value_at t i))

  seven_same : (i : ℕ) → wrong_children t i ≡ bad7 t (node_count t) i
  unfolding wrong_children bad7
  seven_same i = rw (kids_same t i)

  nine_same : (i : ℕ) → wrong_global t i ≡ bad9 t (node_count t) (value_count t) i
  unfolding wrong_global bad9
  nine_same i = rw (name_same (global t i))

  names_same : lowest (value_count t) (λ v. not (is_name (table_of t) v)) ≡ names_of t (node_count t) (value_count t)
  unfolding names_of
  names_same = lowest_same (value_count t) _ _ (λ i h. rw (at_table t i h))

  pub facts_same : facts_of t ≡ facts_at t (node_count t) (value_count t) (global_count t)
  unfolding facts_of facts_at
  facts_same = rw names_same

  pub staged_same : judged t ≡ staged t
  unfolding judged checks staged judged3 judged4 judged5 judged6 judged7 judged8 judged9 node_count value_count global_count
  staged_same =
      of_file_same (marked t) Mark
      (of_file_same (versioned t) Version
      (of_file_same (limits (node_count t) (value_count t) (global_count t)) Counts
      (of_file_same (eqb (globals_from t + 2 * listed (global_count t)) (length t)) Sections
      (at_each_same Value (value_count t) _ _ five_same
      (at_each_same Node (node_count t) _ _ (λ i h. six_same i)
      (at_each_same Children (node_count t) _ _ (λ i h. seven_same i)
      (at_each_same Depth (node_count t) (too_deep t) (too_deep t) (λ i h. refl)
      (at_each_same Global (listed (global_count t)) _ _ (λ i h. nine_same i) (ap Ok facts_same)))))))))
