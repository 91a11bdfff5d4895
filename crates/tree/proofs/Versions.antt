-- 02, §9: "Tree version 2 has version 1's layout": of two files that differ in their version alone the tree, the table and the globals are
-- the same, and so is the judgement, but for the version. Assumes nothing.
use Rattle.std.specs.Prelude.{Ok, Err}
use Prim.Native.Nat.{ℕ, zero, suc, ◌+◌, ◌*◌, ◌-◌, ◌≤◌}
use native.Mathlib.Omega.{arith}
use mathlib.Core.Path.{◌≡◌, refl, ap, ap₂, fun_ext, ◌∙◌}
use mathlib.Core.List.{List, [], ◌∷◌}
use mathlib.Core.Bool.{Bool, true, false}
use lib.Dec.{eqb, ltb}
use lib.ListN.{get_or}
use Rattle.tree.specs.Bytes.{pick, u16_at, version_of, node_count, value_count, global_count, node_at, kind_at, role_at, size_at, begin_at, end_at, value_at, last_at}
use Rattle.tree.specs.Forest.{forest_of, tree_of}
use Rattle.tree.specs.Values.{offset}
use Rattle.tree.specs.Table.{table_of, listed, globals_from, global, wrong_global, listed_from, is_global, unless, globals_of}
use Rattle.tree.specs.Nodes.{parent_in, parent_of, limit_of, wrong_node, depth_in, depth_of, too_deep}
use Rattle.tree.specs.Children.{root_ok, wrong_children}
use Rattle.tree.specs.Judge.{marked, versioned, Check, checks, checked, facts_of, judged}
use Rattle.tree.specs.Search.{lowest}
use Rattle.tree.specs.Versions.{Twins, in_version}
use Rattle.tree.specs.Judge.{Judged}
use Rattle.tree.proofs.Agree as Agree

module _ (t u : List ℕ) (s : Twins t u) where
  -- ---- all bytes behind the version are the same

  abbrev Upto : ℕ → Type 0
  Upto k = Unit {0}

  down : (j k : ℕ) → j ≤ k → Upto k → Upto j
  down j k h b = tt

  same : (k : ℕ) → 5 ≤ k → Upto (k + 1) → get_or t k 0 ≡ get_or u k 0
  same k h b = s.rest k h

  two : (k : ℕ) → 5 ≤ k → u16_at t k ≡ u16_at u k
  two k h = Agree.two t u 5 Upto down same k h tt

  nodes : node_count t ≡ node_count u
  unfolding node_count
  nodes = two 5 (omega arith)

  values : value_count t ≡ value_count u
  unfolding value_count
  values = two 7 (omega arith)

  globals : global_count t ≡ global_count u
  unfolding global_count
  globals = two 9 (omega arith)

  -- ---- the tree

  kind : (i : ℕ) → kind_at t i ≡ kind_at u i
  kind i = Agree.kind t u 5 Upto down same (omega arith) i tt

  role : (i : ℕ) → role_at t i ≡ role_at u i
  role i = Agree.role t u 5 Upto down same (omega arith) i tt

  size : (i : ℕ) → size_at t i ≡ size_at u i
  size i = Agree.size t u 5 Upto down same (omega arith) i tt

  begin : (i : ℕ) → begin_at t i ≡ begin_at u i
  begin i = Agree.begin t u 5 Upto down same (omega arith) i tt

  end : (i : ℕ) → end_at t i ≡ end_at u i
  end i = Agree.end t u 5 Upto down same (omega arith) i tt

  value : (i : ℕ) → value_at t i ≡ value_at u i
  value i = Agree.value t u 5 Upto down same (omega arith) i tt

  last : (i : ℕ) → last_at t i ≡ last_at u i
  last i = Agree.last t u 5 Upto down same (omega arith) i tt

  forest : (i e : ℕ) → forest_of t i e ≡ forest_of u i e
  forest i e = Agree.forest t u 5 Upto down same (omega arith) Upto (λ i e h b. tt) (λ i e h b. tt) i e tt

  pub same_tree : tree_of t ≡ tree_of u
  unfolding tree_of
  same_tree = rw nodes (forest 0 (node_count u))

  -- ---- the table and the globals

  pub same_table : table_of t ≡ table_of u
  same_table =
      rw (nodes, values) (Agree.values_agree t u 5 Upto down same (λ k o. Unit {0}) (λ k o b. tt) (λ k o b. tt) (value_count u) (node_at (node_count u)) (omega arith) tt)

  low : (n i : ℕ) → 5 ≤ offset u n i
  unfolding offset
  low n zero = omega arith
  low n (suc i) = let h = low n i in omega arith

  offsets : (n i : ℕ) → offset t n i ≡ offset u n i
  unfolding offset
  offsets n zero = refl
  offsets n (suc i) = rw (offsets n i) (Agree.after_same t u 5 Upto down same (offset u n i) (low n i) tt)

  globals_agree : globals_from t ≡ globals_from u
  globals_agree = rw (nodes, values) (offsets (node_count u) (value_count u))

  global_same : (i : ℕ) → global t i ≡ global u i
  global_same i = rw globals_agree (let h = low (node_count u) (value_count u) in two (globals_from u + 2 * i) (omega arith))

  listed_same : (k o v : ℕ) → 5 ≤ o → listed_from k t o v ≡ listed_from k u o v
  listed_same zero o v h = refl
  listed_same (suc k) o v h = rw (two o h, listed_same k (o + 2) v (omega arith))

  is_global_same : (v : ℕ) → is_global t v ≡ is_global u v
  is_global_same v = rw (globals, globals_agree) (listed_same (listed (global_count u)) (globals_from u) v (low (node_count u) (value_count u)))

  pub same_globals : globals_of t ≡ globals_of u
  same_globals = ap₂ unless (ap (λ (g : ℕ). eqb g 65535) globals) (fun_ext is_global_same)

  -- ---- the checks

  parents_agree : (i j : ℕ) → parent_in t i j ≡ parent_in u i j
  unfolding parent_in
  parents_agree i zero = refl
  parents_agree i (suc j) = ap₂ (λ (z r : ℕ). elim (ltb i (j + z)) as (λ x. ℕ) [ true ↦ j | false ↦ r ]) (size j) (parents_agree i j)

  parent : (i : ℕ) → parent_of t i ≡ parent_of u i
  unfolding parent_of
  parent i = parents_agree i i

  limit : (n i : ℕ) → limit_of t n i ≡ limit_of u n i
  unfolding limit_of
  limit n i = rw (size 0, parent i, size (parent_of u i))

  depths_agree : (k i : ℕ) → depth_in k t i ≡ depth_in k u i
  unfolding depth_in
  depths_agree zero i = refl
  depths_agree (suc k) i =
      ap (λ (r : ℕ). elim (eqb i 0) as (λ x. ℕ) [ true ↦ 1 | false ↦ r + 1 ]) (ap (λ (p : ℕ). depth_in k t p) (parent i) ∙ depths_agree k (parent_of u i))

  deep_same : (i : ℕ) → too_deep t i ≡ too_deep u i
  unfolding too_deep depth_of
  deep_same i = rw (depths_agree i i)

  node_same : (i : ℕ) → wrong_node t i ≡ wrong_node u i
  unfolding wrong_node
  node_same i = rw (same_table, kind i, begin i, end i, last i, size i, nodes, limit (node_count u) i, value i)

  children_same : (i : ℕ) → wrong_children t i ≡ wrong_children u i
  unfolding wrong_children root_ok
  children_same i = rw (size 0, kind 0, role 0, nodes, kind i, size i, forest (i + 1) (i + size_at u i))

  global_wrong_same : (i : ℕ) → wrong_global t i ≡ wrong_global u i
  unfolding wrong_global
  global_wrong_same i = rw (same_table, global_same i, global_same (i - 1))

  marked_same : marked t ≡ marked u
  marked_same = rw (s.long, s.mark 0 (omega arith), s.mark (0 + 1) (omega arith), s.mark (0 + 1 + 1) (omega arith))

  checks_same : versioned t ≡ versioned u → checks t ≡ checks u
  unfolding checks
  checks_same e =
      rw (marked_same, e, same_table, globals_agree, nodes, values, globals, s.long, fun_ext node_same, fun_ext children_same, fun_ext deep_same, fun_ext global_wrong_same)

  kept : (cs : List Check) → checked cs (Ok (facts_of u)) ≡ in_version (version_of u) (checked cs (Ok (facts_of t)))
  unfolding facts_of
  kept [] = rw (same_table, globals_agree, nodes, values, globals)
  kept (c ∷ cs) = go (ltb (lowest c.places c.wrong) c.places) (checked cs (Ok (facts_of u))) (checked cs (Ok (facts_of t))) (kept cs)
    where
      go : (b : Bool) (x y : Judged) → x ≡ in_version (version_of u) y
          → pick b (Err (c.why (lowest c.places c.wrong))) x ≡ in_version (version_of u) (pick b (Err (c.why (lowest c.places c.wrong))) y)
      go true x y e = refl
      go false x y e = e

  pub same_judged : versioned t ≡ versioned u → judged u ≡ in_version (version_of u) (judged t)
  unfolding judged
  same_judged e = rw (checks_same e) (kept (checks u))
