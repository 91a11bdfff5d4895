-- In a valid file the numbers of fail and None, and the table of strings, give the list of 01. Assumes nothing.
use Rattle.std.specs.Prelude.{Ok}
use Prim.Native.Nat.{ℕ, ◌≤◌, ◌<◌}
use native.Mathlib.Omega.{arith}
use native.Mathlib.Decide.{dec_lt}
use mathlib.Core.Path.{◌≡◌, sym, ap, ◌∙◌}
use mathlib.Core.Bool.{Bool}
use mathlib.Core.List.{List}
use lib.Dec.{eqb}
use lib.ListN.{length, get_or}
use borrow.Author.Tests.{lt-ltb, le-ltb}
use Rattle.tree.specs.Bytes.{node_count}
use Rattle.tree.specs.Forest.{forest_of, tree_of}
use Rattle.tree.specs.Judge.{judged}
use Rattle.tree.specs.Table.{table_of, spells, a_string}
use Rattle.tree.specs.code.Numbers.{number_named, Traits}
use Rattle.tree.specs.declared.Facts.{Facts}
use Rattle.tree.proofs.Fields.{part_small}
use Rattle.tree.proofs.TableLaws.{at_past}
use Rattle.tree.proofs.ValidTable.{spells_number}
use Rattle.tree.proofs.Whole.{sound, whole_part}
use Rattle.rules.specs.Order.{fail_name}
use Rattle.rules.specs.Flow.{flow, none_name, flow_list}
use Rattle.rules.proofs.Few.{flow_list_few}
use Rattle.answer.proofs.Whole.{few_nodes}
use Rattle.flow.specs.Walks.{is_text}
use Rattle.flow.proofs.SameTests.{flow_same}

module _ (t : List ℕ) (f : Facts) (valid : judged t ≡ Ok f) where
  pub list_few : length (flow_list t) ≤ 18446744073709551615
  list_few = omega (arith, flow_list_few t, few_nodes t f valid)

  module _ (bytes : (k : ℕ) → get_or t k 0 < 256) (fail none : ℕ) (texts : List Bool) (named-fail : fail ≡ number_named t fail_name)
      (named_none : none ≡ number_named t none_name) (traits : Traits (a_string (table_of t)) texts) where
    string_at : (v : ℕ) → a_string (table_of t) v ≡ is_text texts v
    string_at v = go (dec_lt v 512)
      where
        go : Dec (v < 512) → a_string (table_of t) v ≡ is_text texts v
        go (yes l) = rw (lt-ltb v 512 l) (sym (traits v l))
        go (no l) = rw (at_past t v (omega (arith, (sound t f valid).few_values)), le-ltb v 512 (omega arith))

    -- what the walks list is the list of 01
    pub list_is : flow_list t ≡ flow (λ v. eqb v fail) (λ v. eqb v none) (is_text texts) (forest_of t 0 f.nodes)
    unfolding flow_list tree_of
    list_is =
        let s = sound t f valid in
        let strings : ◌≡◌ {A = ℕ → Bool} (a_string (table_of t)) (is_text texts) = λ i v. string_at v i in
        rw s.nodes
        (flow_same (spells (table_of t) fail_name) (λ v. eqb v fail) (λ v h. spells_number t f valid fail_name v h ∙ ap (eqb v) (sym named-fail))
        (spells (table_of t) none_name) (λ v. eqb v none) (λ v h. spells_number t f valid none_name v h ∙ ap (eqb v) (sym named_none))
        (a_string (table_of t)) (forest_of t 0 (node_count t)) (part_small t bytes (whole_part t f s))
        ∙ ap (λ (is-string : ℕ → Bool). flow (λ v. eqb v fail) (λ v. eqb v none) is-string (forest_of t 0 (node_count t))) strings)
