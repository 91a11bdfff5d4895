-- 02, §13: two files of one script, each with the globals of a release of the host. Assumes nothing.
use Rattle.std.specs.Prelude.{ℕ, ◌-◌, ◌≡◌, true, List}
use Rattle.tree.specs.Bytes.{bytes_from, node_at, version_of, node_count, value_count, global_count}
use Rattle.tree.specs.Table.{globals_from, is_global}

-- the bytes between the header and the globals
abbrev pub nodes_and_values : List ℕ → List ℕ
nodes_and_values t = bytes_from (globals_from t - node_at 0) t (node_at 0)

-- "with the same nodes and values", in as many, of one version
pub record SameScript (t u : List ℕ) : Type 0 where
  pub version : version_of t ≡ version_of u
  pub nodes : node_count t ≡ node_count u
  pub values : value_count t ≡ value_count u
  pub bytes : nodes_and_values t ≡ nodes_and_values u

-- globals are given: 65535 says that they aren't
abbrev pub Given : List ℕ → Type 0
Given t = global_count t ≡ 65535 → ⊥

-- u lists every global that t does
abbrev pub Contains : List ℕ → List ℕ → Type 0
Contains u t = (v : ℕ) → is_global t v ≡ true → is_global u v ≡ true

-- "with globals given twice, the second containing the first"
pub record MoreKnown (t u : List ℕ) : Type 0 where
  pub script : SameScript t u
  pub first_given : Given t
  pub second_given : Given u
  pub contains : Contains u t
