-- What the judgement says of a valid file, in one record; `sound` of proofs/Whole shows it. Assumes nothing.
use Rattle.std.specs.Prelude.{ℕ, ◌+◌, ◌*◌, ◌≤◌, ◌<◌, ◌≡◌, List, true, false, ◌⊎◌, length}
use Rattle.tree.specs.Bytes.{version_of, node_count, value_count, global_count, size_at}
use Rattle.tree.specs.Values.{offset}
use Rattle.tree.specs.code.Stages.{bad9, names_of, None5, None6}
use Rattle.tree.specs.Nodes.{too_deep}
use Rattle.tree.specs.code.Kids.{bad7}
use Rattle.tree.specs.Table.{listed}
use Rattle.tree.specs.Judge.{versioned, facts_of}
use Rattle.tree.specs.declared.Facts.{Facts}

pub record Sound (t : List ℕ) (f : Facts) : Type 0 where
  -- the facts are the file's version and counts
  pub facts : f ≡ facts_of t
  pub version : f.version ≡ version_of t
  pub nodes : f.nodes ≡ node_count t
  pub values : f.values ≡ value_count t
  pub names : f.names ≡ names_of t (node_count t) (value_count t)
  pub globals : f.globals ≡ global_count t
  pub rest : f.rest ≡ offset t (node_count t) (value_count t)
  -- not refused by 2, 3, 4
  pub known_version : versioned t ≡ true
  pub some_nodes : 1 ≤ node_count t
  pub few_nodes : node_count t ≤ 1024
  pub few_values : value_count t ≤ 512
  pub few_globals : (global_count t ≤ 512) ⊎ (global_count t ≡ 65535)
  pub few_listed : listed (global_count t) ≤ 512
  pub filled : offset t (node_count t) (value_count t) + 2 * listed (global_count t) ≡ length t
  -- not refused by 5 to 9
  pub none5 : None5 t (node_count t) (value_count t)
  pub none6 : None6 t (node_count t) (value_count t)
  pub none7 : (i : ℕ) → i < node_count t → bad7 t (node_count t) i ≡ false
  pub none8 : (i : ℕ) → i < node_count t → too_deep t i ≡ false
  pub none9 : (i : ℕ) → i < listed (global_count t) → bad9 t (node_count t) (value_count t) i ≡ false
  pub root : size_at t 0 ≡ node_count t
