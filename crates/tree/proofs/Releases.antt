-- 02, §13: "with the same nodes and values": the tree and the table don't depend on the globals. Assumes nothing.
use Rattle.std.specs.Prelude.{Ok}
use Prim.Native.Nat.{ℕ, zero, suc, ◌+◌, ◌-◌, ◌≤◌, ◌<◌}
use native.Mathlib.Omega.{arith}
use mathlib.Core.Path.{◌≡◌, refl, sym, ap, ◌∙◌}
use mathlib.Core.Bool.{Bool}
use mathlib.Core.List.{List}
use mathlib.Core.Option.{none, some}
use lib.Dec.{eqb}
use lib.ListN.{length, get_or}
use borrow.Author.Tests.{ne_eqb}
use Rattle.tree.specs.Bytes.{bytes_from, node_at, node_count, value_count, global_count, size_at}
use Rattle.tree.specs.Forest.{tree_of}
use Rattle.tree.specs.Values.{after, offset}
use Rattle.tree.specs.Table.{table_of, globals_from, is_global, unless, globals_of}
use Rattle.tree.specs.Judge.{judged}
use Rattle.tree.specs.Releases.{SameScript, Given}
use Rattle.tree.specs.code.Part.{Part}
use Rattle.tree.specs.declared.Facts.{Facts}
use Rattle.tree.proofs.ValueLaws.{offset_later}
use Rattle.tree.proofs.Link.{length_from}
use Rattle.tree.proofs.Agree as Agree
use Rattle.tree.proofs.Entries.{offset_from}
use Rattle.tree.proofs.Whole.{sound, whole_part}

-- where globals are given, they are those that the file lists
pub given_globals : (t : List ℕ) → Given t → globals_of t ≡ some (is_global t)
given_globals t g = ap (λ (b : Bool). unless b (is_global t)) (ne_eqb (global_count t) 65535 g)

pub ungiven_globals : (t : List ℕ) → global_count t ≡ 65535 → globals_of t ≡ none
ungiven_globals t e = ap (λ (g : ℕ). unless (eqb g 65535) (is_global t)) e

-- ---- bytes that are the same, one by one

byte_at : (k : ℕ) (t : List ℕ) (o j : ℕ) → j < k → get_or (bytes_from k t o) j 0 ≡ get_or t (o + j) 0
byte_at zero t o j h = absurd (omega arith)
byte_at (suc k) t o zero h = let e : o + 0 ≡ o = omega arith in rw e
byte_at (suc k) t o (suc j) h = let e : o + suc j ≡ o + 1 + j = omega arith in rw e (byte_at k t (o + 1) j (omega arith))

module _ (t u : List ℕ) (s : SameScript t u) where
  -- the globals begin at the same place
  pub same_globals_from : globals_from t ≡ globals_from u
  same_globals_from =
      let l = ap length s.bytes in
      let a = length_from (globals_from t - node_at 0) t (node_at 0) in
      let b = length_from (globals_from u - node_at 0) u (node_at 0) in
      let c = offset_from t (node_count t) (value_count t) in
      let d = offset_from u (node_count u) (value_count u) in
      omega (arith, l, a, b, c, d)

  -- up to the globals
  abbrev Upto : ℕ → Type 0
  Upto k = k ≤ globals_from t

  down : (j k : ℕ) → j ≤ k → Upto k → Upto j
  down j k h b = omega arith

  same : (k : ℕ) → 11 ≤ k → Upto (k + 1) → get_or t k 0 ≡ get_or u k 0
  same k h b =
      let n : ℕ = globals_from t - node_at 0 in
      let e : node_at 0 + (k - node_at 0) ≡ k = omega arith in
      let f : bytes_from n t (node_at 0) ≡ bytes_from n u (node_at 0) = s.bytes ∙ ap (λ (g : ℕ). bytes_from (g - node_at 0) u (node_at 0)) (sym same_globals_from) in
      ap (λ (x : ℕ). get_or t x 0) (sym e) ∙ sym (byte_at n t (node_at 0) (k - node_at 0) (omega arith))
      ∙ ap (λ (l : List ℕ). get_or l (k - node_at 0) 0) f
      ∙ byte_at n u (node_at 0) (k - node_at 0) (omega arith) ∙ ap (λ (x : ℕ). get_or u x 0) e

  -- ---- the table

  -- k values from o on are the last of the table
  record FromValue (k o : ℕ) : Type 0 where
    index : ℕ
    place : o ≡ offset t (node_count t) index
    rest : index + k ≡ value_count t

  value_there : (k o : ℕ) → FromValue (suc k) o → Upto (after t o)
  unfolding offset
  value_there k o v =
      let e : value_count t ≡ suc v.index + k = omega (arith, v.rest) in
      rw (v.place, e) (offset_later t (node_count t) (suc v.index) k)

  value_later : (k o : ℕ) → FromValue (suc k) o → FromValue k (after t o)
  unfolding offset
  value_later k o v = record { index = suc v.index; place = ap (after t) v.place; rest = omega (arith, v.rest) }

  pub same_table : table_of t ≡ table_of u
  unfolding offset
  same_table =
      Agree.values_agree t u 11 Upto down same FromValue value_there value_later (value_count t) (node_at (node_count t)) (omega arith)
      (record { index = 0; place = refl; rest = omega arith })
      ∙ rw (s.nodes, s.values)

  -- ---- the tree, of a valid file

  module _ (f : Facts) (v : judged t ≡ Ok f) where
    part : Part t 0 (node_count t)
    part = whole_part t f (sound t f v)

    abbrev End : ℕ → Type 0
    End e = e ≤ node_count t

    node_there : (i e : ℕ) → i < e → End e → Upto (node_at i + 16)
    node_there i e h b = let l = offset_from t (node_count t) (value_count t) in omega (arith, l)

    node_below : (i e : ℕ) → i < e → End e → End (i + size_at t i)
    node_below i e h b = part.ends i (omega arith) (omega arith)

    pub same_tree : tree_of t ≡ tree_of u
    unfolding tree_of
    same_tree = Agree.forest t u 11 Upto down same (omega arith) End node_there node_below 0 (node_count t) (omega arith) ∙ rw s.nodes
