-- The numbers that stand for keys: how the code finds them, and the key test by their table. Assumes nothing.
use Prim.Native.Nat.{ℕ, ◌+◌, ◌≤◌, ◌<◌}
use native.Mathlib.Omega.{arith}
use native.Mathlib.Decide.{dec_lt, ℕ_discrete}
use mathlib.Core.Path.{◌≡◌, sym, ap, subst, ◌∙◌}
use mathlib.Core.List.{List}
use mathlib.Core.Bool.{Bool, true, false, ◌&&◌}
use mathlib.Core.Option.{Option, none, some}
use lib.Dec.{eqb, ltb}
use lib.ListN.{get_or}
use borrow.Author.Tests.{lt-ltb, le-ltb, eq-eqb, ne_eqb}
use Rattle.tree.specs.Bytes.{node_count, value_count, pick}
use Rattle.tree.specs.code.Offsets.{u64_at, kind_of, len_of}
use Rattle.tree.specs.Values.{Value, magnitude, value_from, offset}
use Rattle.tree.specs.declared.Mode.{Mode}
use Rattle.tree.specs.declared.Likeness.TheVariants.{Different, SameForm, SameNumber}
use Rattle.std.specs.declared.cmp.Ordering.{Ordering}
use Rattle.std.specs.declared.cmp.Ordering.TheVariants.{Less, Greater}
use Rattle.tree.specs.Keys.{whole, only_if, counts, counted}
use Rattle.tree.specs.Table.{table_of, at}
use Rattle.tree.specs.code.Numbers.{integer_is, is_integer, below, level, short_of, Starts, side_of, placed, sought, lead, key_number, like_by}
use Rattle.tree.proofs.Link.{length_from, little_eight}
use Rattle.tree.proofs.TableLaws.{at_table, at_past, start_at}

key_past : (t : List ℕ) (m : Mode) (v : ℕ) → value_count t ≤ v → key_number m (table_of t) v ≡ v
unfolding key_number
key_past t m v h = rw (at_past t v h)

pub key_past_own : (t : List ℕ) (m : Mode) (v : ℕ) → pick (ltb v (value_count t)) (key_number m (table_of t) v) v ≡ key_number m (table_of t) v
key_past_own t m v = go (dec_lt v (value_count t))
  where
    go : Dec (v < value_count t) → pick (ltb v (value_count t)) (key_number m (table_of t) v) v ≡ key_number m (table_of t) v
    go (yes l) = rw (lt-ltb v (value_count t) l)
    go (no l) = rw (le-ltb v (value_count t) (omega arith)) (sym (key_past t m v (omega arith)))

module _ (t : List ℕ) (m : Mode) (v o : ℕ) (h : v < value_count t) (e : o ≡ offset t (node_count t) v) where
  value_is : at (table_of t) v ≡ value_from t o
  value_is = at_table t v h ∙ ap (value_from t) (sym e)

  pub key_other : (kind_of t o ≡ 4 → ⊥) → key_number m (table_of t) v ≡ v
  unfolding key_number
  key_other d = rw (value_is, ne_eqb (kind_of t o) 4 d)

  pub key_length : kind_of t o ≡ 4 → (len_of t o ≡ 8 → ⊥) → key_number m (table_of t) v ≡ v
  unfolding key_number
  key_length k d = rw (value_is, length_from (len_of t o) t (o + 3), eq-eqb (kind_of t o) 4 k, ne_eqb (len_of t o) 8 d)

  pub key_float : kind_of t o ≡ 4 → len_of t o ≡ 8 → key_number m (table_of t) v ≡ lead (table_of t) v (counted m (whole (u64_at t (o + 3))))
  unfolding key_number
  key_float k l = rw (value_is, length_from (len_of t o) t (o + 3), eq-eqb (kind_of t o) 4 k, l, little_eight t (o + 3))

-- a value is the integer n where it stands neither before nor behind it
level_is : (k n x : ℕ) → level (pick (ltb k 3) Less (pick (ltb 3 k) Greater (side_of n x))) ≡ (eqb k 3 && eqb x n)
level_is k n x = go (ℕ_discrete k 3) (dec_lt k 3) (ℕ_discrete x n) (dec_lt x n)
  where
    go : Dec (k ≡ 3) → Dec (k < 3) → Dec (x ≡ n) → Dec (x < n) → level (pick (ltb k 3) Less (pick (ltb 3 k) Greater (side_of n x))) ≡ (eqb k 3 && eqb x n)
    go (yes e) d (yes z) l = rw (e, le-ltb x n (omega arith), eq-eqb x n z)
    go (yes e) d (no z) (yes l) = rw (e, lt-ltb x n l, ne_eqb x n z)
    go (yes e) d (no z) (no l) = rw (e, le-ltb x n (omega arith), ne_eqb x n z)
    go (no e) (yes d) z l = rw (lt-ltb k 3 d, ne_eqb k 3 e)
    go (no e) (no d) z l = rw (le-ltb k 3 (omega arith), lt-ltb 3 k (omega arith), ne_eqb k 3 e)

pub level_integer : (n : ℕ) (v : Value) → level (placed n v) ≡ integer_is n v
level_integer n v = level_is v.kind n (magnitude v.bytes)

-- by the table of where the values start
module _ (t table : List ℕ) (starts : Starts t table) (u : ℕ) (low : u < 512) (few : u < value_count t) where
  start_is : value_from t (get_or table u 0) ≡ at (table_of t) u
  start_is = ap (value_from t) (start_at t table starts u low few) ∙ sym (at_table t u few)

  module _ (n : ℕ) {s : Ordering} (e : s ≡ placed n (value_from t (get_or table u 0))) where
    pub short_here : {b : Bool} → b ≡ below s → short_of (table_of t) n u ≡ b
    short_here q = sym (q ∙ (ap below e ∙ ap (λ (v : Value). below (placed n v)) start_is))

    pub level_here : {b : Bool} → b ≡ level s → is_integer (table_of t) n u ≡ b
    level_here q = sym (q ∙ (ap level e ∙ (ap (λ (v : Value). level (placed n v)) start_is ∙ level_integer n (at (table_of t) u))))

-- what stands for a float: nothing that counts, the integer where it is found, else itself
module _ (vs : List Value) (v : ℕ) where
  pub lead_none : (m : Mode) (o : Option ℕ) → o ≡ none → v ≡ lead vs v (counted m o)
  lead_none m o e = sym (ap (λ (x : Option ℕ). lead vs v (counted m x)) e)

  pub lead_not : (m : Mode) (o : Option ℕ) (n : ℕ) → some n ≡ o → counts m n ≡ false → v ≡ lead vs v (counted m o)
  lead_not m o n e c = sym (ap (λ (x : Option ℕ). lead vs v (counted m x)) (sym e) ∙ ap (λ (b : Bool). lead vs v (only_if b n)) c)

  pub lead_some : (m : Mode) (o : Option ℕ) (n : ℕ) → some n ≡ o → counts m n ≡ true → lead vs v (some n) ≡ lead vs v (counted m o)
  lead_some m o n e c = sym (ap (λ (x : Option ℕ). lead vs v (counted m x)) (sym e) ∙ ap (λ (b : Bool). lead vs v (only_if b n)) c)

  module _ (n p : ℕ) (found : p ≡ sought vs v n) where
    pub lead_here : is_integer vs n p ≡ true → p ≡ lead vs v (some n)
    lead_here e = found ∙ sym (ap (λ (b : Bool). pick b (sought vs v n) v) (subst (λ (u : ℕ). is_integer vs n u ≡ true) found e))

    pub lead_away : is_integer vs n p ≡ false → v ≡ lead vs v (some n)
    lead_away e = sym (ap (λ (b : Bool). pick b (sought vs v n) v) (subst (λ (u : ℕ). is_integer vs n u ≡ false) found e))

-- ---- the key test by the table

module _ (table : List ℕ) (a b : ℕ) where
  pub like_one : a ≡ b → SameForm ≡ like_by table a b
  unfolding like_by
  like_one e = rw (eq-eqb a b e)

  pub like_two : (a ≡ b → ⊥) → {x y : ℕ} → x ≡ get_or table a 0 → y ≡ get_or table b 0 → x ≡ y → SameNumber ≡ like_by table a b
  unfolding like_by
  like_two d p q e = rw (ne_eqb a b d, eq-eqb (get_or table a 0) (get_or table b 0) (sym p ∙ (e ∙ q)))

  pub like_none : (a ≡ b → ⊥) → {x y : ℕ} → x ≡ get_or table a 0 → y ≡ get_or table b 0 → (x ≡ y → ⊥) → Different ≡ like_by table a b
  unfolding like_by
  like_none d p q n = rw (ne_eqb a b d, ne_eqb (get_or table a 0) (get_or table b 0) (λ z. n (p ∙ (z ∙ sym q))))
