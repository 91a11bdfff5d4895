-- What each node of a valid file says of itself: its kind, span and value number. Assumes nothing.
use Prim.Native.Nat.{ℕ, zero, suc, ◌+◌, ◌-◌, ◌≤◌, ◌<◌}
use native.Mathlib.Omega.{arith}
use native.Mathlib.Decide.{dec_lt}
use mathlib.Core.Path.{◌≡◌, refl}
use mathlib.Core.List.{List}
use mathlib.Core.Bool.{Bool, true, false, ◌&&◌, not}
use lib.Dec.{T, leb, ltb, eqb, leb→le, ltb→lt, eqb→eq}
use lib.ListN.{length}
use borrow.Author.Tests.{leb-false, lt-ltb, eq-eqb, ne_eqb}
use Rattle.tree.specs.Bytes.{pick, node_at, node_count, value_count, global_count, kind_at, size_at, begin_at, end_at, last_at, value_at}
use Rattle.tree.specs.Values.{offset}
use Rattle.tree.specs.code.Stages.{is_name_at, is_literal_at, global_at, bad9, value_fits, good6, bad6, names_of, not_name}
use Rattle.tree.specs.Nodes.{limit_of, known, holds_name}
use Rattle.tree.specs.Table.{listed}
use Rattle.tree.specs.code.Sound.{Sound}
use Rattle.tree.specs.declared.Facts.{Facts}
use Rattle.tree.proofs.Search.{clash, lowest_clear, lowest_le, not_so}
use Rattle.tree.proofs.Names.{or_left, or_right, name_test, literal_low}
use Rattle.tree.proofs.Shape.{left, right}

pub offset_from : (t : List ℕ) (n i : ℕ) → node_at n ≤ offset t n i
unfolding offset
offset_from t n zero = omega arith
offset_from t n (suc i) = omega (arith, offset_from t n i)

-- every node's bytes are there
pub nodes_fit : {t : List ℕ} {f : Facts} → Sound t f → node_at (node_count t) ≤ length t
nodes_fit {t} s = omega (arith, offset_from t (node_count t) (value_count t), s.filled)

pub names_fit : {t : List ℕ} {f : Facts} → Sound t f → f.names ≤ f.values
unfolding names_of
names_fit {t} s = omega (arith, s.names, s.values, lowest_le (value_count t) (not_name t (node_count t)))

-- a kind with a name is not a literal's
named_not : (k : ℕ) → T (holds_name k) → eqb k 21 ≡ false
named_not k v = ne_eqb k 21 (λ q. rw q at v)

fits_name : (a b : Bool) (x y z : Bool) → a ≡ false → T b → T (pick a x (pick b y z)) → T y
fits_name true b x y z e u v = clash refl e
fits_name false true x y z e u v = v
fits_name false false x y z e u v = absurd u

fits_none : (a b : Bool) (x y z : Bool) → a ≡ false → T (not b) → T (pick a x (pick b y z)) → T z
fits_none true b x y z e u v = clash refl e
fits_none false true x y z e u v = absurd u
fits_none false false x y z e u v = v

module _ {t : List ℕ} {f : Facts} (s : Sound t f) {i : ℕ} (h : i < node_count t) where
  good : T (good6 t (node_count t) (value_count t) i)
  unfolding bad6
  good = rw (not_so (good6 t (node_count t) (value_count t) i) (lowest_clear (node_count t) (bad6 t (node_count t) (value_count t)) i (omega (arith, s.none6)))) tt

  pub kind_known : T (known (kind_at t i))
  unfolding good6
  kind_known = left (known (kind_at t i)) _ good

  after_kind : T (leb (begin_at t i) (end_at t i) && (eqb (last_at t i) 0 && (leb 1 (size_at t i) && (leb (i + size_at t i) (limit_of t (node_count t) i) && value_fits t (node_count t) (value_count t) (kind_at t i) (value_at t i)))))
  unfolding good6
  after_kind = right (known (kind_at t i)) _ good

  pub span_in_order : begin_at t i ≤ end_at t i
  span_in_order = leb→le _ _ (left (leb (begin_at t i) (end_at t i)) _ after_kind)

  fits : T (value_fits t (node_count t) (value_count t) (kind_at t i) (value_at t i))
  fits =
      right (leb (i + size_at t i) (limit_of t (node_count t) i)) _
      (right (leb 1 (size_at t i)) _ (right (eqb (last_at t i) 0) _ (right (leb (begin_at t i) (end_at t i)) _ after_kind)))

  -- identifier, name, named parameter and loaded name: a name of the table
  pub value_name : T (holds_name (kind_at t i)) → T (is_name_at t (node_count t) (value_count t) (value_at t i))
  unfolding value_fits
  value_name v = fits_name (eqb (kind_at t i) 21) (holds_name (kind_at t i)) _ (is_name_at t (node_count t) (value_count t) (value_at t i)) _ (named_not (kind_at t i) v) v fits

  pub value_among_names : T (holds_name (kind_at t i)) → value_at t i < f.names
  value_among_names v =
      let e = name_test t (node_count t) (value_count t) s.none5 (value_at t i) in
      omega (arith, ltb→lt (value_at t i) (names_of t (node_count t) (value_count t)) (rw e at (value_name v)), s.names)

  -- a literal: a value of the table that is no name
  pub value_literal : kind_at t i ≡ 21 → T (is_literal_at t (node_count t) (value_count t) (value_at t i))
  unfolding value_fits
  value_literal q = rw (eq-eqb (kind_at t i) 21 q) at fits

  pub value_past_names : kind_at t i ≡ 21 → (f.names ≤ value_at t i) × (value_at t i < f.values)
  value_past_names q =
      let v = value_literal q in
      let n = ltb→lt (value_at t i) (value_count t) (left (ltb (value_at t i) (value_count t)) _ v) in
      (go v (dec_lt (value_at t i) (names_of t (node_count t) (value_count t))), omega (arith, s.values))
    where
      go : T (is_literal_at t (node_count t) (value_count t) (value_at t i)) → Dec (value_at t i < names_of t (node_count t) (value_count t)) → f.names ≤ value_at t i
      go v (yes d) = absurd (rw (literal_low t (node_count t) (value_count t) s.none5 (value_at t i) d) at v)
      go v (no d) = omega (arith, s.names)

  -- no other node has a value
  pub value_none : T (not (holds_name (kind_at t i))) → (kind_at t i ≡ 21 → ⊥) → value_at t i ≡ 65535
  unfolding value_fits
  value_none v q = eqb→eq (value_at t i) 65535 (fits_none (eqb (kind_at t i) 21) (holds_name (kind_at t i)) _ _ (eqb (value_at t i) 65535) (ne_eqb (kind_at t i) 21 q) v fits)

-- a global is a name of the table, above the one before it
module _ {t : List ℕ} {f : Facts} (s : Sound t f) {i : ℕ} (h : i < listed (global_count t)) where
  pub global_name : T (is_name_at t (node_count t) (value_count t) (global_at t (node_count t) (value_count t) i))
  unfolding bad9
  global_name = rw (not_so (is_name_at t (node_count t) (value_count t) (global_at t (node_count t) (value_count t) i)) (or_left (not (is_name_at t (node_count t) (value_count t) (global_at t (node_count t) (value_count t) i))) _ (s.none9 i h))) tt

  pub global_rises : 0 < i → global_at t (node_count t) (value_count t) (i - 1) < global_at t (node_count t) (value_count t) i
  unfolding bad9
  global_rises z =
      let e = or_right (not (is_name_at t (node_count t) (value_count t) (global_at t (node_count t) (value_count t) i))) _ (s.none9 i h) in
      leb-false _ _ (simp (lt-ltb 0 i z) at e)
