-- The values that begin the table are its names, where 5 refuses none. Assumes nothing.
use Prim.Native.Nat.{ℕ, zero, suc, ◌+◌, ◌-◌, ◌≤◌, ◌<◌}
use native.Mathlib.Omega.{arith}
use native.Mathlib.Decide.{dec_lt}
use mathlib.Core.Path.{◌≡◌, refl, sym, ◌∙◌}
use mathlib.Core.List.{List}
use mathlib.Core.Bool.{Bool, true, false, ◌&&◌, ◌||◌, not}
use lib.Dec.{ltb, leb, eqb}
use borrow.Author.Tests.{lt-ltb, le-ltb, le-leb, lt-leb, eq-eqb, ne_eqb, eqb-true}
use Rattle.tree.specs.Search.{lowest}
use Rattle.tree.specs.Values.{offset, formed, precedes}
use Rattle.tree.specs.code.Stages.{value_no, bad5, bad9, is_name_at, is_literal_at, global_at, None5, not_name, names_of}
use Rattle.tree.specs.code.Offsets.{kind_of, len_of, formed_at, ordered_at}
use Rattle.tree.proofs.Link.{formed_from, precedes_from}
use Rattle.tree.proofs.Search.{clash, lowest_clear, lowest_hit, lowest_le, not_so}

pub or_left : (a b : Bool) → (a || b) ≡ false → a ≡ false
or_left true b e = e
or_left false b e = refl

pub or_right : (a b : Bool) → (a || b) ≡ false → b ≡ false
or_right true b e = clash refl e
or_right false b e = e

pub and_left : (a b : Bool) → (a && b) ≡ true → a ≡ true
and_left true b e = refl
and_left false b e = e

pub and_right : (a b : Bool) → (a && b) ≡ true → b ≡ true
and_right true b e = e
and_right false b e = clash e refl

ordered_kind : (t : List ℕ) (a b : ℕ) → ordered_at t a b ≡ true → kind_of t a ≤ kind_of t b
unfolding ordered_at
ordered_kind t a b e = go (dec_lt (kind_of t b) (kind_of t a))
  where
    go : Dec (kind_of t b < kind_of t a) → kind_of t a ≤ kind_of t b
    go (yes l) = clash e (simp (le-ltb (kind_of t a) (kind_of t b) (omega arith), lt-ltb _ _ l))
    go (no l) = omega arith

formed_kind : (t : List ℕ) (o : ℕ) → formed_at t o ≡ true → kind_of t o ≤ 4
unfolding formed_at
formed_kind t o e = go (dec_lt 4 (kind_of t o))
  where
    go : Dec (4 < kind_of t o) → kind_of t o ≤ 4
    go (yes l) =
        clash (and_right (leb (len_of t o) 255) _ e)
        (simp (ne_eqb (kind_of t o) 0 (λ q. omega arith), lt-leb (kind_of t o) 2 (omega arith), ne_eqb (kind_of t o) 3 (λ q. omega arith), ne_eqb (kind_of t o) 4 (λ q. omega arith)))
    go (no l) = omega arith

module _ (t : List ℕ) (n nv : ℕ) (none : None5 t n nv) where
  fine : (i : ℕ) → i < nv → bad5 t n i ≡ false
  fine i h = lowest_clear nv (bad5 t n) i (omega (arith, none))

  pub well_formed : (i : ℕ) → i < nv → formed (value_no t n i) ≡ true
  unfolding bad5
  well_formed i h = not_so (formed (value_no t n i)) (or_left (not (formed (value_no t n i))) _ (fine i h))

  pub in_order : (i : ℕ) → suc i < nv → precedes (value_no t n i) (value_no t n (suc i)) ≡ true
  unfolding bad5
  in_order i h =
      let f = or_right (not (formed (value_no t n (suc i)))) _ (fine (suc i) h) in
      let q : suc i - 1 ≡ i = omega arith in
      not_so (precedes (value_no t n i) (value_no t n (suc i))) (rw q at (simp (lt-ltb 0 (suc i) (omega arith)) at f))

  rise : (i d : ℕ) → i + d < nv → kind_of t (offset t n i) ≤ kind_of t (offset t n (i + d))
  rise i zero h = let q : i + 0 ≡ i = omega arith in rw q (omega arith)
  rise i (suc d) h =
      let q : i + suc d ≡ suc (i + d) = omega arith in
      let a = rise i d (omega arith) in
      let b = ordered_kind t (offset t n (i + d)) (offset t n (suc (i + d))) (sym (precedes_from t (offset t n (i + d)) (offset t n (suc (i + d)))) ∙ in_order (i + d) (omega arith)) in
      rw q (omega arith)

  named_below : (v : ℕ) → v < names_of t n nv → kind_of t (offset t n v) ≡ 0
  unfolding names_of
  named_below v h = eqb-true _ 0 (not_so (eqb (kind_of t (offset t n v)) 0) (lowest_clear nv (not_name t n) v h))

  names_le : names_of t n nv ≤ nv
  unfolding names_of
  names_le = lowest_le nv (not_name t n)

  other_above : (v : ℕ) → names_of t n nv ≤ v → v < nv → 1 ≤ kind_of t (offset t n v)
  unfolding names_of
  other_above v a b =
      let m = lowest nv (not_name t n) in
      let hit = lowest_hit nv (not_name t n) (omega arith) in
      let q : lowest nv (not_name t n) + (v - lowest nv (not_name t n)) ≡ v = omega arith in
      let r = rise (lowest nv (not_name t n)) (v - lowest nv (not_name t n)) (omega arith) in
      let s : kind_of t (offset t n (lowest nv (not_name t n))) ≤ kind_of t (offset t n v) = rw q at r in
      one (kind_of t (offset t n (lowest nv (not_name t n)))) hit s
    where
      one : (k : ℕ) → not (eqb k 0) ≡ true → k ≤ kind_of t (offset t n v) → 1 ≤ kind_of t (offset t n v)
      one zero e l = clash e refl
      one (suc k) e l = omega arith

  pub name_test : (v : ℕ) → is_name_at t n nv v ≡ ltb v (names_of t n nv)
  name_test v = go (dec_lt v (names_of t n nv)) (dec_lt v nv)
    where
      go : Dec (v < names_of t n nv) → Dec (v < nv) → is_name_at t n nv v ≡ ltb v (names_of t n nv)
      go (yes a) d = let l = names_le in simp (lt-ltb v nv (omega arith), lt-ltb _ _ a, eq-eqb _ 0 (named_below v a))
      go (no a) (yes b) = let o = other_above v (omega arith) b in simp (lt-ltb _ _ b, le-ltb v (names_of t n nv) (omega arith), ne_eqb (kind_of t (offset t n v)) 0 (λ q. omega arith))
      go (no a) (no b) = simp (le-ltb v nv (omega arith), le-ltb v (names_of t n nv) (omega arith))

  pub literal_low : (v : ℕ) → v < names_of t n nv → is_literal_at t n nv v ≡ false
  literal_low v a = let l = names_le in let z = named_below v a in simp (lt-ltb v nv (omega arith), lt-leb 1 (kind_of t (offset t n v)) (omega arith))

  pub literal_high : (v : ℕ) → names_of t n nv ≤ v → is_literal_at t n nv v ≡ ltb v nv
  literal_high v a = go (dec_lt v nv)
    where
      go : Dec (v < nv) → is_literal_at t n nv v ≡ ltb v nv
      go (yes b) = let o = other_above v a b in let p = formed_kind t (offset t n v) (sym (formed_from t (offset t n v)) ∙ well_formed v b) in simp (lt-ltb _ _ b, le-leb 1 (kind_of t (offset t n v)) (omega arith), le-leb (kind_of t (offset t n v)) 4 (omega arith))
      go (no b) = simp (le-ltb v nv (omega arith))

  pub literal_test : (v : ℕ) → is_literal_at t n nv v ≡ (leb (names_of t n nv) v && ltb v nv)
  literal_test v = go (dec_lt v (names_of t n nv))
    where
      go : Dec (v < names_of t n nv) → is_literal_at t n nv v ≡ (leb (names_of t n nv) v && ltb v nv)
      go (yes a) = literal_low v a ∙ simp (lt-leb (names_of t n nv) v a)
      go (no a) = let h : names_of t n nv ≤ v = omega arith in literal_high v h ∙ simp (le-leb (names_of t n nv) v h)

  -- 9, by the number of names
  pub nine_none : (i : ℕ) → names_of t n nv ≤ global_at t n nv i → bad9 t n nv i ≡ true
  unfolding bad9
  nine_none i h = simp (name_test (global_at t n nv i) ∙ le-ltb _ _ h)

  pub nine_low : (i : ℕ) → global_at t n nv i < names_of t n nv → 0 < i → global_at t n nv i ≤ global_at t n nv (i - 1) → bad9 t n nv i ≡ true
  unfolding bad9
  nine_low i h z l = simp (name_test (global_at t n nv i) ∙ lt-ltb _ _ h, lt-ltb _ _ z, le-leb _ _ l)

  pub nine_ok : (i : ℕ) → global_at t n nv i < names_of t n nv → global_at t n nv (i - 1) < global_at t n nv i → bad9 t n nv i ≡ false
  unfolding bad9
  nine_ok i h l = simp (name_test (global_at t n nv i) ∙ lt-ltb _ _ h, lt-leb _ _ l) (dead (ltb 0 i))
    where
      dead : (b : Bool) → (b && false) ≡ false
      dead true = refl
      dead false = refl

  pub nine_first : (i : ℕ) → global_at t n nv i < names_of t n nv → i ≤ 0 → bad9 t n nv i ≡ false
  unfolding bad9
  nine_first i h l = simp (name_test (global_at t n nv i) ∙ lt-ltb _ _ h, le-ltb 0 i l)

-- 5, test by test
pub five_form : (t : List ℕ) (n i : ℕ) → formed_at t (offset t n i) ≡ false → bad5 t n i ≡ true
unfolding bad5
five_form t n i e = simp (formed_from t (offset t n i) ∙ e)

pub five_order : (t : List ℕ) (n i : ℕ) → formed_at t (offset t n i) ≡ true → 0 < i → ordered_at t (offset t n (i - 1)) (offset t n i) ≡ false → bad5 t n i ≡ true
unfolding bad5
five_order t n i e z o = simp (formed_from t (offset t n i) ∙ e, lt-ltb _ _ z, precedes_from t (offset t n (i - 1)) (offset t n i) ∙ o)

pub five_ok : (t : List ℕ) (n i : ℕ) → formed_at t (offset t n i) ≡ true → ordered_at t (offset t n (i - 1)) (offset t n i) ≡ true → bad5 t n i ≡ false
unfolding bad5
five_ok t n i e o = simp (formed_from t (offset t n i) ∙ e, precedes_from t (offset t n (i - 1)) (offset t n i) ∙ o) (dead (ltb 0 i))
  where
    dead : (b : Bool) → (b && false) ≡ false
    dead true = refl
    dead false = refl

pub five_first : (t : List ℕ) (n i : ℕ) → formed_at t (offset t n i) ≡ true → i ≤ 0 → bad5 t n i ≡ false
unfolding bad5
five_first t n i e l = simp (formed_from t (offset t n i) ∙ e, le-ltb 0 i l)
