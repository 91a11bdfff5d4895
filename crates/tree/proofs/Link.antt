-- What private functions promise by offsets is what Values says of the values there. Assumes nothing.
use Prim.Native.Nat.{ℕ, zero, suc, ◌+◌, ◌*◌, ◌^◌, ◌<◌}
use native.Mathlib.Omega.{arith}
use native.Mathlib.Decide.{dec_lt}
use mathlib.Core.Path.{◌≡◌, refl, ◌∙◌, ap}
use mathlib.Core.List.{List}
use mathlib.Core.Bool.{Bool, true, false, cond, ◌&&◌, ◌||◌, not}
use lib.Dec.{leb, ltb, eqb, eqb-suc-zero}
use lib.ListN.{length, get_or}
use borrow.Author.Tests.{lt-ltb, le-ltb, eq-eqb, ne_eqb, eqb-true}
use Rattle.tree.specs.Bytes.{bytes_from, u16_at, u32_at, pick}
use Rattle.tree.specs.code.Offsets.{u64_at, kind_of, len_of, formed_at, bytes_less, ordered_at}
use Rattle.tree.specs.Values.{a_name, a_text, an_integer, a_float, unknown, little, no_zero_first, form_as, formed, bytes_before, by_length, precedes, value_from}

pub length_from : (k : ℕ) (t : List ℕ) (o : ℕ) → length (bytes_from k t o) ≡ k
length_from zero t o = refl
length_from (suc k) t o = ap suc (length_from k t (o + 1))

first_from : (k : ℕ) (t : List ℕ) (o : ℕ) → no_zero_first (bytes_from k t o) ≡ (eqb k 0 || not (eqb (get_or t o 0) 0))
first_from zero t o = refl
first_from (suc k) t o = simp eqb-suc-zero

pub little_eight : (t : List ℕ) (o : ℕ) → little (bytes_from 8 t o) ≡ u64_at t o
unfolding u64_at u32_at u16_at
little_eight t o =
    let b : o + 1 + 1 ≡ o + 2 = omega arith in
    let c : o + 2 + 1 ≡ o + 3 = omega arith in
    let d : o + 3 + 1 ≡ o + 4 = omega arith in
    let e : o + 4 + 1 ≡ o + 5 = omega arith in
    let f : o + 5 + 1 ≡ o + 6 = omega arith in
    let g : o + 6 + 1 ≡ o + 7 = omega arith in
    let h : o + 4 + 2 ≡ o + 6 = omega arith in
    simp (b, c, d, e, f, g, h) (omega arith)

only_eight : (k : ℕ) (t : List ℕ) (o : ℕ) → (eqb k 8 && leb (little (bytes_from k t o)) (2047 * 2 ^ 52)) ≡ (eqb k 8 && leb (u64_at t o) (2047 * 2 ^ 52))
only_eight k t o = go (eqb k 8) refl
  where
    go : (b : Bool) → eqb k 8 ≡ b → (b && leb (little (bytes_from k t o)) (2047 * 2 ^ 52)) ≡ (b && leb (u64_at t o) (2047 * 2 ^ 52))
    go true e = let q = eqb-true k 8 e in rw (q, little_eight)
    go false e = refl

by_sense : (a b c d : Bool) (bs : List ℕ)
    → form_as (cond a a_name (cond b a_text (cond c an_integer (cond d a_float unknown)))) bs
    ≡ pick a (form_as a_name bs) (pick b true (pick c (form_as an_integer bs) (pick d (form_as a_float bs) false)))
by_sense true b c d bs = refl
by_sense false true c d bs = refl
by_sense false false true d bs = refl
by_sense false false false true bs = refl
by_sense false false false false bs = refl

pub formed_from : (t : List ℕ) (o : ℕ) → formed (value_from t o) ≡ formed_at t o
unfolding formed formed_at
formed_from t o =
    rw (by_sense (eqb (kind_of t o) 0) (leb (kind_of t o) 2) (eqb (kind_of t o) 3) (eqb (kind_of t o) 4) (bytes_from (len_of t o) t (o + 3)))
    (simp (length_from (len_of t o) t (o + 3), first_from (len_of t o) t (o + 3), only_eight (len_of t o) t (o + 3)))

-- strictly by one number, then by the rest
by_one : (x y : ℕ) (p q : Bool) → (x ≡ y → p ≡ q) → (ltb x y || (eqb x y && p)) ≡ pick (ltb x y) true (pick (ltb y x) false q)
by_one x y p q f = go (dec_lt x y) (dec_lt y x)
  where
    go : Dec (x < y) → Dec (y < x) → (ltb x y || (eqb x y && p)) ≡ pick (ltb x y) true (pick (ltb y x) false q)
    go (yes l) d = simp (lt-ltb x y l)
    go (no l) (yes m) = simp (le-ltb x y (omega arith), lt-ltb y x m, ne_eqb x y (λ e. omega arith))
    go (no l) (no m) = let e : x ≡ y = omega arith in simp (le-ltb x y (omega arith), le-ltb y x (omega arith), eq-eqb x y e) (f e)

less_from : (k : ℕ) (t : List ℕ) (a b : ℕ) → bytes_before (bytes_from k t a) (bytes_from k t b) ≡ bytes_less k t a b
unfolding bytes_less
less_from zero t a b = refl
less_from (suc k) t a b = by_one (get_or t a 0) (get_or t b 0) _ _ (λ e. less_from k t (a + 1) (b + 1)) ∙ as_elim (ltb (get_or t a 0) (get_or t b 0)) (ltb (get_or t b 0) (get_or t a 0)) (bytes_less k t (a + 1) (b + 1))
  where
    as_elim : (p q r : Bool) → pick p true (pick q false r) ≡ elim p [ true ↦ true | false ↦ elim q [ true ↦ false | false ↦ r ] ]
    as_elim true q r = refl
    as_elim false true r = refl
    as_elim false false r = refl

pub precedes_from : (t : List ℕ) (a b : ℕ) → precedes (value_from t a) (value_from t b) ≡ ordered_at t a b
unfolding precedes ordered_at
precedes_from t a b = by_one (kind_of t a) (kind_of t b) _ _ (λ e. lengths)
  where
    same : len_of t a ≡ len_of t b → bytes_before (bytes_from (len_of t a) t (a + 3)) (bytes_from (len_of t b) t (b + 3)) ≡ bytes_less (len_of t a) t (a + 3) (b + 3)
    same e = rw (← e) (less_from (len_of t a) t (a + 3) (b + 3))

    lengths : by_length (bytes_from (len_of t a) t (a + 3)) (bytes_from (len_of t b) t (b + 3)) ≡ pick (ltb (len_of t a) (len_of t b)) true (pick (ltb (len_of t b) (len_of t a)) false (bytes_less (len_of t a) t (a + 3) (b + 3)))
    lengths = simp (length_from (len_of t a) t (a + 3), length_from (len_of t b) t (b + 3)) (by_one (len_of t a) (len_of t b) _ _ same)
