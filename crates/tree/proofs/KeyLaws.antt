-- Key equality: an equivalence in each mode; of one kind only a value itself; integer against float by exact grains. Assumes nothing.
use Prim.Native.Nat.{ℕ, zero, suc, ◌+◌, ◌-◌, ◌*◌, ◌/◌, ◌%◌, ◌^◌, ◌≤◌, ◌<◌}
use mathlib.Core.Path.{◌≡◌, refl, sym, ap, ◌∙◌, subst}
use mathlib.Core.Bool.{Bool, true, false, cond, ◌&&◌, ◌||◌, not}
use mathlib.Core.List.{List, [], ◌∷◌}
use mathlib.Core.Logic.{◌⊎◌, inl, inr, ◌↔◌}
use mathlib.Core.Option.{Option, none, some, none-ne-some, some-injective}
use native.Mathlib.Nat.{mul-one, pow-suc, mul_assoc, mul-le-mul_left, mul-le-mul_right, pow-le-pow_right, div-add-mod', mod-lt, eq_of_mul-eq-mul_right, lt_irrefl, mod-eq_of_lt, mul-mod_left, mul-div_left, one-mul, pow-succ', mul-lt-mul_of_pos_right, lt_of_lt_of_le, mul-div-mul_right, add-zero}
use lib.Pow.{pow-add}
use lib.Arith.{mod-mul}
use native.Mathlib.Decide.{dec_lt}
use native.Mathlib.Omega.{arith}
use lib.Dec.{eqb, leb, ltb, T, eqb→eq, eqb_refl, ltb→lt, lt→ltb, lit<}
use lib.ListN.{length}
use lib.Ieee.{nan, inf, binary64, of_bits, of_fields, odd}
use lib.Ieee.Digits.{Equals, odd_val}
pub use Rattle.base.proofs.Bools.{and_left, and_right, both}
use Rattle.base.proofs.Bools.{or_cases, or_left, or_right}
use Rattle.tree.specs.Values.{Value, Sense, a_name, a_text, an_integer, a_float, unknown, sense, onward, magnitude, little, no_zero_first, form_as, formed, bytes_before, by_length, precedes}
use Rattle.tree.specs.declared.Mode.{Mode}
use Rattle.tree.specs.Bytes.{same_bytes}
use Rattle.tree.specs.Keys.{scaled, grains, finite, whole, counts, only_if, counted, number_as, number, formed_alike, same_numbers, likeness, alike, same_key}

-- what a list of bytes is to a law that must know it
abbrev pub all_bytes : List ℕ → Bool
all_bytes [] = true
all_bytes (b ∷ bs) = ltb b 256 && all_bytes bs

-- what the test means

pub same-bytes→eq : (bs cs : List ℕ) → T (same_bytes bs cs) → bs ≡ cs
same-bytes→eq [] [] t = refl
same-bytes→eq [] (c ∷ cs) t = absurd t
same-bytes→eq (b ∷ bs) [] t = absurd t
same-bytes→eq (b ∷ bs) (c ∷ cs) t =
    let p = eqb→eq b c (and_left (eqb b c) (same_bytes bs cs) t) in
    let q = same-bytes→eq bs cs (and_right (eqb b c) (same_bytes bs cs) t) in λ i. p i ∷ q i

pub same_bytes_refl : (bs : List ℕ) → T (same_bytes bs bs)
same_bytes_refl [] = tt
same_bytes_refl (b ∷ bs) = both (eqb b b) (same_bytes bs bs) (eqb_refl b) (same_bytes_refl bs)

pub value_path : (v w : Value) → v.kind ≡ w.kind → v.bytes ≡ w.bytes → v ≡ w
value_path v w p q i = record { kind = p i; bytes = q i }

pub formed-alike→eq : (v w : Value) → T (formed_alike v w) → v ≡ w
formed-alike→eq v w t = value_path v w (eqb→eq v.kind w.kind (and_left (eqb v.kind w.kind) (same_bytes v.bytes w.bytes) t))
    (same-bytes→eq v.bytes w.bytes (and_right (eqb v.kind w.kind) (same_bytes v.bytes w.bytes) t))

pub formed_alike_refl : (v : Value) → T (formed_alike v v)
formed_alike_refl v = both (eqb v.kind v.kind) (same_bytes v.bytes v.bytes) (eqb_refl v.kind) (same_bytes_refl v.bytes)

-- the same form, or the same number
pub data Same (m : Mode) (v w : Value) : Type 0 where
  by_form : v ≡ w → Same m v w
  by_number : (n : ℕ) → number m v ≡ some n → number m w ≡ some n → Same m v w

pub numbers_of : (o p : Option ℕ) → T (same_numbers o p) → (n : ℕ) × (o ≡ some n) × (p ≡ some n)
numbers_of none p t = absurd t
numbers_of (some n) none t = absurd t
numbers_of (some n) (some k) t = (n, refl, ap {B = Option ℕ} some (sym (eqb→eq n k t)))

pub numbers_same : (o p : Option ℕ) (n : ℕ) → o ≡ some n → p ≡ some n → T (same_numbers o p)
numbers_same o p n e f = subst (λ (x : Option ℕ). T (same_numbers x p)) (sym e) (subst (λ (x : Option ℕ). T (same_numbers (some n) x)) (sym f) (eqb_refl n))

likeness_cases : (a b : Bool) → T (alike (likeness a b)) → T a ⊎ T b
likeness_cases true b t = inl tt
likeness_cases false true t = inr tt
likeness_cases false false t = absurd t

likeness_left : (a b : Bool) → T a → T (alike (likeness a b))
likeness_left true b t = tt
likeness_left false b t = absurd t

likeness_right : (a b : Bool) → T b → T (alike (likeness a b))
likeness_right true b t = tt
likeness_right false true t = tt
likeness_right false false t = absurd t

pub same_means : (m : Mode) (v w : Value) → T (same_key m v w) → Same m v w
same_means m v w t = go (likeness_cases (formed_alike v w) (same_numbers (number m v) (number m w)) t)
  where
    go : T (formed_alike v w) ⊎ T (same_numbers (number m v) (number m w)) → Same m v w
    go (inl u) = by_form (formed-alike→eq v w u)
    go (inr u) = let r = numbers_of (number m v) (number m w) u in by_number r.0 r.1 r.2

pub means_same : (m : Mode) (v w : Value) → Same m v w → T (same_key m v w)
means_same m v w (by_form e) = likeness_left (formed_alike v w) (same_numbers (number m v) (number m w)) (subst (λ (x : Value). T (formed_alike v x)) e (formed_alike_refl v))
means_same m v w (by_number n e f) = likeness_right (formed_alike v w) (same_numbers (number m v) (number m w)) (numbers_same (number m v) (number m w) n e f)

-- an equivalence, in each mode, on all values

same_values_sym : (m : Mode) (v w : Value) → Same m v w → Same m w v
same_values_sym m v w (by_form e) = by_form (sym e)
same_values_sym m v w (by_number n e f) = by_number n f e

same_values_trans : (m : Mode) (u v w : Value) → Same m u v → Same m v w → Same m u w
same_values_trans m u v w (by_form e) s = subst (λ (x : Value). Same m x w) (sym e) s
same_values_trans m u v w (by_number n e f) (by_form g) = subst (λ (x : Value). Same m u x) g (by_number n e f)
same_values_trans m u v w (by_number n e f) (by_number k g h) = by_number n e (h ∙ (sym g ∙ f))

pub same_refl : (m : Mode) (v : Value) → T (same_key m v v)
same_refl m v = means_same m v v (by_form refl)

pub same_sym : (m : Mode) (v w : Value) → T (same_key m v w) → T (same_key m w v)
same_sym m v w t = means_same m w v (same_values_sym m v w (same_means m v w t))

pub same_trans : (m : Mode) (u v w : Value) → T (same_key m u v) → T (same_key m v w) → T (same_key m u w)
same_trans m u v w s t = means_same m u w (same_values_trans m u v w (same_means m u v s) (same_means m v w t))

-- one number has one form in each kind

onward_same : (xs ys : List ℕ) (a b : ℕ) → T (all_bytes xs) → T (all_bytes ys) → length xs ≡ length ys → onward a xs ≡ onward b ys → (a ≡ b) × (xs ≡ ys)
onward_same [] [] a b p q l e = (e, refl)
onward_same [] (y ∷ ys) a b p q l e = absurd (omega arith)
onward_same (x ∷ xs) [] a b p q l e = absurd (omega arith)
onward_same (x ∷ xs) (y ∷ ys) a b p q l e =
    let hx : x < 256 = ltb→lt x 256 (and_left (ltb x 256) (all_bytes xs) p) in
    let hy : y < 256 = ltb→lt y 256 (and_left (ltb y 256) (all_bytes ys) q) in
    let r = onward_same xs ys (a * 256 + x) (b * 256 + y) (and_right (ltb x 256) (all_bytes xs) p) (and_right (ltb y 256) (all_bytes ys) q) (omega arith) e in
    let s : a * 256 + x ≡ b * 256 + y = r.0 in
    let g : x ≡ y = omega arith in
    (omega arith, λ i. g i ∷ r.1 i)

onward_longer : (d : ℕ) (xs ys : List ℕ) (a : ℕ) → T (all_bytes xs) → T (all_bytes ys) → 1 ≤ a → length xs ≡ d + length ys → onward a xs ≡ onward 0 ys → ⊥
onward_longer zero xs ys a p q h l e = let r : a ≡ 0 = (onward_same xs ys a 0 p q (omega arith) e).0 in omega arith
onward_longer (suc d) [] ys a p q h l e = omega arith
onward_longer (suc d) (x ∷ xs) ys a p q h l e = onward_longer d xs ys (a * 256 + x) (and_right (ltb x 256) (all_bytes xs) p) q (omega arith) (omega arith) e

pub not_zero : (x : ℕ) → T (not (eqb x 0)) → 1 ≤ x
not_zero zero t = absurd t
not_zero (suc x) t = omega arith

-- no leading zero byte: the longer is the larger
longer : (xs ys : List ℕ) → T (all_bytes xs) → T (all_bytes ys) → T (no_zero_first xs) → length ys < length xs → magnitude xs ≡ magnitude ys → ⊥
longer [] ys p q z l e = omega arith
longer (x ∷ xs) ys p q z l e = onward_longer (length xs - length ys) xs ys (0 * 256 + x) (and_right (ltb x 256) (all_bytes xs) p) q
    (let h : 1 ≤ x = not_zero x z in omega arith) (omega arith) e

pub magnitude_one : (xs ys : List ℕ) → T (all_bytes xs) → T (all_bytes ys) → T (no_zero_first xs) → T (no_zero_first ys) → magnitude xs ≡ magnitude ys → xs ≡ ys
magnitude_one xs ys p q z w e = go (dec_lt (length ys) (length xs)) (dec_lt (length xs) (length ys))
  where
    go : Dec (length ys < length xs) → Dec (length xs < length ys) → xs ≡ ys
    go (yes l) d = absurd (longer xs ys p q z l e)
    go (no l) (yes k) = absurd (longer ys xs q p w k (sym e))
    go (no l) (no k) = (onward_same xs ys 0 0 p q (omega arith) e).1

pub little_one : (xs ys : List ℕ) → T (all_bytes xs) → T (all_bytes ys) → length xs ≡ length ys → little xs ≡ little ys → xs ≡ ys
little_one [] [] p q l e = refl
little_one [] (y ∷ ys) p q l e = absurd (omega arith)
little_one (x ∷ xs) [] p q l e = absurd (omega arith)
little_one (x ∷ xs) (y ∷ ys) p q l e =
    let hx : x < 256 = ltb→lt x 256 (and_left (ltb x 256) (all_bytes xs) p) in
    let hy : y < 256 = ltb→lt y 256 (and_left (ltb y 256) (all_bytes ys) q) in
    let g : x ≡ y = omega arith in
    let h = little_one xs ys (and_right (ltb x 256) (all_bytes xs) p) (and_right (ltb y 256) (all_bytes ys) q) (omega arith) (omega arith) in
    λ i. g i ∷ h i

pub pow_pos : (x : ℕ) → 1 ≤ 2 ^ x
pow_pos x = pow-le-pow_right {n = 2} (lit< tt) {i = 0} {j = x} (omega arith)

-- a larger exponent's field has more grains
scaled_less : (x y t s : ℕ) → t < 2 ^ 52 → x < y → (2 ^ 52 + t) * 2 ^ x < (2 ^ 52 + s) * 2 ^ y
scaled_less x y t s h l =
    let p : 2 ^ suc x ≤ 2 ^ y = pow-le-pow_right {n = 2} (lit< tt) l in
    let q : 2 ^ suc x ≡ 2 ^ x * 2 = pow-suc 2 x in
    let r : (2 ^ 52 + t) * 2 ^ x ≤ (2 ^ 53 - 1) * 2 ^ x = mul-le-mul_right (2 ^ x) (omega arith) in
    let u : 2 ^ 52 * 2 ^ y ≤ (2 ^ 52 + s) * 2 ^ y = mul-le-mul_right (2 ^ y) (omega arith) in
    let z : 1 ≤ 2 ^ x = pow_pos x in
    omega arith

scaled_one : (x y t s : ℕ) → t < 2 ^ 52 → s < 2 ^ 52 → scaled x t ≡ scaled y s → (x ≡ y) × (t ≡ s)
scaled_one zero zero t s h k e = (refl, e)
scaled_one zero (suc y) t s h k e = absurd (let p : (2 ^ 52 + s) * 1 ≤ (2 ^ 52 + s) * 2 ^ y = mul-le-mul_left (2 ^ 52 + s) (pow_pos y) in omega arith)
scaled_one (suc x) zero t s h k e = absurd (let p : (2 ^ 52 + t) * 1 ≤ (2 ^ 52 + t) * 2 ^ x = mul-le-mul_left (2 ^ 52 + t) (pow_pos x) in omega arith)
scaled_one (suc x) (suc y) t s h k e = go (dec_lt x y) (dec_lt y x)
  where
    go : Dec (x < y) → Dec (y < x) → (suc x ≡ suc y) × (t ≡ s)
    go (yes l) d = absurd (let p : (2 ^ 52 + t) * 2 ^ x < (2 ^ 52 + s) * 2 ^ y = scaled_less x y t s h l in omega arith)
    go (no l) (yes m) = absurd (let p : (2 ^ 52 + s) * 2 ^ y < (2 ^ 52 + t) * 2 ^ x = scaled_less y x s t k m in omega arith)
    go (no l) (no m) =
        let q : x ≡ y = omega arith in
        let r : (2 ^ 52 + t) * 2 ^ x ≡ (2 ^ 52 + s) * 2 ^ x = e ∙ ap (λ (z : ℕ). (2 ^ 52 + s) * 2 ^ z) (sym q) in
        let u : 2 ^ 52 + t ≡ 2 ^ 52 + s = eq_of_mul-eq-mul_right (2 ^ x) (pow_pos x) (2 ^ 52 + t) (2 ^ 52 + s) r in
        (omega arith, omega arith)

-- two floats of as many grains are one
pub grains_one : (b c : ℕ) → grains b ≡ grains c → b ≡ c
grains_one b c e =
    let r = scaled_one (b / 2 ^ 52) (c / 2 ^ 52) (b % 2 ^ 52) (c % 2 ^ 52) (mod-lt b (lit< tt)) (mod-lt c (lit< tt)) e in
    let p : b / 2 ^ 52 ≡ c / 2 ^ 52 = r.0 in
    let q : b % 2 ^ 52 ≡ c % 2 ^ 52 = r.1 in
    omega (arith, div-add-mod' b (2 ^ 52), div-add-mod' c (2 ^ 52))

exact : (g d n : ℕ) → g % d ≡ 0 → g / d ≡ n → g ≡ n * d
exact g d n e f = sym (div-add-mod' g d) ∙ (ap (λ (x : ℕ). g / d * d + x) e ∙ (add_zero' (g / d * d) ∙ ap (λ (x : ℕ). x * d) f))
  where
    add_zero' : (x : ℕ) → x + 0 ≡ x
    add_zero' x = omega arith

-- the float of these 64 bits is a number, and that number is n
abbrev pub IsNumber : ℕ → ℕ → Type 0
IsNumber b n = T (finite b) × (grains b ≡ n * 2 ^ 1074)

-- a float is the whole number n exactly if it is finite and has n times 2^1074 grains
pub whole_grains : (b n : ℕ) → whole b ≡ some n → IsNumber b n
whole_grains b n e = go (finite b && eqb (grains b % 2 ^ 1074) 0) refl e
  where
    go : (c : Bool) → (finite b && eqb (grains b % 2 ^ 1074) 0) ≡ c → only_if c (grains b / 2 ^ 1074) ≡ some n → IsNumber b n
    go false p q = absurd (none-ne-some n q)
    go true p q =
        let t : T (finite b && eqb (grains b % 2 ^ 1074) 0) = subst T (sym p) tt in (
          and_left (finite b) (eqb (grains b % 2 ^ 1074) 0) t,
          exact (grains b) (2 ^ 1074) n (eqb→eq (grains b % 2 ^ 1074) 0 (and_right (finite b) (eqb (grains b % 2 ^ 1074) 0) t)) (some-injective (grains b / 2 ^ 1074) n q),
        )

whole_one : (b c n : ℕ) → whole b ≡ some n → whole c ≡ some n → b ≡ c
whole_one b c n e f = grains_one b c ((whole_grains b n e).1 ∙ sym (whole_grains c n f).1)

pub counted_some : (m : Mode) (o : Option ℕ) (n : ℕ) → counted m o ≡ some n → o ≡ some n
counted_some m none n e = e
counted_some m (some k) n e = go (counts m k) e
  where
    go : (b : Bool) → only_if b k ≡ some n → some k ≡ some n
    go true q = q
    go false q = absurd (none-ne-some n q)

number_one : (m : Mode) (c : Sense) (xs ys : List ℕ) (n : ℕ) → T (form_as c xs) → T (form_as c ys) → T (all_bytes xs) → T (all_bytes ys)
    → number_as m c xs ≡ some n → number_as m c ys ≡ some n → xs ≡ ys
number_one m a_name xs ys n f g p q d e = absurd (none-ne-some n d)
number_one m a_text xs ys n f g p q d e = absurd (none-ne-some n d)
number_one m an_integer xs ys n f g p q d e = magnitude_one xs ys p q (and_right (leb (length xs) 64) (no_zero_first xs) f) (and_right (leb (length ys) 64) (no_zero_first ys) g)
    (some-injective (magnitude xs) n d ∙ sym (some-injective (magnitude ys) n e))
number_one m a_float xs ys n f g p q d e = little_one xs ys p q
    (eqb→eq (length xs) 8 (and_left (eqb (length xs) 8) (leb (little xs) (2047 * 2 ^ 52)) f) ∙ sym (eqb→eq (length ys) 8 (and_left (eqb (length ys) 8) (leb (little ys) (2047 * 2 ^ 52)) g)))
    (whole_one (little xs) (little ys) n (counted_some m (whole (little xs)) n d) (counted_some m (whole (little ys)) n e))
number_one m unknown xs ys n f g p q d e = absurd (none-ne-some n d)

-- of one kind, only a value itself is the same key
pub one_form : (m : Mode) (v w : Value) → T (formed v) → T (formed w) → T (all_bytes v.bytes) → T (all_bytes w.bytes)
    → v.kind ≡ w.kind → T (same_key m v w) → v ≡ w
unfolding formed
one_form m v w f g bv bw k t = go (same_means m v w t)
  where
    fv : T (form_as (sense v.kind) v.bytes)
    fv = and_right (leb (length v.bytes) 255) (form_as (sense v.kind) v.bytes) f

    fw : T (form_as (sense v.kind) w.bytes)
    fw = subst (λ (x : ℕ). T (form_as (sense x) w.bytes)) (sym k) (and_right (leb (length w.bytes) 255) (form_as (sense w.kind) w.bytes) g)

    go : Same m v w → v ≡ w
    go (by_form e) = e
    go (by_number n d e) = value_path v w k (number_one m (sense v.kind) v.bytes w.bytes n fv fw bv bw d (subst (λ (x : ℕ). number_as m (sense x) w.bytes ≡ some n) (sym k) e))

-- the order of values is strict

pub data Lex (x y : ℕ) (p : Bool) : Type 0 where
  less : x < y → Lex x y p
  tied : x ≡ y → T p → Lex x y p

pub lex : (x y : ℕ) (p : Bool) → T (ltb x y || (eqb x y && p)) → Lex x y p
lex x y p t = go (or_cases (ltb x y) (eqb x y && p) t)
  where
    go : T (ltb x y) ⊎ T (eqb x y && p) → Lex x y p
    go (inl u) = less (ltb→lt x y u)
    go (inr u) = tied (eqb→eq x y (and_left (eqb x y) p u)) (and_right (eqb x y) p u)

unlex : (x y : ℕ) (p : Bool) → Lex x y p → T (ltb x y || (eqb x y && p))
unlex x y p (less h) = or_left (ltb x y) (eqb x y && p) (lt→ltb x y h)
unlex x y p (tied e t) = or_right (ltb x y) (eqb x y && p) (both (eqb x y) p (subst (λ (z : ℕ). T (eqb x z)) e (eqb_refl x)) t)

lex_trans : (x y z : ℕ) (p q r : Bool) → (T p → T q → T r) → T (ltb x y || (eqb x y && p)) → T (ltb y z || (eqb y z && q)) → T (ltb x z || (eqb x z && r))
lex_trans x y z p q r f s t = unlex x z r (go (lex x y p s) (lex y z q t))
  where
    go : Lex x y p → Lex y z q → Lex x z r
    go (less h) (less k) = less (omega arith)
    go (less h) (tied e u) = less (omega arith)
    go (tied d s) (less k) = less (omega arith)
    go (tied d s) (tied e u) = tied (d ∙ e) (f s u)

lex_self : (x : ℕ) (p : Bool) → T (ltb x x || (eqb x x && p)) → T p
lex_self x p t = go (lex x x p t)
  where
    go : Lex x x p → T p
    go (less h) = absurd (omega arith)
    go (tied e u) = u

bytes_trans : (xs ys zs : List ℕ) → T (bytes_before xs ys) → T (bytes_before ys zs) → T (bytes_before xs zs)
bytes_trans [] [] zs s t = absurd s
bytes_trans [] (y ∷ ys) [] s t = absurd t
bytes_trans [] (y ∷ ys) (z ∷ zs) s t = tt
bytes_trans (x ∷ xs) [] zs s t = absurd s
bytes_trans (x ∷ xs) (y ∷ ys) [] s t = absurd t
bytes_trans (x ∷ xs) (y ∷ ys) (z ∷ zs) s t = lex_trans x y z (bytes_before xs ys) (bytes_before ys zs) (bytes_before xs zs) (bytes_trans xs ys zs) s t

bytes_self : (xs : List ℕ) → T (bytes_before xs xs) → ⊥
bytes_self [] t = t
bytes_self (x ∷ xs) t = bytes_self xs (lex_self x (bytes_before xs xs) t)

by_length_trans : (xs ys zs : List ℕ) → T (by_length xs ys) → T (by_length ys zs) → T (by_length xs zs)
by_length_trans xs ys zs s t = lex_trans (length xs) (length ys) (length zs) (bytes_before xs ys) (bytes_before ys zs) (bytes_before xs zs) (bytes_trans xs ys zs) s t

pub precedes_trans : (u v w : Value) → T (precedes u v) → T (precedes v w) → T (precedes u w)
unfolding precedes
precedes_trans u v w s t = lex_trans u.kind v.kind w.kind (by_length u.bytes v.bytes) (by_length v.bytes w.bytes) (by_length u.bytes w.bytes)
    (by_length_trans u.bytes v.bytes w.bytes) s t

pub precedes_self : (v : Value) → T (precedes v v) → ⊥
unfolding precedes
precedes_self v t = bytes_self v.bytes (lex_self (length v.bytes) (bytes_before v.bytes v.bytes) (lex_self v.kind (by_length v.bytes v.bytes) t))

-- the grains are what lib.Ieee, the meaning of Rattle's f64, says of the same 64 bits

not_eqb : (x y : ℕ) → x < y → eqb x y ≡ false
not_eqb x y h = go (eqb x y) refl
  where
    go : (b : Bool) → eqb x y ≡ b → b ≡ false
    go false e = refl
    go true e = absurd (let p : x ≡ y = eqb→eq x y (subst T (sym e) tt) in omega arith)

fields_mean : (s : Bool) (x t : ℕ) → x < 2047 → Equals (of_fields binary64 s x t) (scaled x t) (2 ^ 1074)
unfolding of_fields
fields_mean s zero t h = subst (λ (z : ℕ). Equals (odd 53 s t 0 1074) z (2 ^ 1074)) (mul-one t) (odd_val 53 s t 0 1074)
fields_mean s (suc x) t h = subst (λ (b : Bool). Equals (cond b (cond (eqb t 0) (inf s) nan) (odd 53 s (2 ^ 52 + t) x 1074)) ((2 ^ 52 + t) * 2 ^ x) (2 ^ 1074))
    (sym (not_eqb (suc x) 2047 h)) (odd_val 53 s (2 ^ 52 + t) x 1074)

pub ieee_grains : (b : ℕ) → T (finite b) → Equals (of_bits binary64 b) (grains b) (2 ^ 1074)
unfolding of_bits
ieee_grains b f =
    let l : b / 2 ^ 52 < 2047 = ltb→lt (b / 2 ^ 52) 2047 f in
    let h : b < 2 ^ 63 = omega (arith, div-add-mod' b (2 ^ 52), mod-lt b {m = 2 ^ 52} (lit< tt)) in
    subst (λ (x : ℕ). Equals (of_fields binary64 (leb (2 ^ 63) b) (x / 2 ^ 52) (b % 2 ^ 52)) (grains b) (2 ^ 1074)) (sym (mod-eq_of_lt h))
    (fields_mean (leb (2 ^ 63) b) (b / 2 ^ 52) (b % 2 ^ 52) l)

-- an integer and a float are the same number exactly if the float has that many times 2^1074 grains, and counts

pub grains_whole : (b n : ℕ) → T (finite b) → grains b ≡ n * 2 ^ 1074 → whole b ≡ some n
grains_whole b n f e = go (finite b && eqb (grains b % 2 ^ 1074) 0) (both (finite b) (eqb (grains b % 2 ^ 1074) 0) f zero_left)
  where
    zero_left : T (eqb (grains b % 2 ^ 1074) 0)
    zero_left = subst (λ (g : ℕ). T (eqb (g % 2 ^ 1074) 0)) (sym e) (subst (λ (g : ℕ). T (eqb g 0)) (sym (mul-mod_left n (2 ^ 1074))) tt)

    go : (c : Bool) → T c → only_if c (grains b / 2 ^ 1074) ≡ some n
    go false t = absurd t
    go true t = ap {B = Option ℕ} (λ (x : ℕ). some (x / 2 ^ 1074)) e ∙ ap {B = Option ℕ} some (mul-div_left n {n = 2 ^ 1074} (lit< tt))

pub counted_counts : (m : Mode) (o : Option ℕ) (n : ℕ) → counted m o ≡ some n → T (counts m n)
counted_counts m none n e = absurd (none-ne-some n e)
counted_counts m (some k) n e = go (counts m k) refl e
  where
    go : (b : Bool) → counts m k ≡ b → only_if b k ≡ some n → T (counts m n)
    go true p q = subst (λ (x : ℕ). T (counts m x)) (some-injective k n q) (subst T (sym p) tt)
    go false p q = absurd (none-ne-some n q)

pub counted_of : (m : Mode) (o : Option ℕ) (n : ℕ) → o ≡ some n → T (counts m n) → counted m o ≡ some n
counted_of m o n e t = ap (counted m) e ∙ go (counts m n) t
  where
    go : (b : Bool) → T b → only_if b n ≡ some n
    go true u = refl
    go false u = absurd u

abbrev pub integer : List ℕ → Value
integer bs = record { kind = 3; bytes = bs }

abbrev pub floating : List ℕ → Value
floating bs = record { kind = 4; bytes = bs }

pub mixed_keys : (m : Mode) (xs ys : List ℕ) → T (same_key m (integer xs) (floating ys)) ↔ (IsNumber (little ys) (magnitude xs) × T (counts m (magnitude xs)))
mixed_keys m xs ys = (λ t. to (same_means m (integer xs) (floating ys) t), λ r. means_same m (integer xs) (floating ys) (from r))
  where
    to : Same m (integer xs) (floating ys) → IsNumber (little ys) (magnitude xs) × T (counts m (magnitude xs))
    to (by_form e) = absurd (let p : 3 ≡ 4 = ap (λ (v : Value). v.kind) e in omega arith)
    to (by_number n d e) =
        let p : n ≡ magnitude xs = sym (some-injective (magnitude xs) n d) in
        let w = whole_grains (little ys) n (counted_some m (whole (little ys)) n e) in
        ((w.0, w.1 ∙ ap (λ (x : ℕ). x * 2 ^ 1074) p), subst (λ (x : ℕ). T (counts m x)) p (counted_counts m (whole (little ys)) n e))

    from : IsNumber (little ys) (magnitude xs) × T (counts m (magnitude xs)) → Same m (integer xs) (floating ys)
    from r = by_number (magnitude xs) refl (counted_of m (whole (little ys)) (magnitude xs) (grains_whole (little ys) (magnitude xs) r.0.0 r.0.1) r.1)

-- an integer of the file is below 256 ^ 64, so a float from there on equals none
onward_below : (xs : List ℕ) (a : ℕ) → T (all_bytes xs) → onward a xs < suc a * 256 ^ length xs
onward_below [] a p = let q : suc a * 1 ≡ suc a = mul-one (suc a) in omega arith
onward_below (x ∷ xs) a p =
    let hx : x < 256 = ltb→lt x 256 (and_left (ltb x 256) (all_bytes xs) p) in
    let r : onward (a * 256 + x) xs < suc (a * 256 + x) * 256 ^ length xs = onward_below xs (a * 256 + x) (and_right (ltb x 256) (all_bytes xs) p) in
    let u : suc (a * 256 + x) * 256 ^ length xs ≤ (suc a * 256) * 256 ^ length xs = mul-le-mul_right (256 ^ length xs) (omega arith) in
    let w : (suc a * 256) * 256 ^ length xs ≡ suc a * 256 ^ suc (length xs) = mul_assoc (suc a) 256 (256 ^ length xs) ∙ ap (λ (z : ℕ). suc a * z) (sym (pow-succ' 256 (length xs))) in
    omega arith

pub magnitude_less : (xs : List ℕ) → T (all_bytes xs) → magnitude xs < 256 ^ length xs
magnitude_less xs p = subst (λ (z : ℕ). magnitude xs < z) (one-mul (256 ^ length xs)) (onward_below xs 0 p)

pub magnitude_below : (xs : List ℕ) → T (all_bytes xs) → length xs ≤ 64 → magnitude xs < 256 ^ 64
magnitude_below xs p h = lt_of_lt_of_le (magnitude_less xs p) (pow-le-pow_right {n = 256} (lit< tt) h)

pub too_large : (m : Mode) (xs ys : List ℕ) → T (all_bytes xs) → length xs ≤ 64 → 256 ^ 64 * 2 ^ 1074 ≤ grains (little ys) → T (same_key m (integer xs) (floating ys)) → ⊥
too_large m xs ys p h g t = lt_irrefl (grains (little ys)) (lt_of_lt_of_le
    (subst (λ (z : ℕ). z < 256 ^ 64 * 2 ^ 1074) (sym ((mixed_keys m xs ys).0 t).0.1) (mul-lt-mul_of_pos_right (magnitude_below xs p h) (lit< tt))) g)

-- over the exponent: up to the field 1075 a float is whole exactly if the digits below the point are 0; from there on always

shift_div : (d q x : ℕ) → q * 2 ^ x / 2 ^ (d + x) ≡ q / 2 ^ d
shift_div d q x = ap (λ (z : ℕ). q * 2 ^ x / z) (pow-add 2 d x) ∙ mul-div-mul_right q (2 ^ d) (pow_pos x)

shift_mod : (d q x : ℕ) → q * 2 ^ x % 2 ^ (d + x) ≡ q % 2 ^ d * 2 ^ x
shift_mod d q x = ap (λ (z : ℕ). q * 2 ^ x % z) (pow-add 2 d x) ∙ (mod-mul (q * 2 ^ x) (pow_pos d) (pow_pos x) ∙ (ap (λ (z : ℕ). q * 2 ^ x / 2 ^ x % 2 ^ d * 2 ^ x + z) (mul-mod_left q (2 ^ x))
    ∙ (add-zero (q * 2 ^ x / 2 ^ x % 2 ^ d * 2 ^ x) ∙ ap (λ (z : ℕ). z % 2 ^ d * 2 ^ x) (mul-div_left q (pow_pos x)))))

pub low_field : (t x : ℕ) → x ≤ 1074 → (scaled (suc x) t / 2 ^ 1074 ≡ (2 ^ 52 + t) / 2 ^ (1074 - x)) × (scaled (suc x) t % 2 ^ 1074 ≡ (2 ^ 52 + t) % 2 ^ (1074 - x) * 2 ^ x)
low_field t x h =
    let e : (1074 - x) + x ≡ 1074 = omega arith in (
      subst (λ (k : ℕ). (2 ^ 52 + t) * 2 ^ x / 2 ^ k ≡ (2 ^ 52 + t) / 2 ^ (1074 - x)) e (shift_div (1074 - x) (2 ^ 52 + t) x),
      subst (λ (k : ℕ). (2 ^ 52 + t) * 2 ^ x % 2 ^ k ≡ (2 ^ 52 + t) % 2 ^ (1074 - x) * 2 ^ x) e (shift_mod (1074 - x) (2 ^ 52 + t) x),
    )

pub high_field : (t d : ℕ) → scaled (suc (d + 1074)) t ≡ (2 ^ 52 + t) * 2 ^ d * 2 ^ 1074
high_field t d = ap (λ (z : ℕ). (2 ^ 52 + t) * z) (pow-add 2 d 1074) ∙ sym (mul_assoc (2 ^ 52 + t) (2 ^ d) (2 ^ 1074))
