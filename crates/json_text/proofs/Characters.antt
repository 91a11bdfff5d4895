-- `front` is exactly RFC 3629's grammar of a character. Assumes nothing.
use Prim.Native.Nat.{ℕ, zero, suc, ◌≤◌, ◌<◌, zero-le}
use mathlib.Core.Path.{◌≡◌, refl, sym, ap, subst, ◌∙◌}
use mathlib.Core.Bool.{Bool, true, false, cond, ◌&&◌, not}
use mathlib.Core.List.{List, [], ◌∷◌, ◌++◌}
use lib.Dec.{T, eqb, leb, leb→le, le→leb, nleb→lt, eqb→eq, eqb_refl, not_T, T_not}
use lib.ListN.{length, take, drop, get_or, take-append-drop}
use native.Mathlib.Omega.{arith}
use borrow.Author.Tests.{ne_eqb, lt-leb}
use Rattle.base.proofs.Bools.{so, nope, and_left, and_right, both, test}
use Rattle.json_text.specs.Utf8.{within, tail, Char, one, two, three_e0, three_ec, three_ed, three_ef, four_f0, four_f3, four_f4, more, second, low, high, whole, front}
use Rattle.json_text.specs.Kept.{Outside}

-- ---- a byte between two others

pub within_low : (a e b : ℕ) → T (within a e b) → a ≤ b
within_low a e b t = leb→le a b (and_left (leb a b) (leb b e) t)

pub within_high : (a e b : ℕ) → T (within a e b) → b ≤ e
within_high a e b t = leb→le b e (and_right (leb a b) (leb b e) t)

pub within_so : (a e b : ℕ) → a ≤ b → b ≤ e → T (within a e b)
within_so a e b p q = both (leb a b) (leb b e) (le→leb a b p) (le→leb b e q)

within_above : (a e b : ℕ) → e < b → within a e b ≡ false
within_above a e b p = nope (within a e b) (not_T (within a e b) (λ t. omega (arith, within_high a e b t)))

-- ---- the second byte

either : (P : ℕ → Type 0) (t : Bool) (x y : ℕ) → P x → P y → P (cond t x y)
either P true x y p q = p
either P false x y p q = q

low_least : (a : ℕ) → 0x80 ≤ low a
low_least a =
    either (λ n. 0x80 ≤ n) (eqb a 0xE0) 0xA0 (cond (eqb a 0xF0) 0x90 0x80) (omega arith)
    (either (λ n. 0x80 ≤ n) (eqb a 0xF0) 0x90 0x80 (omega arith) (omega arith))

high_most : (a : ℕ) → high a ≤ 0xBF
high_most a =
    either (λ n. n ≤ 0xBF) (eqb a 0xED) 0x9F (cond (eqb a 0xF4) 0x8F 0xBF) (omega arith)
    (either (λ n. n ≤ 0xBF) (eqb a 0xF4) 0x8F 0xBF (omega arith) (omega arith))

second_tail : (a b : ℕ) → T (second a b) → T (tail b)
second_tail a b t =
    within_so 0x80 0xBF b
    (omega (arith, low_least a, within_low (low a) (high a) b t))
    (omega (arith, high_most a, within_high (low a) (high a) b t))

-- it is any tail but after the four first bytes that say more
second_plain : (a b : ℕ) → ¬ (a ≡ 0xE0) → ¬ (a ≡ 0xF0) → ¬ (a ≡ 0xED) → ¬ (a ≡ 0xF4) → T (tail b) → T (second a b)
second_plain a b e0 f0 ed f4 t =
    let l : low a ≡ 0x80 =
    ap (λ x. cond x 0xA0 (cond (eqb a 0xF0) 0x90 0x80)) (ne_eqb a 0xE0 e0) ∙ ap (λ x. cond x 0x90 0x80) (ne_eqb a 0xF0 f0) in
    let h : high a ≡ 0xBF =
    ap (λ x. cond x 0x9F (cond (eqb a 0xF4) 0x8F 0xBF)) (ne_eqb a 0xED ed) ∙ ap (λ x. cond x 0x8F 0xBF) (ne_eqb a 0xF4 f4) in
    within_so (low a) (high a) b (omega (arith, l, within_low 0x80 0xBF b t)) (omega (arith, h, within_high 0x80 0xBF b t))

-- ---- how many bytes follow the first

abbrev from_f0 : ℕ → ℕ
from_f0 a = cond (within 0xF0 0xF4 a) 3 4

abbrev from_e0 : ℕ → ℕ
from_e0 a = cond (within 0xE0 0xEF a) 2 (from_f0 a)

abbrev from_c2 : ℕ → ℕ
from_c2 a = cond (within 0xC2 0xDF a) 1 (from_e0 a)

more_one : (a : ℕ) → a ≤ 0x7F → more a ≡ 0
more_one a p = ap (λ x. cond x 0 (from_c2 a)) (so (leb a 0x7F) (le→leb a 0x7F p))

more_not_one : (a : ℕ) → 0x7F < a → more a ≡ from_c2 a
more_not_one a p = ap (λ x. cond x 0 (from_c2 a)) (lt-leb a 0x7F p)

more_two : (a : ℕ) → T (within 0xC2 0xDF a) → more a ≡ 1
more_two a t =
    let l = within_low 0xC2 0xDF a t in
    more_not_one a (omega arith) ∙ ap (λ x. cond x 1 (from_e0 a)) (so (within 0xC2 0xDF a) t)

more_three : (a : ℕ) → T (within 0xE0 0xEF a) → more a ≡ 2
more_three a t =
    let l = within_low 0xE0 0xEF a t in
    more_not_one a (omega arith)
    ∙ ap (λ x. cond x 1 (from_e0 a)) (within_above 0xC2 0xDF a (omega arith))
    ∙ ap (λ x. cond x 2 (from_f0 a)) (so (within 0xE0 0xEF a) t)

more_four : (a : ℕ) → T (within 0xF0 0xF4 a) → more a ≡ 3
more_four a t =
    let l = within_low 0xF0 0xF4 a t in
    more_not_one a (omega arith)
    ∙ ap (λ x. cond x 1 (from_e0 a)) (within_above 0xC2 0xDF a (omega arith))
    ∙ ap (λ x. cond x 2 (from_f0 a)) (within_above 0xE0 0xEF a (omega arith))
    ∙ ap (λ x. cond x 3 4) (so (within 0xF0 0xF4 a) t)

more_none : (a : ℕ) → T (not (leb a 0x7F)) → T (not (within 0xC2 0xDF a)) → T (not (within 0xE0 0xEF a)) → T (not (within 0xF0 0xF4 a))
    → more a ≡ 4
more_none a p q r t =
    more_not_one a (nleb→lt a 0x7F p)
    ∙ ap (λ x. cond x 1 (from_e0 a)) (nope (within 0xC2 0xDF a) q)
    ∙ ap (λ x. cond x 2 (from_f0 a)) (nope (within 0xE0 0xEF a) r)
    ∙ ap (λ x. cond x 3 4) (nope (within 0xF0 0xF4 a) t)

-- ---- a character is counted whole

whole_two : (a b : ℕ) (s : List ℕ) → T (within 0xC2 0xDF a) → T (second a b) → front (a ∷ b ∷ s) ≡ 2
unfolding front
whole_two a b s t u =
    ap (λ m. whole m a b (get_or s 0 0) (get_or s 1 0)) (more_two a t) ∙ ap (λ x. cond x 2 0) (so (second a b) u)

whole_three : (a b c : ℕ) (s : List ℕ) → T (within 0xE0 0xEF a) → T (second a b) → T (tail c) → front (a ∷ b ∷ c ∷ s) ≡ 3
unfolding front
whole_three a b c s t u v =
    ap (λ m. whole m a b c (get_or s 0 0)) (more_three a t)
    ∙ ap (λ x. cond x 3 0) (so (second a b && tail c) (both (second a b) (tail c) u v))

whole_four : (a b c d : ℕ) (s : List ℕ) → T (within 0xF0 0xF4 a) → T (second a b) → T (tail c) → T (tail d)
    → front (a ∷ b ∷ c ∷ d ∷ s) ≡ 4
unfolding front
whole_four a b c d s t u v w =
    ap (λ m. whole m a b c d) (more_four a t)
    ∙ ap (λ x. cond x 4 0) (so (second a b && (tail c && tail d))
    (both (second a b) (tail c && tail d) u (both (tail c) (tail d) v w)))

wider : (a e i o b : ℕ) → i ≤ a → e ≤ o → T (within a e b) → T (within i o b)
wider a e i o b p q t = within_so i o b (omega (arith, within_low a e b t)) (omega (arith, within_high a e b t))

pub front_whole : {c : List ℕ} → Char c → (s : List ℕ) → front (c ++ s) ≡ length c
unfolding front
front_whole (one {a = a} t) s =
    ap (λ m. whole m a (get_or s 0 0) (get_or s 1 0) (get_or s 2 0)) (more_one a (within_high 0x00 0x7F a t))
front_whole (two {a = a} {b = b} t u) s =
    let l = within_high 0xC2 0xDF a t in
    whole_two a b s t (second_plain a b (omega arith) (omega arith) (omega arith) (omega arith) u)
front_whole (three_e0 {b = b} {c = c} u v) s = whole_three 0xE0 b c s tt u v
front_whole (three_ec {a = a} {b = b} {c = c} t u v) s =
    let l = within_low 0xE1 0xEC a t in let h = within_high 0xE1 0xEC a t in
    whole_three a b c s (wider 0xE1 0xEC 0xE0 0xEF a (omega arith) (omega arith) t)
    (second_plain a b (omega arith) (omega arith) (omega arith) (omega arith) u) v
front_whole (three_ed {b = b} {c = c} u v) s = whole_three 0xED b c s tt u v
front_whole (three_ef {a = a} {b = b} {c = c} t u v) s =
    let l = within_low 0xEE 0xEF a t in let h = within_high 0xEE 0xEF a t in
    whole_three a b c s (wider 0xEE 0xEF 0xE0 0xEF a (omega arith) (omega arith) t)
    (second_plain a b (omega arith) (omega arith) (omega arith) (omega arith) u) v
front_whole (four_f0 {b = b} {c = c} {d = d} u v w) s = whole_four 0xF0 b c d s tt u v w
front_whole (four_f3 {a = a} {b = b} {c = c} {d = d} t u v w) s =
    let l = within_low 0xF1 0xF3 a t in let h = within_high 0xF1 0xF3 a t in
    whole_four a b c d s (wider 0xF1 0xF3 0xF0 0xF4 a (omega arith) (omega arith) t)
    (second_plain a b (omega arith) (omega arith) (omega arith) (omega arith) u) v w
front_whole (four_f4 {b = b} {c = c} {d = d} u v w) s = whole_four 0xF4 b c d s tt u v w

-- ---- what is counted is a character

same_first : (a x : ℕ) (r : List ℕ) → T (eqb a x) → Char (x ∷ r) → Char (a ∷ r)
same_first a x r t c = subst (λ y. Char (y ∷ r)) (sym (eqb→eq a x t)) c

same_second : (a x b : ℕ) → T (eqb a x) → T (second a b) → T (second x b)
same_second a x b t u = subst (λ y. T (second y b)) (eqb→eq a x t) u

pub apart : (a x : ℕ) → T (not (eqb a x)) → ¬ (a ≡ x)
apart a x t e = T_not (eqb a x) t (subst (λ y. T (eqb a y)) e (eqb_refl a))

three : (a b c : ℕ) → T (within 0xE0 0xEF a) → T (second a b) → T (tail c) → Char (a ∷ b ∷ c ∷ [])
three a b c t u v =
    test (eqb a 0xE0) (λ e. same_first a 0xE0 (b ∷ c ∷ []) e (three_e0 (same_second a 0xE0 b e u) v))
    (λ e0. test (eqb a 0xED) (λ e. same_first a 0xED (b ∷ c ∷ []) e (three_ed (same_second a 0xED b e u) v))
    (λ ed.
    let l = within_low 0xE0 0xEF a t in
    let h = within_high 0xE0 0xEF a t in
    let n = apart a 0xE0 e0 in
    let m = apart a 0xED ed in
    test (leb a 0xEC)
    (λ p. three_ec (within_so 0xE1 0xEC a (omega arith) (leb→le a 0xEC p)) (second_tail a b u) v)
    (λ p. let q = nleb→lt a 0xEC p in three_ef (within_so 0xEE 0xEF a (omega arith) h) (second_tail a b u) v)))

four : (a b c d : ℕ) → T (within 0xF0 0xF4 a) → T (second a b) → T (tail c) → T (tail d) → Char (a ∷ b ∷ c ∷ d ∷ [])
four a b c d t u v w =
    test (eqb a 0xF0) (λ e. same_first a 0xF0 (b ∷ c ∷ d ∷ []) e (four_f0 (same_second a 0xF0 b e u) v w))
    (λ f0. test (eqb a 0xF4) (λ e. same_first a 0xF4 (b ∷ c ∷ d ∷ []) e (four_f4 (same_second a 0xF4 b e u) v w))
    (λ f4.
    let l = within_low 0xF0 0xF4 a t in
    let h = within_high 0xF0 0xF4 a t in
    let n = apart a 0xF0 f0 in
    let m = apart a 0xF4 f4 in
    four_f3 (within_so 0xF1 0xF3 a (omega arith) (omega arith)) (second_tail a b u) v w))

take_two : (a : ℕ) (s : List ℕ) → T (within 0xC2 0xDF a) → T (second a (get_or s 0 0)) → Char (take 2 (a ∷ s))
take_two a [] t u = absurd (second_tail a 0 u)
take_two a (b ∷ s) t u = two t (second_tail a b u)

take_three : (a : ℕ) (s : List ℕ) → T (within 0xE0 0xEF a) → T (second a (get_or s 0 0)) → T (tail (get_or s 1 0)) → Char (take 3 (a ∷ s))
take_three a [] t u v = absurd v
take_three a (b ∷ []) t u v = absurd v
take_three a (b ∷ c ∷ s) t u v = three a b c t u v

take_four : (a : ℕ) (s : List ℕ) → T (within 0xF0 0xF4 a) → T (second a (get_or s 0 0)) → T (tail (get_or s 1 0)) → T (tail (get_or s 2 0))
    → Char (take 4 (a ∷ s))
take_four a [] t u v w = absurd v
take_four a (b ∷ []) t u v w = absurd v
take_four a (b ∷ c ∷ []) t u v w = absurd w
take_four a (b ∷ c ∷ d ∷ s) t u v w = four a b c d t u v w

counted : (s : List ℕ) (n k : ℕ) (x : Bool) → (T x → Char (take n s)) → cond x n 0 ≡ suc k → Char (take (suc k) s)
counted s n k true f e = subst (λ i. Char (take i s)) e (f tt)
counted s n k false f e = let z : ⊥ = omega arith in absurd z

pub front_char : (s : List ℕ) (k : ℕ) → front s ≡ suc k → Char (take (suc k) s)
unfolding front
front_char [] k e = let z : ⊥ = omega arith in absurd z
front_char (a ∷ s) k e =
    let b = get_or s 0 0 in
    let c = get_or s 1 0 in
    let d = get_or s 2 0 in
    let now : (m : ℕ) → more a ≡ m → whole m a b c d ≡ suc k = λ m p. sym (ap (λ i. whole i a b c d) p) ∙ e in
    test (leb a 0x7F)
    (λ t. subst (λ i. Char (take i (a ∷ s))) (now 0 (more_one a (leb→le a 0x7F t))) (one (within_so 0x00 0x7F a zero-le (leb→le a 0x7F t))))
    (λ t₁. test (within 0xC2 0xDF a)
    (λ t. counted (a ∷ s) 2 k (second a b) (take_two a s t) (now 1 (more_two a t)))
    (λ t₂. test (within 0xE0 0xEF a)
    (λ t. counted (a ∷ s) 3 k (second a b && tail c)
    (λ u. take_three a s t (and_left (second a b) (tail c) u) (and_right (second a b) (tail c) u)) (now 2 (more_three a t)))
    (λ t₃. test (within 0xF0 0xF4 a)
    (λ t. counted (a ∷ s) 4 k (second a b && (tail c && tail d))
    (λ u. let v = and_right (second a b) (tail c && tail d) u in
    take_four a s t (and_left (second a b) (tail c && tail d) u) (and_left (tail c) (tail d) v) (and_right (tail c) (tail d) v))
    (now 3 (more_four a t)))
    (λ t₄. let q : 0 ≡ suc k = now 4 (more_none a t₁ t₂ t₃ t₄) in let z : ⊥ = omega arith in absurd z))))

-- ---- nothing is counted exactly where no character begins the text

char_length : {c : List ℕ} → Char c → 1 ≤ length c
char_length (one t) = omega arith
char_length (two t u) = omega arith
char_length (three_e0 u v) = omega arith
char_length (three_ec t u v) = omega arith
char_length (three_ed u v) = omega arith
char_length (three_ef t u v) = omega arith
char_length (four_f0 u v w) = omega arith
char_length (four_f3 t u v w) = omega arith
char_length (four_f4 u v w) = omega arith

pub front_outside : (s : List ℕ) → front s ≡ 0 → Outside s
front_outside s e c r ch p = omega (arith, char_length ch, sym (front_whole ch r) ∙ ap front (sym p) ∙ e)

pub outside_front : (s : List ℕ) → Outside s → front s ≡ 0
outside_front s out = go (front s) refl
  where
    go : (n : ℕ) → front s ≡ n → front s ≡ 0
    go zero e = e
    go (suc k) e = absurd (out (take (suc k) s) (drop (suc k) s) (front_char s k e) (sym (take-append-drop (suc k) s)))
