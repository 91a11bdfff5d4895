-- The escape does what Escaped says, and nothing else does. Assumes nothing.
use Prim.Native.Nat.{ℕ, zero, suc, ◌≤◌, ◌-◌}
use mathlib.Core.Path.{◌≡◌, refl, sym, ap, subst, ◌∙◌}
use mathlib.Core.Bool.{true, cond, ◌||◌, not}
use mathlib.Core.List.{List, [], ◌∷◌, ◌++◌}
use mathlib.Core.Logic.{◌⊎◌, inl, inr}
use lib.Dec.{T, eqb, leb, leb→le, eqb→eq, not_T}
use lib.ListN.{drop, length, take-append-drop}
use native.Mathlib.Omega.{arith}
use Rattle.base.proofs.Bools.{so, nope, and_left, and_right, both, or_case, test}
use Rattle.json_text.specs.Utf8.{within, tail, Char, one, two, three_e0, three_ec, three_ed, three_ef, four_f0, four_f3, four_f4, Utf8, next, front}
use Rattle.json_text.specs.Escape.{must, six, replacement, unit, escape, escaped}
use Rattle.json_text.specs.Kept.{Outside, clear, Escaped, end, kept, marked, replaced}
use Rattle.json_text.proofs.Characters.{within_low, within_so, front_char, front_whole, front_outside, outside_front}

-- what must be escaped is ASCII
pub must_most : (b : ℕ) → T (must b) → b ≤ 0x5C
must_most b t =
    or_case (leb b 0x1F) (eqb b 0x22 || eqb b 0x5C) (λ p. omega (arith, leb→le b 0x1F p))
    (or_case (eqb b 0x22) (eqb b 0x5C) (λ p. omega (arith, eqb→eq b 0x22 p)) (λ p. omega (arith, eqb→eq b 0x5C p))) t

pub must_char : (b : ℕ) → T (must b) → Char (b ∷ [])
must_char b t = one (within_so 0x00 0x7F b (omega arith) (omega (arith, must_most b t)))

-- a byte past ASCII is clear
clear_past : (b : ℕ) (s : List ℕ) → 0x80 ≤ b → T (clear s) → T (clear (b ∷ s))
clear_past b s p t = both (not (must b)) (clear s) (not_T (must b) (λ m. omega (arith, must_most b m))) t

clear_in : (a e b : ℕ) (s : List ℕ) → 0x80 ≤ a → T (within a e b) → T (clear s) → T (clear (b ∷ s))
clear_in a e b s p t u = clear_past b s (omega (arith, within_low a e b t)) u

clear_tail : (b : ℕ) (s : List ℕ) → T (tail b) → T (clear s) → T (clear (b ∷ s))
clear_tail b s t u = clear_in 0x80 0xBF b s (omega arith) t u

-- a character is clear, or is one byte that must be escaped
abbrev Kind : List ℕ → Type 0
Kind c = T (clear c) ⊎ ((b : ℕ) × T (must b) × (c ≡ b ∷ []))

kind_of : {c : List ℕ} → Char c → Kind c
kind_of (one {a = a} t) = test (must a) (λ m. inr (a, m, refl)) (λ m. inl (both (not (must a)) true m tt))
kind_of (two {a = a} {b = b} t u) = inl (clear_in 0xC2 0xDF a (b ∷ []) (omega arith) t (clear_tail b [] u tt))
kind_of (three_e0 {b = b} {c = c} u v) = inl (clear_in 0xA0 0xBF b (c ∷ []) (omega arith) u (clear_tail c [] v tt))
kind_of (three_ec {a = a} {b = b} {c = c} t u v) =
    inl (clear_in 0xE1 0xEC a (b ∷ c ∷ []) (omega arith) t (clear_tail b (c ∷ []) u (clear_tail c [] v tt)))
kind_of (three_ed {b = b} {c = c} u v) = inl (clear_in 0x80 0x9F b (c ∷ []) (omega arith) u (clear_tail c [] v tt))
kind_of (three_ef {a = a} {b = b} {c = c} t u v) =
    inl (clear_in 0xEE 0xEF a (b ∷ c ∷ []) (omega arith) t (clear_tail b (c ∷ []) u (clear_tail c [] v tt)))
kind_of (four_f0 {b = b} {c = c} {d = d} u v w) =
    inl (clear_in 0x90 0xBF b (c ∷ d ∷ []) (omega arith) u (clear_tail c (d ∷ []) v (clear_tail d [] w tt)))
kind_of (four_f3 {a = a} {b = b} {c = c} {d = d} t u v w) =
    inl (clear_in 0xF1 0xF3 a (b ∷ c ∷ d ∷ []) (omega arith) t
    (clear_tail b (c ∷ d ∷ []) u (clear_tail c (d ∷ []) v (clear_tail d [] w tt))))
kind_of (four_f4 {b = b} {c = c} {d = d} u v w) =
    inl (clear_in 0x80 0x8F b (c ∷ d ∷ []) (omega arith) u (clear_tail c (d ∷ []) v (clear_tail d [] w tt)))

-- ---- the escape of a text that begins with a character, or with none

-- the bytes that end a character are kept
escape_through : (t r : List ℕ) → escape (length t) (t ++ r) ≡ t ++ escape 0 r
unfolding escape
escape_through [] r = refl
escape_through (b ∷ t) r = ap {B = List ℕ} (λ x. b ∷ x) (escape_through t r)

escape_first : (b : ℕ) (s : List ℕ) (n : ℕ) → front (b ∷ s) ≡ n → escape 0 (b ∷ s) ≡ unit n b ++ escape (n - 1) s
unfolding escape
escape_first b s n e = ap {B = List ℕ} (λ m. unit m b ++ escape (m - 1) s) e

escape_outside : (b : ℕ) (s : List ℕ) → Outside (b ∷ s) → escape 0 (b ∷ s) ≡ replacement ++ escape 0 s
unfolding unit
escape_outside b s out = escape_first b s 0 (outside_front (b ∷ s) out)

escape_marked : (b : ℕ) (s : List ℕ) → T (must b) → escape 0 (b ∷ s) ≡ six b ++ escape 0 s
unfolding unit
escape_marked b s t = escape_first b s 1 (front_whole (must_char b t) s) ∙ ap (λ x. cond x (six b) (b ∷ []) ++ escape 0 s) (so (must b) t)

pub escape_kept : (c : List ℕ) → Char c → T (clear c) → (r : List ℕ) → escape 0 (c ++ r) ≡ c ++ escape 0 r
unfolding unit
escape_kept [] ch t r = refl
escape_kept (b ∷ []) ch t r =
    escape_first b r 1 (front_whole ch r)
    ∙ ap (λ x. cond x (six b) (b ∷ []) ++ escape 0 r) (nope (must b) (and_left (not (must b)) true t))
escape_kept (b ∷ x ∷ c) ch t r =
    escape_first b (x ∷ (c ++ r)) (suc (suc (length c))) (front_whole ch r)
    ∙ ap {B = List ℕ} (λ n. b ∷ escape n (x ∷ (c ++ r))) (omega arith)
    ∙ ap {B = List ℕ} (λ y. b ∷ y) (escape_through (x ∷ c) r)

-- ---- the escape is Escaped, and only the escape is

char_so : {c : List ℕ} → Char c → (r : List ℕ) → Escaped r (escaped r) → Escaped (c ++ r) (escaped (c ++ r))
char_so {c} ch r h = go (kind_of ch)
  where
    go : Kind c → Escaped (c ++ r) (escaped (c ++ r))
    go (inl t) = subst (λ e. Escaped (c ++ r) e) (sym (escape_kept c ch t r)) (kept ch t h)
    go (inr m) =
        subst (λ x. Escaped (x ++ r) (escaped (x ++ r))) (sym m.2)
        (subst (λ e. Escaped (m.0 ∷ r) e) (sym (escape_marked m.0 r m.1)) (marked m.1 h))

-- the text from any byte on
escaped_from : (s : List ℕ) (k : ℕ) → Escaped (drop k s) (escaped (drop k s))
unfolding escape
escaped_from [] zero = end
escaped_from [] (suc k) = end
escaped_from (b ∷ s) (suc k) = escaped_from s k
escaped_from (b ∷ s) zero = go (front (b ∷ s)) refl (escaped_from s)
  where
    go : (n : ℕ) → front (b ∷ s) ≡ n → ((k : ℕ) → Escaped (drop k s) (escaped (drop k s))) → Escaped (b ∷ s) (escaped (b ∷ s))
    go zero e h =
        let out = front_outside (b ∷ s) e in
        subst (λ x. Escaped (b ∷ s) x) (sym (escape_outside b s out)) (replaced out (h 0))
    go (suc k) e h =
        subst (λ x. Escaped x (escaped x)) (take-append-drop (suc k) (b ∷ s))
        (char_so (front_char (b ∷ s) k e) (drop k s) (h k))

pub escaped_so : (s : List ℕ) → Escaped s (escaped s)
escaped_so s = escaped_from s 0

pub escaped_only : {s e : List ℕ} → Escaped s e → e ≡ escaped s
unfolding escape
escaped_only end = refl
escaped_only (kept {c = c} {s = s} ch t h) = ap (λ x. c ++ x) (escaped_only h) ∙ sym (escape_kept c ch t s)
escaped_only (marked {b = b} {s = s} t h) = ap (λ x. six b ++ x) (escaped_only h) ∙ sym (escape_marked b s t)
escaped_only (replaced {b = b} {s = s} out h) = ap (λ x. replacement ++ x) (escaped_only h) ∙ sym (escape_outside b s out)

-- so one text has one escape
pub escaped_one : {s e e' : List ℕ} → Escaped s e → Escaped s e' → e ≡ e'
escaped_one h h' = escaped_only h ∙ sym (escaped_only h')

-- ---- well-formed UTF-8 in which nothing must be escaped stays as it is

clear_left : (s r : List ℕ) → T (clear (s ++ r)) → T (clear s)
clear_left [] r t = tt
clear_left (b ∷ s) r t =
    both (not (must b)) (clear s) (and_left (not (must b)) (clear (s ++ r)) t) (clear_left s r (and_right (not (must b)) (clear (s ++ r)) t))

clear_right : (s r : List ℕ) → T (clear (s ++ r)) → T (clear r)
clear_right [] r t = t
clear_right (b ∷ s) r t = clear_right s r (and_right (not (must b)) (clear (s ++ r)) t)

pub escaped_same : {s : List ℕ} → Utf8 s → T (clear s) → escaped s ≡ s
unfolding escape
escaped_same Utf8.end t = refl
escaped_same (next {c = c} {s = s} ch u) t =
    escape_kept c ch (clear_left c s t) s ∙ ap (λ x. c ++ x) (escaped_same u (clear_right c s t))
