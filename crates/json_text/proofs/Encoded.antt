-- Every text of RFC 8259's grammar is well-formed UTF-8. Assumes nothing.
use Prim.Native.Nat.{ℕ, ◌≤◌}
use mathlib.Core.Path.{sym, subst}
use mathlib.Core.Bool.{Bool, true, false, ◌||◌, ◌&&◌}
use mathlib.Core.List.{List, [], ◌∷◌, ◌++◌, append_assoc, append-nil}
use lib.Dec.{T, eqb, leb, leb→le, eqb→eq}
use native.Mathlib.Omega.{arith}
use Rattle.base.proofs.Bools.{or_case, and_left, and_right}
use Rattle.json_text.specs.Utf8.{within, one, Utf8, end, next}
use Rattle.json_text.specs.Grammar.{Name, Is, Sign, Minus, digit, hexdig, blank, letter, unescaped, around}
use Rattle.json_text.specs.Escape.{escaped}
use Rattle.json_text.specs.Text.{Json, text}
use Rattle.json_text.proofs.Characters.{within_high, within_so}
use Rattle.json_text.proofs.Sound.{escaped_chars, text_json, json_text}

-- ---- parts of UTF-8

pub utf8_append : {s r : List ℕ} → Utf8 s → Utf8 r → Utf8 (s ++ r)
utf8_append end v = v
utf8_append {r = r} (next {c = c} {s = s} ch u) v = subst Utf8 (sym (append_assoc c s r)) (next ch (utf8_append u v))

-- a byte of ASCII is a character
pub utf8_byte : {s : List ℕ} (b : ℕ) → b ≤ 0x7F → Utf8 s → Utf8 (b ∷ s)
utf8_byte b p u = next (one (within_so 0x00 0x7F b (omega arith) p)) u

abbrev pub all_ascii : List ℕ → Bool
all_ascii [] = true
all_ascii (b ∷ s) = leb b 0x7F && all_ascii s

pub utf8_ascii : (s : List ℕ) → T (all_ascii s) → Utf8 s
utf8_ascii [] t = end
utf8_ascii (b ∷ s) t =
    utf8_byte b (leb→le b 0x7F (and_left (leb b 0x7F) (all_ascii s) t)) (utf8_ascii s (and_right (leb b 0x7F) (all_ascii s) t))

utf8_around : {a e : List ℕ} (c : ℕ) → c ≤ 0x7F → Utf8 a → Utf8 e → Utf8 (around a c e)
utf8_around c p u v = utf8_append u (utf8_byte c p v)

utf8_minus : {s : List ℕ} → Minus s → Utf8 s
utf8_minus Minus.none = end
utf8_minus Minus.minus = utf8_byte 0x2D (omega arith) end

utf8_sign : {s : List ℕ} → Sign s → Utf8 s
utf8_sign Sign.none = end
utf8_sign Sign.minus = utf8_byte 0x2D (omega arith) end
utf8_sign Sign.plus = utf8_byte 0x2B (omega arith) end

-- ---- the grammar's bytes are ASCII

-- b is one of the bytes ks
abbrev is_any : List ℕ → ℕ → Bool
is_any [] b = false
is_any (k ∷ []) b = eqb b k
is_any (k ∷ l ∷ ks) b = eqb b k || is_any (l ∷ ks) b

any_most : (ks : List ℕ) (b : ℕ) → T (all_ascii ks) → T (is_any ks b) → b ≤ 0x7F
any_most [] b t u = absurd u
any_most (k ∷ []) b t u = omega (arith, leb→le k 0x7F (and_left (leb k 0x7F) true t), eqb→eq b k u)
any_most (k ∷ l ∷ ks) b t u =
    let p = leb→le k 0x7F (and_left (leb k 0x7F) (all_ascii (l ∷ ks)) t) in
    or_case (eqb b k) (is_any (l ∷ ks) b) (λ e. omega (arith, eqb→eq b k e))
    (any_most (l ∷ ks) b (and_right (leb k 0x7F) (all_ascii (l ∷ ks)) t)) u

blank_most : (b : ℕ) → T (blank b) → b ≤ 0x7F
blank_most b t = any_most (0x20 ∷ 0x09 ∷ 0x0A ∷ 0x0D ∷ []) b tt t

letter_most : (b : ℕ) → T (letter b) → b ≤ 0x7F
letter_most b t = any_most (0x22 ∷ 0x5C ∷ 0x2F ∷ 0x62 ∷ 0x66 ∷ 0x6E ∷ 0x72 ∷ 0x74 ∷ []) b tt t

e_most : (b : ℕ) → T (eqb b 0x65 || eqb b 0x45) → b ≤ 0x7F
e_most b t = any_most (0x65 ∷ 0x45 ∷ []) b tt t

in_most : (a e b : ℕ) → e ≤ 0x7F → T (within a e b) → b ≤ 0x7F
in_most a e b p t = omega (arith, within_high a e b t)

digit_most : (b : ℕ) → T (digit b) → b ≤ 0x7F
digit_most b t = in_most 0x30 0x39 b (omega arith) t

hexdig_most : (b : ℕ) → T (hexdig b) → b ≤ 0x7F
hexdig_most b t =
    or_case (digit b) (within 0x41 0x46 b || within 0x61 0x66 b) (digit_most b)
    (or_case (within 0x41 0x46 b) (within 0x61 0x66 b) (in_most 0x41 0x46 b (omega arith)) (in_most 0x61 0x66 b (omega arith))) t

unescaped_most : (b : ℕ) → T (unescaped b) → b ≤ 0x7F
unescaped_most b t =
    or_case (within 0x20 0x21 b) (within 0x23 0x5B b || within 0x5D 0x7F b) (in_most 0x20 0x21 b (omega arith))
    (or_case (within 0x23 0x5B b) (within 0x5D 0x7F b) (in_most 0x23 0x5B b (omega arith)) (in_most 0x5D 0x7F b (omega arith))) t

-- ---- the grammar

pub json_utf8 : {n : Name} {s : List ℕ} → Is n s → Utf8 s
json_utf8 (Is.whole a v e) = utf8_append (json_utf8 a) (utf8_append (json_utf8 v) (json_utf8 e))
json_utf8 Is.no_ws = end
json_utf8 (Is.a_ws {b = b} t h) = utf8_byte b (blank_most b t) (json_utf8 h)
json_utf8 Is.false = utf8_ascii _ tt
json_utf8 Is.null = utf8_ascii _ tt
json_utf8 Is.true = utf8_ascii _ tt
json_utf8 (Is.an_object h) = json_utf8 h
json_utf8 (Is.an_array h) = json_utf8 h
json_utf8 (Is.a_number h) = json_utf8 h
json_utf8 (Is.a_string h) = json_utf8 h
json_utf8 (Is.empty_object a b c d) =
    utf8_append (utf8_around 0x7B (omega arith) (json_utf8 a) (json_utf8 b)) (utf8_around 0x7D (omega arith) (json_utf8 c) (json_utf8 d))
json_utf8 (Is.of_members a b s c d) =
    utf8_append (utf8_around 0x7B (omega arith) (json_utf8 a) (json_utf8 b))
    (utf8_append (json_utf8 s) (utf8_around 0x7D (omega arith) (json_utf8 c) (json_utf8 d)))
json_utf8 (Is.last_member h) = json_utf8 h
json_utf8 (Is.next_member m a b s) =
    utf8_append (json_utf8 m) (utf8_append (utf8_around 0x2C (omega arith) (json_utf8 a) (json_utf8 b)) (json_utf8 s))
json_utf8 (Is.a_member k a b v) =
    utf8_append (json_utf8 k) (utf8_append (utf8_around 0x3A (omega arith) (json_utf8 a) (json_utf8 b)) (json_utf8 v))
json_utf8 (Is.empty_array a b c d) =
    utf8_append (utf8_around 0x5B (omega arith) (json_utf8 a) (json_utf8 b)) (utf8_around 0x5D (omega arith) (json_utf8 c) (json_utf8 d))
json_utf8 (Is.of_values a b s c d) =
    utf8_append (utf8_around 0x5B (omega arith) (json_utf8 a) (json_utf8 b))
    (utf8_append (json_utf8 s) (utf8_around 0x5D (omega arith) (json_utf8 c) (json_utf8 d)))
json_utf8 (Is.last_value h) = json_utf8 h
json_utf8 (Is.next_value v a b s) =
    utf8_append (json_utf8 v) (utf8_append (utf8_around 0x2C (omega arith) (json_utf8 a) (json_utf8 b)) (json_utf8 s))
json_utf8 (Is.of_parts m i f e) = utf8_append (utf8_minus m) (utf8_append (json_utf8 i) (utf8_append (json_utf8 f) (json_utf8 e)))
json_utf8 Is.zero = utf8_byte 0x30 (omega arith) end
json_utf8 (Is.from_one {b = b} t h) = utf8_byte b (in_most 0x31 0x39 b (omega arith) t) (json_utf8 h)
json_utf8 Is.no_digits = end
json_utf8 (Is.a_digit {b = b} t h) = utf8_byte b (digit_most b t) (json_utf8 h)
json_utf8 Is.no_frac = end
json_utf8 (Is.a_frac {b = b} t h) = utf8_byte 0x2E (omega arith) (utf8_byte b (digit_most b t) (json_utf8 h))
json_utf8 Is.no_exp = end
json_utf8 (Is.an_exp {e = e} b u p t h) = utf8_byte e (e_most e u) (utf8_append (utf8_sign p) (utf8_byte b (digit_most b t) (json_utf8 h)))
json_utf8 (Is.marked h) = utf8_byte 0x22 (omega arith) (utf8_append (json_utf8 h) (utf8_byte 0x22 (omega arith) end))
json_utf8 Is.no_chars = end
json_utf8 (Is.a_char c h) = utf8_append (json_utf8 c) (json_utf8 h)
json_utf8 (Is.plain {b = b} t) = utf8_byte b (unescaped_most b t) end
json_utf8 (Is.wide {a = a} {b = b} {s = s} ch) = subst Utf8 (append-nil (a ∷ b ∷ s)) (next ch end)
json_utf8 (Is.by_letter {b = b} t) = utf8_byte 0x5C (omega arith) (utf8_byte b (letter_most b t) end)
json_utf8 (Is.by_number {a = a} {b = b} {c = c} {d = d} p q r t) =
    utf8_byte 0x5C (omega arith) (utf8_byte 0x75 (omega arith)
    (utf8_byte a (hexdig_most a p) (utf8_byte b (hexdig_most b q) (utf8_byte c (hexdig_most c r) (utf8_byte d (hexdig_most d t) end)))))

-- ---- what the crate writes

pub escaped_utf8 : (s : List ℕ) → Utf8 (escaped s)
escaped_utf8 s = json_utf8 (escaped_chars s)

pub text_utf8 : (j : Json) → Utf8 (text j [])
text_utf8 j = json_utf8 (text_json j)

-- with the line's end
pub line_utf8 : (j : Json) → Utf8 (text j (0x0A ∷ []))
line_utf8 j = json_utf8 (json_text j)
