-- RFC 3629, section 4, "Syntax of UTF-8 Byte Sequences": well-formed UTF-8, production by production. Assumes nothing.
use Rattle.std.specs.Prelude.{ℕ, zero, suc, Bool, cond, ◌&&◌, List, [], ◌∷◌, ◌++◌, eqb, leb, T, get_or}

-- "%xA-E"
abbrev pub within : ℕ → ℕ → ℕ → Bool
within a e b = leb a b && leb b e

-- "UTF8-tail = %x80-BF"
abbrev pub tail : ℕ → Bool
tail b = within 0x80 0xBF b

-- "UTF8-char = UTF8-1 / UTF8-2 / UTF8-3 / UTF8-4"
pub data Char : List ℕ → Type 0 where
  -- "UTF8-1 = %x00-7F"
  one : {a : ℕ} → T (within 0x00 0x7F a) → Char (a ∷ [])
  -- "UTF8-2 = %xC2-DF UTF8-tail"
  two : {a b : ℕ} → T (within 0xC2 0xDF a) → T (tail b) → Char (a ∷ b ∷ [])
  -- "UTF8-3 = %xE0 %xA0-BF UTF8-tail / %xE1-EC 2( UTF8-tail ) / %xED %x80-9F UTF8-tail / %xEE-EF 2( UTF8-tail )"
  three_e0 : {b c : ℕ} → T (within 0xA0 0xBF b) → T (tail c) → Char (0xE0 ∷ b ∷ c ∷ [])
  three_ec : {a b c : ℕ} → T (within 0xE1 0xEC a) → T (tail b) → T (tail c) → Char (a ∷ b ∷ c ∷ [])
  three_ed : {b c : ℕ} → T (within 0x80 0x9F b) → T (tail c) → Char (0xED ∷ b ∷ c ∷ [])
  three_ef : {a b c : ℕ} → T (within 0xEE 0xEF a) → T (tail b) → T (tail c) → Char (a ∷ b ∷ c ∷ [])
  -- "UTF8-4 = %xF0 %x90-BF 2( UTF8-tail ) / %xF1-F3 3( UTF8-tail ) / %xF4 %x80-8F 2( UTF8-tail )"
  four_f0 : {b c d : ℕ} → T (within 0x90 0xBF b) → T (tail c) → T (tail d) → Char (0xF0 ∷ b ∷ c ∷ d ∷ [])
  four_f3 : {a b c d : ℕ} → T (within 0xF1 0xF3 a) → T (tail b) → T (tail c) → T (tail d) → Char (a ∷ b ∷ c ∷ d ∷ [])
  four_f4 : {b c d : ℕ} → T (within 0x80 0x8F b) → T (tail c) → T (tail d) → Char (0xF4 ∷ b ∷ c ∷ d ∷ [])

-- "UTF8-octets = *( UTF8-char )"
pub data Utf8 : List ℕ → Type 0 where
  end : Utf8 []
  next : {c s : List ℕ} → Char c → Utf8 s → Utf8 (c ++ s)

-- ---- the same as a test: how many bytes the character has that a text begins with, 0 where it begins with none

-- how many bytes follow a first byte a; 4 where none begins with it
abbrev pub more : ℕ → ℕ
more a = cond (leb a 0x7F) 0 (cond (within 0xC2 0xDF a) 1 (cond (within 0xE0 0xEF a) 2 (cond (within 0xF0 0xF4 a) 3 4)))

-- what the second byte lies between
abbrev pub low : ℕ → ℕ
low a = cond (eqb a 0xE0) 0xA0 (cond (eqb a 0xF0) 0x90 0x80)

abbrev pub high : ℕ → ℕ
high a = cond (eqb a 0xED) 0x9F (cond (eqb a 0xF4) 0x8F 0xBF)

abbrev pub second : ℕ → ℕ → Bool
second a b = within (low a) (high a) b

-- the bytes a, b, c, d come first, of which so many follow a
abbrev pub whole : ℕ → ℕ → ℕ → ℕ → ℕ → ℕ
whole zero a b c d = 1
whole (suc zero) a b c d = cond (second a b) 2 0
whole (suc (suc zero)) a b c d = cond (second a b && tail c) 3 0
whole (suc (suc (suc zero))) a b c d = cond (second a b && (tail c && tail d)) 4 0
whole (suc (suc (suc (suc k)))) a b c d = 0

-- past the end stands 0, which is no tail
unfoldable pub front : List ℕ → ℕ
front [] = 0
front (a ∷ s) = whole (more a) a (get_or s 0 0) (get_or s 1 0) (get_or s 2 0)
