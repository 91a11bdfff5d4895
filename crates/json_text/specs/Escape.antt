-- RFC 8259, section 7: a string's text, of any bytes. Assumes nothing.
use Rattle.std.specs.Prelude.{ℕ, zero, suc, ◌+◌, ◌-◌, ◌/◌, ◌%◌, Bool, cond, ◌||◌, List, [], ◌∷◌, ◌++◌, eqb, leb, ltb}
use Rattle.json_text.specs.Utf8.{front}

-- "characters that MUST be escaped: quotation mark, reverse solidus, and the control characters (U+0000 through U+001F)"
abbrev pub must : ℕ → Bool
must b = leb b 0x1F || (eqb b 0x22 || eqb b 0x5C)

-- 0 to 9, then a to f
abbrev pub hex_digit : ℕ → ℕ
hex_digit d = cond (ltb d 10) (48 + d) (87 + d)

-- a byte in two digits
unfoldable pub hex : ℕ → List ℕ
hex b = hex_digit (b / 16 % 16) ∷ hex_digit (b % 16) ∷ []

-- "a six-character sequence: a reverse solidus, followed by the lowercase letter u, followed by four hexadecimal digits"
abbrev pub six : ℕ → List ℕ
six b = 0x5C ∷ 0x75 ∷ 0x30 ∷ 0x30 ∷ hex b

-- U+FFFD, the replacement character
abbrev pub replacement : List ℕ
replacement = 0xEF ∷ 0xBF ∷ 0xBD ∷ []

abbrev pub ascii_byte : ℕ → List ℕ
ascii_byte b = cond (must b) (six b) (b ∷ [])

-- what stands for byte b, with which a character of so many bytes begins (0: none does)
unfoldable pub unit : ℕ → ℕ → List ℕ
unit zero b = replacement
unit (suc zero) b = ascii_byte b
unit (suc (suc k)) b = b ∷ []

-- The text of the bytes s, whose first k end a character and are kept: "a replacement character for each byte outside well-formed UTF-8"
unfoldable pub escape : ℕ → List ℕ → List ℕ
escape k [] = []
escape zero (b ∷ s) = unit (front (b ∷ s)) b ++ escape (front (b ∷ s) - 1) s
escape (suc k) (b ∷ s) = b ∷ escape k s

-- for the code: what the first of these bytes gives, and how many after it are kept
unfoldable pub first : ℕ → List ℕ → List ℕ
first k [] = []
first zero (b ∷ s) = unit (front (b ∷ s)) b
first (suc k) (b ∷ s) = b ∷ []

unfoldable pub left : ℕ → List ℕ → ℕ
left zero s = front s - 1
left (suc k) s = k

abbrev pub escaped : List ℕ → List ℕ
escaped s = escape 0 s

-- bytes in hexadecimal, one after the other
unfoldable pub hexes : List ℕ → List ℕ
hexes [] = []
hexes (b ∷ s) = hex b ++ hexes s
