-- RFC 8259, sections 2 to 7: the grammar of JSON, production by production, over the bytes of UTF-8 ("8.1": "JSON text .. MUST be
-- encoded using UTF-8"). Assumes nothing.
use Rattle.std.specs.Prelude.{ℕ, Bool, ◌||◌, List, [], ◌∷◌, ◌++◌, eqb, T}
use Rattle.base.specs.Ascii.{ascii}
use Rattle.json_text.specs.Utf8.{Char, within}

-- the names of the productions
pub data Name : Type 0 where
  JSONText ws value member_list value_list object member array number int frac exp digits string chars char : Name

-- "zero / digit1-9", "DIGIT" and "HEXDIG" (RFC 5234; its letters are of either case)
abbrev pub digit : ℕ → Bool
digit b = within 0x30 0x39 b

abbrev pub hexdig : ℕ → Bool
hexdig b = digit b || (within 0x41 0x46 b || within 0x61 0x66 b)

-- "ws = *( %x20 / %x09 / %x0A / %x0D )"
abbrev pub blank : ℕ → Bool
blank b = eqb b 0x20 || (eqb b 0x09 || (eqb b 0x0A || eqb b 0x0D))

-- after a reverse solidus: " \ / b f n r t
abbrev pub letter : ℕ → Bool
letter b =
    eqb b 0x22 || (eqb b 0x5C || (eqb b 0x2F || (eqb b 0x62 || (eqb b 0x66 || (eqb b 0x6E || (eqb b 0x72 || eqb b 0x74))))))

-- "unescaped = %x20-21 / %x23-5B / %x5D-10FFFF", of one byte
abbrev pub unescaped : ℕ → Bool
unescaped b = within 0x20 0x21 b || (within 0x23 0x5B b || within 0x5D 0x7F b)

-- a structural character, "ws %x.. ws"
abbrev pub around : List ℕ → ℕ → List ℕ → List ℕ
around a c e = a ++ (c ∷ e)

-- "[ minus ]", "[ minus / plus ]"
pub data Sign : List ℕ → Type 0 where
  none : Sign []
  minus : Sign (0x2D ∷ [])
  plus : Sign (0x2B ∷ [])

pub data Minus : List ℕ → Type 0 where
  none : Minus []
  minus : Minus (0x2D ∷ [])

pub data Is : Name → List ℕ → Type 0 where
  -- "JSON-text = ws value ws"
  whole : {a v e : List ℕ} → Is ws a → Is value v → Is ws e → Is JSONText (a ++ (v ++ e))
  no_ws : Is ws []
  a_ws : {b : ℕ} {s : List ℕ} → T (blank b) → Is ws s → Is ws (b ∷ s)
  -- "value = false / null / true / object / array / number / string"
  false : Is value (ascii "false")
  null : Is value (ascii "null")
  true : Is value (ascii "true")
  an_object : {s : List ℕ} → Is object s → Is value s
  an_array : {s : List ℕ} → Is array s → Is value s
  a_number : {s : List ℕ} → Is number s → Is value s
  a_string : {s : List ℕ} → Is string s → Is value s
  -- "object = begin-object [ member *( value-separator member ) ] end-object"
  empty_object : {a b c d : List ℕ} → Is ws a → Is ws b → Is ws c → Is ws d → Is object (around a 0x7B b ++ around c 0x7D d)
  of_members : {a b c d s : List ℕ} → Is ws a → Is ws b → Is member_list s → Is ws c → Is ws d
      → Is object (around a 0x7B b ++ (s ++ around c 0x7D d))
  last_member : {s : List ℕ} → Is member s → Is member_list s
  next_member : {a b m s : List ℕ} → Is member m → Is ws a → Is ws b → Is member_list s → Is member_list (m ++ (around a 0x2C b ++ s))
  -- "member = string name-separator value"
  a_member : {a b k v : List ℕ} → Is string k → Is ws a → Is ws b → Is value v → Is member (k ++ (around a 0x3A b ++ v))
  -- "array = begin-array [ value *( value-separator value ) ] end-array"
  empty_array : {a b c d : List ℕ} → Is ws a → Is ws b → Is ws c → Is ws d → Is array (around a 0x5B b ++ around c 0x5D d)
  of_values : {a b c d s : List ℕ} → Is ws a → Is ws b → Is value_list s → Is ws c → Is ws d
      → Is array (around a 0x5B b ++ (s ++ around c 0x5D d))
  last_value : {s : List ℕ} → Is value s → Is value_list s
  next_value : {a b v s : List ℕ} → Is value v → Is ws a → Is ws b → Is value_list s → Is value_list (v ++ (around a 0x2C b ++ s))
  -- "number = [ minus ] int [ frac ] [ exp ]"
  of_parts : {m i f e : List ℕ} → Minus m → Is int i → Is frac f → Is exp e → Is number (m ++ (i ++ (f ++ e)))
  -- "int = zero / ( digit1-9 *DIGIT )"
  zero : Is int (0x30 ∷ [])
  from_one : {b : ℕ} {s : List ℕ} → T (within 0x31 0x39 b) → Is digits s → Is int (b ∷ s)
  no_digits : Is digits []
  a_digit : {b : ℕ} {s : List ℕ} → T (digit b) → Is digits s → Is digits (b ∷ s)
  -- "frac = decimal-point 1*DIGIT", "exp = e [ minus / plus ] 1*DIGIT"; both may be absent
  no_frac : Is frac []
  a_frac : {b : ℕ} {s : List ℕ} → T (digit b) → Is digits s → Is frac (0x2E ∷ b ∷ s)
  no_exp : Is exp []
  an_exp : {e : ℕ} {p s : List ℕ} (b : ℕ) → T (eqb e 0x65 || eqb e 0x45) → Sign p → T (digit b) → Is digits s → Is exp (e ∷ (p ++ (b ∷ s)))
  -- "string = quotation-mark *char quotation-mark"
  marked : {s : List ℕ} → Is chars s → Is string (0x22 ∷ (s ++ (0x22 ∷ [])))
  no_chars : Is chars []
  a_char : {c s : List ℕ} → Is char c → Is chars s → Is chars (c ++ s)
  -- "char = unescaped / escape ( .. )": a character of more than one byte is past U+007F
  plain : {b : ℕ} → T (unescaped b) → Is char (b ∷ [])
  wide : {a b : ℕ} {s : List ℕ} → Char (a ∷ b ∷ s) → Is char (a ∷ b ∷ s)
  by_letter : {b : ℕ} → T (letter b) → Is char (0x5C ∷ b ∷ [])
  by_number : {a b c d : ℕ} → T (hexdig a) → T (hexdig b) → T (hexdig c) → T (hexdig d) → Is char (0x5C ∷ 0x75 ∷ a ∷ b ∷ c ∷ d ∷ [])
