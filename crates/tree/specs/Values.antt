-- 01, "Value: ..": what a value is, its form, the order of two, where it stands. Assumes nothing.
use Rattle.std.specs.Prelude.{ℕ, zero, suc, ◌+◌, ◌*◌, ◌^◌, List, [], ◌∷◌, Bool, true, false, cond, ◌&&◌, ◌||◌, not, length, get_or, leb, ltb, eqb}
use Rattle.tree.specs.Bytes.{bytes_from, u16_at, node_at}

-- kinds: 0 name, 1 string, 2 bytes, 3 integer, 4 float
pub record Value : Type 0 where
  pub kind : ℕ
  pub bytes : List ℕ

pub data Sense : Type 0 where
  a_name a_text an_integer a_float unknown : Sense

abbrev pub sense : ℕ → Sense
sense k = cond (eqb k 0) a_name (cond (leb k 2) a_text (cond (eqb k 3) an_integer (cond (eqb k 4) a_float unknown)))

-- after the digits a, the digits of base 256 that follow, high byte first
abbrev pub onward : ℕ → List ℕ → ℕ
onward a [] = a
onward a (b ∷ bs) = onward (a * 256 + b) bs

-- an integer: a magnitude, high byte first
abbrev pub magnitude : List ℕ → ℕ
magnitude bs = onward 0 bs

-- any other number of the file: little-endian
abbrev pub little : List ℕ → ℕ
little [] = 0
little (b ∷ bs) = b + 256 * little bs

-- "no leading zero byte, empty for 0"
abbrev pub no_zero_first : List ℕ → Bool
no_zero_first [] = true
no_zero_first (b ∷ bs) = not (eqb b 0)

-- "0 name (not empty), 1 string, 2 bytes, 3 integer (.., at most 64 bytes), 4 float (8 bytes of binary64, sign clear, not NaN)":
-- sign clear and no NaN is at most infinity, as a number of 64 bits
abbrev pub form_as : Sense → List ℕ → Bool
form_as a_name bs = leb 1 (length bs)
form_as a_text bs = true
form_as an_integer bs = leb (length bs) 64 && no_zero_first bs
form_as a_float bs = eqb (length bs) 8 && leb (little bs) (2047 * 2 ^ 52)
form_as unknown bs = false

-- "Length at most 255."
unfoldable pub formed : Value → Bool
formed v = leb (length v.bytes) 255 && form_as (sense v.kind) v.bytes

abbrev pub bytes_before : List ℕ → List ℕ → Bool
bytes_before [] [] = false
bytes_before [] (c ∷ cs) = true
bytes_before (b ∷ bs) [] = false
bytes_before (b ∷ bs) (c ∷ cs) = ltb b c || (eqb b c && bytes_before bs cs)

-- of one kind: by length, then bytes
abbrev pub by_length : List ℕ → List ℕ → Bool
by_length bs cs = ltb (length bs) (length cs) || (eqb (length bs) (length cs) && bytes_before bs cs)

-- "Values ascend strictly by kind, length, bytes."
unfoldable pub precedes : Value → Value → Bool
precedes v w = ltb v.kind w.kind || (eqb v.kind w.kind && by_length v.bytes w.bytes)

-- the value that starts at o: its kind, its length in two bytes, its bytes
abbrev pub value_from : List ℕ → ℕ → Value
value_from t o = record { kind = get_or t o 0; bytes = bytes_from (u16_at t (o + 1)) t (o + 3) }

-- where the value after the one at o starts
abbrev pub after : List ℕ → ℕ → ℕ
after t o = o + 3 + u16_at t (o + 1)

-- where value i starts, in a file of n nodes
unfoldable pub offset : List ℕ → ℕ → ℕ → ℕ
offset t n zero = node_at n
offset t n (suc i) = after t (offset t n i)
