-- 01, "Keys", and 02, §2 and §11: which numbers values stand for, when two of them are the same key, and why. Assumes nothing.
use Rattle.std.specs.Prelude.{ℕ, zero, suc, ◌+◌, ◌*◌, ◌/◌, ◌%◌, ◌^◌, Bool, true, false, ◌&&◌, List, eqb, ltb}
use Rattle.std.proofs.Math.Option.{Option, none, some}
use Rattle.tree.specs.Bytes.{same_bytes}
use Rattle.tree.specs.declared.Mode.{Mode}
use Rattle.tree.specs.declared.Mode.TheVariants.{Ordinary, Strict}
use Rattle.tree.specs.declared.Likeness.{Likeness}
use Rattle.tree.specs.declared.Likeness.TheVariants.{Different, SameForm, SameNumber}
use Rattle.tree.specs.Values.{Value, Sense, a_name, a_text, an_integer, a_float, unknown, sense, magnitude, little}

-- A binary64 with the sign clear, from its 64 bits: 52 bits of digits, above them the exponent's field.
-- Its value is a whole number of grains, the grain being 2 to the -1074; a field above 0 has a leading digit.
abbrev pub field : ℕ → ℕ
field b = b / 2 ^ 52

abbrev pub digits : ℕ → ℕ
digits b = b % 2 ^ 52

abbrev pub scaled : ℕ → ℕ → ℕ
scaled zero t = t
scaled (suc x) t = (2 ^ 52 + t) * 2 ^ x

abbrev pub grains : ℕ → ℕ
grains b = scaled (field b) (digits b)

-- neither infinity nor NaN (nor negative)
abbrev pub finite : ℕ → Bool
finite b = ltb (field b) 2047

abbrev pub only_if : Bool → ℕ → Option ℕ
only_if true n = some n
only_if false n = none

-- the whole number that a float is, if it is one
abbrev pub whole : ℕ → Option ℕ
whole b = only_if (finite b && eqb (grains b % 2 ^ 1074) 0) (grains b / 2 ^ 1074)

-- "A float that is a whole i32 is that integer"; strict, as 02, §2 amends it: "Every finite whole float equals its integer, however large;
-- an infinity equals only itself."
abbrev pub counts : Mode → ℕ → Bool
counts Ordinary n = ltb n (2 ^ 31)
counts Strict n = true

abbrev pub counted : Mode → Option ℕ → Option ℕ
counted m none = none
counted m (some n) = only_if (counts m n) n

abbrev pub number_as : Mode → Sense → List ℕ → Option ℕ
number_as m a_name bs = none
number_as m a_text bs = none
number_as m an_integer bs = some (magnitude bs)
number_as m a_float bs = counted m (whole (little bs))
number_as m unknown bs = none

-- the number that a value stands for as a key
abbrev pub number : Mode → Value → Option ℕ
number m v = number_as m (sense v.kind) v.bytes

abbrev pub formed_alike : Value → Value → Bool
formed_alike v w = eqb v.kind w.kind && same_bytes v.bytes w.bytes

abbrev pub same_numbers : Option ℕ → Option ℕ → Bool
same_numbers none o = false
same_numbers (some n) none = false
same_numbers (some n) (some k) = eqb n k

-- 02, §11: "The key test should say: different, same form, or same number in two forms."
abbrev pub likeness : Bool → Bool → Likeness
likeness true b = SameForm
likeness false true = SameNumber
likeness false false = Different

abbrev pub like : Mode → Value → Value → Likeness
like m v w = likeness (formed_alike v w) (same_numbers (number m v) (number m w))

abbrev pub alike : Likeness → Bool
alike Different = false
alike SameForm = true
alike SameNumber = true

abbrev pub same_key : Mode → Value → Value → Bool
same_key m v w = alike (like m v w)

-- 02, §11: "the first word of the third span is then 1 or 2"; different keys have no record, which would show their 0
abbrev pub reason : Likeness → ℕ
reason Different = 0
reason SameForm = 1
reason SameNumber = 2
