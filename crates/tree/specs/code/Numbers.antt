-- What the lookups promise: fixed names, traits and keys by value numbers. Assumes nothing.
use Rattle.std.specs.Prelude.{ℕ, ◌*◌, ◌^◌, ◌≤◌, ◌<◌, ◌≡◌, Bool, true, false, ◌&&◌, List, ◌⊎◌, eqb, ltb, length, get_or}
use Rattle.std.proofs.Math.Option.{Option, none, some}
use Rattle.tree.specs.Bytes.{node_count, value_count, pick}
use Rattle.tree.specs.Search.{lowest}
use Rattle.tree.specs.Values.{Value, magnitude, little, offset}
use Rattle.tree.specs.Keys.{whole, counted, likeness}
use Rattle.tree.specs.Table.{table_of, at, spells}
use Rattle.tree.specs.code.Halving.{halved}
use Rattle.tree.specs.declared.Mode.{Mode}
use Rattle.tree.specs.declared.Likeness.{Likeness}
use Rattle.tree.specs.declared.floats.Spelled.{Spelled}
use Rattle.std.specs.Prelude.{Option as Maybe, Some, None}
use Rattle.std.specs.declared.cmp.Ordering.{Ordering}
use Rattle.std.specs.declared.cmp.Ordering.TheVariants.{Less, Equal, Greater}

-- a place, if it is below n
abbrev pub below_or : ℕ → ℕ → ℕ → ℕ
below_or place n other = pick (ltb place n) place other

-- the number of the name of these bytes; 65536, which is no value's number, where the file has no such name
unfoldable pub number_named : List ℕ → List ℕ → ℕ
number_named t bs = below_or (lowest (value_count t) (spells (table_of t) bs)) (value_count t) 65536

-- a table of what holds of the value numbers below 512
abbrev pub Traits : (ℕ → Bool) → List Bool → Type 0
Traits f table = (v : ℕ) → v < 512 → get_or table v false ≡ f v

-- a table of where each value of the file t starts, 0 past the last
pub record Starts (t table : List ℕ) : Type 0 where
  pub long : length table ≡ 512
  pub at_each : (v : ℕ) → v < 512 → get_or table v 0 ≡ pick (ltb v (value_count t)) (offset t (node_count t) v) 0

-- a value is the integer n; value number u is
abbrev pub integer_is : ℕ → Value → Bool
integer_is n v = eqb v.kind 3 && eqb (magnitude v.bytes) n

abbrev pub is_integer : List Value → ℕ → ℕ → Bool
is_integer vs n u = integer_is n (at vs u)

-- the number that a float of 8 bytes counts as
abbrev pub if_so : Bool → Option ℕ → Option ℕ
if_so true o = o
if_so false o = none

abbrev pub float_number : Mode → Value → Option ℕ
float_number m v = if_so (eqb v.kind 4 && eqb (length v.bytes) 8) (counted m (whole (little v.bytes)))

-- a whole number as the code has it: its first bytes as one number, then zero bytes
abbrev pub valued : Spelled → ℕ
valued w = w.head * 256 ^ w.zeros

abbrev pub meant : Maybe Spelled → Option ℕ
meant (Some w) = some (valued w)
meant None = none

-- one byte more than the head fits into 64 bits; only a head of 53 digits or more has zeros
pub record Fit (w : Spelled) : Type 0 where
  pub head_low : w.head < 2 ^ 60
  pub zeros_low : w.zeros < 128
  pub head_high : (w.zeros ≡ 0) ⊎ (2 ^ 52 ≤ w.head)

abbrev pub Fits : Maybe Spelled → Type 0
Fits (Some w) = Fit w
Fits None = Unit

abbrev pub below : Ordering → Bool
below Less = true
below Equal = false
below Greater = false

abbrev pub level : Ordering → Bool
level Less = false
level Equal = true
level Greater = false

abbrev pub side_of : ℕ → ℕ → Ordering
side_of n k = pick (ltb k n) Less (pick (eqb k n) Equal Greater)

-- where a value stands to the integer n: other kinds before the integers, or behind them
abbrev pub placed : ℕ → Value → Ordering
placed n v = pick (ltb v.kind 3) Less (pick (ltb 3 v.kind) Greater (side_of n (magnitude v.bytes)))

-- value number u stands before the integer n
abbrev pub short_of : List Value → ℕ → ℕ → Bool
short_of vs n u = below (placed n (at vs u))

-- where the integer n stands among the values before v, if it does
abbrev pub sought : List Value → ℕ → ℕ → ℕ
sought vs v n = halved v (short_of vs n)

abbrev pub lead : List Value → ℕ → Option ℕ → ℕ
lead vs v none = v
lead vs v (some n) = pick (is_integer vs n (sought vs v n)) (sought vs v n) v

-- The value number that stands for value v as a key: for a float that counts as an integer of the table, that integer's, for any other
-- value its own. proofs/KeyTable: in a valid file two keys are the same exactly if these are.
unfoldable pub key_number : Mode → List Value → ℕ → ℕ
key_number m vs v = lead vs v (float_number m (at vs v))

-- each value number below 512 standing for itself
pub record OwnNumbers (table : List ℕ) : Type 0 where
  pub long : length table ≡ 512
  pub at_each : (v : ℕ) → v < 512 → get_or table v 0 ≡ v

-- a table of key numbers, for the value numbers below 512
abbrev pub KeyNumbers : List ℕ → Mode → List ℕ → Type 0
KeyNumbers t m table = (v : ℕ) → v < 512 → get_or table v 0 ≡ key_number m (table_of t) v

-- 02, §11, by value numbers: the same form is one value number, the same key one number in the table. proofs/KeyTable: of a valid file
-- and its table this is what Keys' `like` says of the two values.
unfoldable pub like_by : List ℕ → ℕ → ℕ → Likeness
like_by table a b = likeness (eqb a b) (eqb (get_or table a 0) (get_or table b 0))
