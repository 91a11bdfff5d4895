-- The table of values of a file, what a value number stands for; the globals. Refusals 5 and 9. Assumes nothing.
use Rattle.std.specs.Prelude.{ℕ, zero, suc, ◌+◌, ◌*◌, ◌-◌, Bool, true, false, ◌&&◌, ◌||◌, not, List, [], ◌∷◌, leb, ltb, eqb, get_or}
use Rattle.std.proofs.Math.Option.{Option, none, some}
use Rattle.tree.specs.Bytes.{u16_at, node_at, node_count, value_count, global_count, pick}
use Rattle.tree.specs.Values.{Value, formed, precedes, value_from, after, offset}
use Rattle.tree.specs.Keys.{formed_alike}

-- the k values that start at o
abbrev pub values_from : ℕ → List ℕ → ℕ → List Value
values_from zero t o = []
values_from (suc k) t o = value_from t o ∷ values_from k t (after t o)

abbrev pub table_of : List ℕ → List Value
table_of t = values_from (value_count t) t (node_at (node_count t))

-- value number v; a number beyond the table has a kind that no value has
abbrev pub no_value : Value
no_value = record { kind = 5; bytes = [] }

abbrev pub at : List Value → ℕ → Value
at vs v = get_or vs v no_value

-- a name; a string, bytes, an integer or a float
abbrev pub is_name : List Value → ℕ → Bool
is_name vs v = eqb (at vs v).kind 0

abbrev pub is_literal : List Value → ℕ → Bool
is_literal vs v = leb 1 (at vs v).kind && leb (at vs v).kind 4

-- 5: value i has a wrong form, or does not follow the one before it
unfoldable pub wrong_value : List Value → ℕ → Bool
wrong_value vs i = not (formed (at vs i)) || (ltb 0 i && not (precedes (at vs (i - 1)) (at vs i)))

-- a value is the name of these bytes
abbrev pub named_so : List ℕ → Value → Bool
named_so bs v = formed_alike v (record { kind = 0; bytes = bs })

-- value number v is the name of these bytes
abbrev pub spells : List Value → List ℕ → ℕ → Bool
spells vs bs v = named_so bs (at vs v)

-- value number v is a string
abbrev pub a_string : List Value → ℕ → Bool
a_string vs v = eqb (at vs v).kind 1

-- the first byte is an underscore, 0x5F
abbrev pub led_by : List ℕ → Bool
led_by [] = false
led_by (b ∷ bs) = eqb b 0x5F

-- value number v is a name that begins with one
abbrev pub underscored : List Value → ℕ → Bool
underscored vs v = eqb (at vs v).kind 0 && led_by (at vs v).bytes

-- globals in the file: 65535 is none, and says that they are not given
abbrev pub listed : ℕ → ℕ
listed g = pick (eqb g 65535) 0 g

-- where the globals start; global i
abbrev pub globals_from : List ℕ → ℕ
globals_from t = offset t (node_count t) (value_count t)

abbrev pub global : List ℕ → ℕ → ℕ
global t i = u16_at t (globals_from t + 2 * i)

-- 9: global i is no name, or not above the one before it
unfoldable pub wrong_global : List ℕ → ℕ → Bool
wrong_global t i = not (is_name (table_of t) (global t i)) || (ltb 0 i && leb (global t i) (global t (i - 1)))

-- v is one of the k numbers that start at o
abbrev pub listed_from : ℕ → List ℕ → ℕ → ℕ → Bool
listed_from zero t o v = false
listed_from (suc k) t o v = eqb (u16_at t o) v || listed_from k t (o + 2) v

-- v is one of the globals that the file lists
abbrev pub is_global : List ℕ → ℕ → Bool
is_global t v = listed_from (listed (global_count t)) t (globals_from t) v

-- the globals, where they are given
abbrev pub unless : Bool → (ℕ → Bool) → Option (ℕ → Bool)
unless true p = none
unless false p = some p

abbrev pub globals_of : List ℕ → Option (ℕ → Bool)
globals_of t = unless (eqb (global_count t) 65535) (is_global t)
