-- Fixed byte strings, little-endian numbers, the header and the fields of a node. Past the end every byte is 0. Assumes nothing.
use Rattle.std.specs.Prelude.{ℕ, zero, suc, ◌+◌, ◌*◌, List, [], ◌∷◌, Bool, true, false, ◌&&◌, eqb, length, get_or}
pub use Rattle.base.specs.Ascii.{ascii}

abbrev pub same_bytes : List ℕ → List ℕ → Bool
same_bytes [] [] = true
same_bytes [] (c ∷ cs) = false
same_bytes (b ∷ bs) [] = false
same_bytes (b ∷ bs) (c ∷ cs) = eqb b c && same_bytes bs cs

-- the k bytes from o on
abbrev pub bytes_from : ℕ → List ℕ → ℕ → List ℕ
bytes_from zero t o = []
bytes_from (suc k) t o = get_or t o 0 ∷ bytes_from k t (o + 1)

-- "A fixed byte string is compared at the start; names fail, type and None are compared alike": the bytes from o on are these
abbrev pub stands_at : List ℕ → ℕ → List ℕ → Bool
stands_at t o bs = same_bytes (bytes_from (length bs) t o) bs

-- "The mark is the three bytes SLT, then a 16-bit version"
abbrev pub mark : List ℕ
mark = ascii "SLT"

unfoldable pub u16_at : List ℕ → ℕ → ℕ
u16_at s at = get_or s at 0 + 256 * get_or s (at + 1) 0

unfoldable pub u32_at : List ℕ → ℕ → ℕ
u32_at s at = u16_at s at + 65536 * u16_at s (at + 2)

-- the header, after the mark: the version; how many nodes, values and globals (65535: globals not given)
unfoldable pub version_of : List ℕ → ℕ
version_of t = u16_at t 3

unfoldable pub node_count : List ℕ → ℕ
node_count t = u16_at t 5

unfoldable pub value_count : List ℕ → ℕ
value_count t = u16_at t 7

unfoldable pub global_count : List ℕ → ℕ
global_count t = u16_at t 9

-- where node i starts
abbrev pub node_at : ℕ → ℕ
node_at i = 11 + 16 * i

unfoldable pub kind_at : List ℕ → ℕ → ℕ
kind_at t i = get_or t (node_at i + 0) 0

unfoldable pub role_at : List ℕ → ℕ → ℕ
role_at t i = get_or t (node_at i + 1) 0

unfoldable pub size_at : List ℕ → ℕ → ℕ
size_at t i = u16_at t (node_at i + 2)

unfoldable pub begin_at : List ℕ → ℕ → ℕ
begin_at t i = u32_at t (node_at i + 4)

unfoldable pub end_at : List ℕ → ℕ → ℕ
end_at t i = u32_at t (node_at i + 8)

unfoldable pub value_at : List ℕ → ℕ → ℕ
value_at t i = u16_at t (node_at i + 12)

unfoldable pub last_at : List ℕ → ℕ → ℕ
last_at t i = u16_at t (node_at i + 14)

abbrev pub pick : {A : Type 0} → Bool → A → A → A
pick true a b = a
pick false a b = b
