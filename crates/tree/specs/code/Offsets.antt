-- What private functions promise, by offsets and in 64 bits; proofs/Link ties it to the definitions of Values. Assumes nothing.
use Rattle.std.specs.Prelude.{ℕ, zero, suc, ◌+◌, ◌*◌, ◌≡◌, ◌≤◌, ◌⊎◌, List, length, Bool, true, false, ◌&&◌, ◌||◌, not, get_or, leb, ltb, eqb}
use Rattle.tree.specs.Bytes.{u16_at, u32_at, pick}

unfoldable pub u64_at : List ℕ → ℕ → ℕ
u64_at s at = u32_at s at + 4294967296 * u32_at s (at + 4)

-- o stands for place p of the bytes t: it is p, or both are past the end
abbrev pub Place : List ℕ → ℕ → ℕ → Type 0
Place t p o = (o ≡ p) ⊎ ((length t ≤ p) × (length t ≤ o))

-- of a value that starts at o: its kind, and its length as written
abbrev pub kind_of : List ℕ → ℕ → ℕ
kind_of t o = get_or t o 0

abbrev pub len_of : List ℕ → ℕ → ℕ
len_of t o = u16_at t (o + 1)

abbrev pub integer_ok : List ℕ → ℕ → Bool
integer_ok t o = leb (len_of t o) 64 && (eqb (len_of t o) 0 || not (eqb (get_or t (o + 3) 0) 0))

abbrev pub float_ok : List ℕ → ℕ → Bool
float_ok t o = eqb (len_of t o) 8 && leb (u64_at t (o + 3)) 9218868437227405312

unfoldable pub formed_at : List ℕ → ℕ → Bool
formed_at t o =
    leb (len_of t o) 255
    && pick (eqb (kind_of t o) 0) (leb 1 (len_of t o))
    (pick (leb (kind_of t o) 2) true
    (pick (eqb (kind_of t o) 3) (integer_ok t o)
    (pick (eqb (kind_of t o) 4) (float_ok t o) false)))

-- of k bytes from a and from b, the first that differ are less and greater
unfoldable pub bytes_less : ℕ → List ℕ → ℕ → ℕ → Bool
bytes_less zero t a b = false
bytes_less (suc k) t a b =
    elim (ltb (get_or t a 0) (get_or t b 0)) [
      | true ↦ true
      | false ↦ elim (ltb (get_or t b 0) (get_or t a 0)) [ true ↦ false | false ↦ bytes_less k t (a + 1) (b + 1) ]
    ]

-- the value at a stands before the one at b
unfoldable pub ordered_at : List ℕ → ℕ → ℕ → Bool
ordered_at t a b =
    pick (ltb (kind_of t a) (kind_of t b)) true
    (pick (ltb (kind_of t b) (kind_of t a)) false
    (pick (ltb (len_of t a) (len_of t b)) true
    (pick (ltb (len_of t b) (len_of t a)) false (bytes_less (len_of t a) t (a + 3) (b + 3)))))
