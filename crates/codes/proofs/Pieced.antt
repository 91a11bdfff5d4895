-- Words that stand one after another in one text, each from where it begins to where the next begins. Assumes nothing.
use Prim.Native.Nat.{ℕ, zero, suc, ◌+◌, ◌-◌, ◌≤◌, ◌<◌}
use Prim.Native.String.{String}
use native.Mathlib.Omega.{arith}
use native.Mathlib.Decide.{dec_lt}
use mathlib.Core.Path.{◌≡◌}
use mathlib.Core.Bool.{Bool, true, ◌&&◌}
use mathlib.Core.List.{List, [], ◌∷◌, ◌++◌}
use lib.Dec.{T, leb, leb→le}
use lib.ListN.{length, take, drop, get_or}
use Rattle.tree.specs.Bytes.{same_bytes}
use Rattle.tree.proofs.KeyLaws.{same-bytes→eq}
use Rattle.base.specs.Ascii.{ascii}
use Rattle.base.proofs.Bools.{and_left, and_right}

-- a test at each number below n
abbrev below : ℕ → (ℕ → Bool) → Bool
below zero f = true
below (suc n) f = f n && below n f

at : (n : ℕ) (f : ℕ → Bool) → T (below n f) → (k : ℕ) → k < n → T (f k)
at zero f t k h = absurd (omega arith)
at (suc n) f t k h = go (dec_lt k n) (λ l. at n f (and_right (f n) (below n f) t) k l)
  where
    go : Dec (k < n) → (k < n → T (f k)) → T (f k)
    go (yes l) g = g l
    go (no l) g = let q : k ≡ n = omega arith in rw q (and_left (f n) (below n f) t)

abbrev pub piece : List ℕ → List ℕ → ℕ → List ℕ
piece s begins k = take (get_or begins (k + 1) 0 - get_or begins k 0) (drop (get_or begins k 0) s)

-- piece k is what f says
abbrev pub right : List ℕ → List ℕ → (ℕ → List ℕ) → ℕ → Bool
right s begins f k =
    leb (get_or begins k 0) (get_or begins (k + 1) 0) && (leb (get_or begins (k + 1) 0) (length s) && same_bytes (piece s begins k) (f k))

pub record Piece (s begins : List ℕ) (k : ℕ) (w : List ℕ) : Type 0 where
  pub ordered : get_or begins k 0 ≤ get_or begins (k + 1) 0
  pub inside : get_or begins (k + 1) 0 ≤ length s
  pub is : piece s begins k ≡ w

pub pieces : (s begins : List ℕ) (f : ℕ → List ℕ) (n : ℕ) → T (below n (right s begins f)) → (k : ℕ) → k < n → Piece s begins k (f k)
pieces s begins f n t k h =
    let a = leb (get_or begins k 0) (get_or begins (k + 1) 0) in
    let b = leb (get_or begins (k + 1) 0) (length s) in
    let c = same_bytes (piece s begins k) (f k) in
    let u : T (a && (b && c)) = at n (right s begins f) t k h in
    let v : T (b && c) = and_right a (b && c) u in
    record {
      ordered = leb→le (get_or begins k 0) (get_or begins (k + 1) 0) (and_left a (b && c) u);
      inside = leb→le (get_or begins (k + 1) 0) (length s) (and_left b c v);
      is = same-bytes→eq (piece s begins k) (f k) (and_right b c v);
    }

-- the words of a table, one after another, and where each begins
abbrev pub letters : List (ℕ × String) → List ℕ
letters [] = []
letters (e ∷ es) = ascii e.1 ++ letters es

abbrev pub begins_from : ℕ → List (ℕ × String) → List ℕ
begins_from n [] = n ∷ []
begins_from n (e ∷ es) = n ∷ begins_from (n + length (ascii e.1)) es
