-- A short name copied into 26 bytes, and numbers that are no code. Assumes nothing.
use Prim.Native.Nat.{ℕ, zero, suc, ◌+◌, ◌-◌, ◌≤◌, ◌<◌}
use native.Mathlib.Omega.{arith}
use native.Mathlib.Nat.{zero-add}
use native.Mathlib.Numerals.{add-one}
use Prim.Native.String.{String, [] as end, ◌∷◌ as ◌then◌}
use mathlib.Core.Bool.{Bool, true, false, ◌||◌}
use mathlib.Core.Path.{◌≡◌, refl, ap, ◌∙◌}
use mathlib.Core.List.{List, [], ◌∷◌, ◌++◌}
use lib.ListN.{length, take, drop, get_or, set, replicate}
use lib.Seq.{paste-suc, take-length}
use lib.Dec.{leb, leb→le, T}
use borrow.Author.Tests.{lt-leb}
use Rattle.rules.specs.Visit.{look}
use Rattle.base.specs.Ascii.{ascii}
use Rattle.rules.specs.Codes.{short_names, short_name}
use Rattle.base.proofs.Bools.{or_right}
use Rattle.rules.proofs.Look.{look_so}
use Rattle.codes.proofs.Pieced.{Piece, pieces, letters, begins_from}
use Rattle.rules.specs.Joined.{codes}

-- a turn of the copy of s over d
pub copy_next : (d s : List ℕ) (k : ℕ) → k < length d → k < length s
    → set (take k s ++ drop k d) k (get_or s k 0) ≡ take (k + 1) s ++ drop (k + 1) d
copy_next d s k h g =
    let p = paste-suc d 0 s k 0 (rw zero-add h) g in
    rw add-one (simp zero-add at p)

zeros_left : (n m : ℕ) → drop {A = ℕ} n (replicate m 0) ≡ replicate (m - n) 0
zeros_left zero m = let e : m - 0 ≡ m = omega arith in rw e
zeros_left (suc n) zero = let e : 0 - suc n ≡ 0 = omega arith in rw e
zeros_left (suc n) (suc m) = let e : suc m - suc n ≡ m - n = omega arith in zeros_left n m ∙ rw e

pub copied : (s : List ℕ) → take (length s) s ++ drop (length s) (replicate 26 0) ≡ s ++ replicate (26 - length s) 0
copied s = rw (take-length, zeros_left)

-- no code is above 17
empty : String → Bool
empty end = true
empty (c then s) = false

is_empty : (s : String) → T (empty s) → s ≡ ""
unfolding empty
is_empty end t = refl
is_empty (c then s) t = absurd t

pub no_name : (c : ℕ) → codes < c → short_name c ≡ []
unfolding short_name empty
no_name c h =
    let e : leb c codes ≡ false = lt-leb c codes h in
    let t : T (leb c codes || empty (look c short_names ""))
    = look_so (λ n s. leb n codes || empty s) c short_names "" tt (or_right (leb c codes) true tt) in
    ap ascii (is_empty (look c short_names "") (rw e at t))

-- names as pieces of the code's text
pub name_piece : (c : ℕ) → c ≤ codes → Piece (letters short_names) (0 ∷ begins_from 0 short_names) c (short_name c)
unfolding short_name
name_piece c h = pieces (letters short_names) (0 ∷ begins_from 0 short_names) short_name (suc codes) tt c (omega arith)

pub short_most : (c : ℕ) → length (short_name c) ≤ 26
unfolding short_name
short_most c = leb→le (length (short_name c)) 26 (look_so (λ n s. leb (length (ascii s)) 26) c short_names "" tt tt)
