-- Laws of records written one after the other. Assumes nothing.
use Prim.Native.Nat.{ℕ, ◌+◌, ◌*◌, ◌/◌, ◌≤◌}
use native.Mathlib.Omega.{arith}
use mathlib.Core.Path.{◌≡◌, refl, ◌∙◌}
use mathlib.Core.List.{List, [], ◌∷◌, ◌++◌}
use mathlib.Core.Bool.{Bool, true, false}
use lib.ListN.{length, set, length-set}
use lib.Dec.{ltb}
use borrow.Author.Tests.{lt-ltb}
use Rattle.rules.specs.Record.{Rec, width, words}
use Rattle.rules.specs.Joined.{one_more, raise_all}
use Rattle.answer.specs.Page.{Page, lay, stored, write, writes}

pub writes_none : (p : Page) → writes p [] ≡ p
unfolding writes
writes_none p = refl

pub writes_one : (p : Page) (r : Rec) → writes p (r ∷ []) ≡ write p r
unfolding writes
writes_one p r = refl

pub writes_next : (p : Page) (r : Rec) (rs : List Rec) → writes p (r ∷ rs) ≡ writes (write p r) rs
unfolding writes
writes_next p r rs = refl

pub writes_append : (p : Page) (xs ys : List Rec) → writes p (xs ++ ys) ≡ writes (writes p xs) ys
unfolding writes
writes_append p [] ys = refl
writes_append p (x ∷ xs) ys = writes_append (write p x) xs ys

length_lay : (ws o : List ℕ) (a : ℕ) → length (lay o a ws) ≡ length o
unfolding lay
length_lay [] o a = refl
length_lay (w ∷ ws) o a = length_lay ws (set o a w) (a + 1) ∙ length-set o a w

pub length_stored : (o : List ℕ) (n : ℕ) (r : Rec) → length (stored o n r) ≡ length o
unfolding stored
length_stored o n r = go (ltb n (length o / width))
  where
    go : (b : Bool) → length {A = ℕ} (elim b [ true ↦ lay o (width * n) (words r) | false ↦ o ]) ≡ length o
    go true = length_lay (words r) o (width * n)
    go false = refl

pub writes_length : (p : Page) (rs : List Rec) → length (writes p rs).out ≡ length p.out
unfolding writes write
writes_length p [] = refl
writes_length p (r ∷ rs) = writes_length (write p r) rs ∙ length_stored p.out p.count r

-- each code's count is raised by its records
pub writes_tally : (p : Page) (rs : List Rec) → (writes p rs).tally ≡ raise_all rs p.tally
unfolding writes write raise_all
writes_tally p [] = refl
writes_tally p (r ∷ rs) = writes_tally (write p r) rs

-- far from the largest count every record counts
pub writes_count : (p : Page) (rs : List Rec) → p.count + length rs ≤ 18446744073709551615 → (writes p rs).count ≡ p.count + length rs
unfolding writes write
writes_count p [] h = omega arith
writes_count p (r ∷ rs) h =
    let z : one_more p.count ≡ p.count + 1 = rw (lt-ltb p.count 18446744073709551615 (omega arith)) in
    writes_count (write p r) rs (omega (arith, z)) ∙ omega (arith, z)
