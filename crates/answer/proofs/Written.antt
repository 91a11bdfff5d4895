-- Where there is room for all, the records stand at the front and the words past them stay. Assumes nothing.
use Prim.Native.Nat.{ℕ, zero, suc, ◌+◌, ◌*◌, ◌/◌, ◌≤◌, ◌<◌}
use native.Mathlib.Omega.{arith}
use native.Mathlib.Nat.{le-div_iff_mul-le}
use native.Mathlib.Numerals.{add-one}
use mathlib.Core.Path.{◌≡◌, refl, sym, ap, ◌∙◌}
use mathlib.Core.List.{List, [], ◌∷◌, ◌++◌, append_assoc}
use lib.ListN.{length, set, take, drop, length-append, length-drop, take-append-drop}
use lib.Seq.{length-take-le}
use borrow.Rule.Slice.PartMut.{put_mid}
use borrow.Author.Tests.{lt-ltb}
use Rattle.rules.specs.Record.{Rec, width, words, all_words}
use Rattle.rules.specs.Joined.{one_more, raise}
use Rattle.answer.specs.Page.{Page, lay, stored, write, writes}

set_right : (xs ys : List ℕ) (k i v : ℕ) → i ≡ length xs + k → set (xs ++ ys) i v ≡ xs ++ set ys k v
set_right [] ys k i v e = let q : i ≡ k = omega arith in rw q
set_right (x ∷ xs) ys k i v e =
    let q : i ≡ suc (length xs + k) = omega arith in
    rw q (ap (λ (l : List ℕ). x ∷ l) (set_right xs ys k (length xs + k) v refl))

lay_right : (ws xs ys : List ℕ) (a b : ℕ) → a ≡ length xs + b → lay (xs ++ ys) a ws ≡ xs ++ lay ys b ws
unfolding lay
lay_right [] xs ys a b e = refl
lay_right (w ∷ ws) xs ys a b e =
    rw (set_right xs ys b a w e) (lay_right ws xs (set ys b w) (a + 1) (b + 1) (omega arith))

lay_front : (ws ys : List ℕ) → length ws ≤ length ys → lay ys 0 ws ≡ ws ++ drop (length ws) ys
unfolding lay
lay_front [] ys h = refl
lay_front (w ∷ ws) [] h = absurd (omega arith)
lay_front (w ∷ ws) (y ∷ ys) h =
    lay_right ws (w ∷ []) ys 1 0 (omega arith) ∙ ap (λ (l : List ℕ). w ∷ l) (lay_front ws ys (omega arith))

drop_drop : (a b : ℕ) (xs : List ℕ) → drop a (drop b xs) ≡ drop (b + a) xs
drop_drop a zero xs = let q : 0 + a ≡ a = omega arith in rw q
drop_drop a (suc b) [] = let q : suc b + a ≡ suc (b + a) = omega arith in rw q (drop_nil a)
  where
    drop_nil : (n : ℕ) → drop {A = ℕ} n [] ≡ []
    drop_nil zero = refl
    drop_nil (suc n) = refl
drop_drop a (suc b) (x ∷ xs) = let q : suc b + a ≡ suc (b + a) = omega arith in rw q (drop_drop a b xs)

-- one record after n records, which fill xs
write_at : (xs ys : List ℕ) (n : ℕ) (y : List ℕ) (r : Rec) → length xs ≡ width * n → width ≤ length ys → n < 18446744073709551615
    → write (record { out = xs ++ ys; count = n; tally = y }) r
    ≡ record { out = (xs ++ words r) ++ drop width ys; count = suc n; tally = raise r.code y }
unfolding write stored
write_at xs ys n y r e h m =
    let l : n < length (xs ++ ys) / width = (le-div_iff_mul-le {k = width} {x = suc n} {y = length (xs ++ ys)} (omega arith)).1 (rw length-append (omega arith)) in
    let z : one_more n ≡ suc n = rw (lt-ltb n 18446744073709551615 m, add-one) in
    let f : lay (xs ++ ys) (width * n) (words r) ≡ (xs ++ words r) ++ drop width ys
    = lay_right (words r) xs ys (width * n) 0 (omega arith) ∙ ap (λ (l : List ℕ). xs ++ l) (lay_front (words r) ys h) ∙ sym (append_assoc xs (words r) (drop width ys)) in
    let q : stored (xs ++ ys) n r ≡ (xs ++ words r) ++ drop width ys = rw (lt-ltb n (length (xs ++ ys) / width) l, stored) f in
    rw (q, z)

writes_at : (xs ys : List ℕ) (n : ℕ) (y : List ℕ) (rs : List Rec) → length xs ≡ width * n → width * length rs ≤ length ys → n + length rs ≤ 18446744073709551615
    → (writes (record { out = xs ++ ys; count = n; tally = y }) rs).out ≡ xs ++ (all_words rs ++ drop (width * length rs) ys)
unfolding writes
writes_at xs ys n y [] e h m = refl
writes_at xs ys n y (r ∷ rs) e h m =
    let d : width + width * length rs ≡ width * suc (length rs) = omega arith in
    ap (λ (p : Page). (writes p rs).out) (write_at xs ys n y r e (omega arith) (omega arith))
    ∙ writes_at (xs ++ words r) (drop width ys) (suc n) (raise r.code y) rs (rw length-append (omega arith)) (rw length-drop (omega arith)) (omega arith)
    ∙ rw (drop_drop (width * length rs) width ys, d) (append_assoc xs (words r) (all_words rs ++ drop (width * suc (length rs)) ys) ∙ ap (λ (l : List ℕ). xs ++ l) (sym (append_assoc (words r) (all_words rs) (drop (width * suc (length rs)) ys))))

pub written : (o : List ℕ) (y : List ℕ) (rs : List Rec) → width * length rs ≤ length o → length rs ≤ 18446744073709551615
    → (writes (record { out = o; count = 0; tally = y }) rs).out ≡ all_words rs ++ drop (width * length rs) o
written o y rs h m = writes_at [] o 0 y rs refl h (omega arith)

-- the words ws in the place of as many, from word a on
pub laid : (ws o : List ℕ) (a k : ℕ) → k ≡ length ws → a + length ws ≤ length o → lay o a ws ≡ put_mid a k o ws
laid ws o a k e h =
    let w : length (take a o) ≡ a = length-take-le a o (omega arith) in
    let l : length ws ≤ length (drop a o) = rw length-drop (omega arith) in
    ap (λ (x : List ℕ). lay x a ws) (sym (take-append-drop a o))
    ∙ lay_right ws (take a o) (drop a o) a 0 (omega (arith, w))
    ∙ ap (λ (x : List ℕ). take a o ++ x) (lay_front ws (drop a o) l)
    ∙ ap (λ (n : ℕ). take a o ++ (ws ++ drop n (drop a o))) (sym e)
