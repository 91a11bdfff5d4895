-- Laws of bytes written one after the other. Assumes nothing.
use Prim.Native.Nat.{ℕ, suc, ◌+◌, ◌≤◌, ◌<◌, min}
use native.Mathlib.Omega.{arith}
use native.Mathlib.Numerals.{add-one}
use mathlib.Core.Path.{◌≡◌, refl, sym, ap, ap₂, subst, ◌∙◌}
use mathlib.Core.Bool.{Bool, true, false, cond}
use mathlib.Core.List.{List, [], ◌∷◌, ◌++◌, append_assoc, append-nil}
use lib.ListN.{length, set, take, drop, length-set, length-append, length-drop, take-append-drop}
use lib.Seq.{set-append_seam, set_out, take-append_seam, length-take-le}
use lib.Dec.{ltb}
use borrow.Author.Tests.{lt-ltb, ltb-true, ltb-false}
use Rattle.base.specs.Count.{one_more}
use Rattle.page.specs.Page.{Page, page, write, writes, Wrote, Added}
use Rattle.page.specs.declared.Writer.{Writer}

pub writes_append : (p : Page) (a b : List ℕ) → writes p (a ++ b) ≡ writes (writes p a) b
unfolding writes
writes_append p [] b = refl
writes_append p (x ∷ a) b = writes_append (write p x) a b

pub writes_length : (p : Page) (s : List ℕ) → length (writes p s).out ≡ length p.out
unfolding writes write
writes_length p [] = refl
writes_length p (b ∷ s) = writes_length (write p b) s ∙ length-set p.out p.count b

-- below the largest number one more is one more
one_more_below : (n : ℕ) → n < 18446744073709551615 → one_more n ≡ suc n
one_more_below n h = rw (lt-ltb n 18446744073709551615 h, add-one)

one_more_most : (n : ℕ) → one_more n ≤ n + 1
one_more_most n = go (ltb n 18446744073709551615)
  where
    go : (t : Bool) → cond t (n + 1) n ≤ n + 1
    go true = omega arith
    go false = omega arith

one_more_min : (n : ℕ) → n ≤ 18446744073709551615 → min (n + 1) 18446744073709551615 ≡ one_more n
one_more_min n h = go (ltb n 18446744073709551615) refl
  where
    go : (t : Bool) → ltb n 18446744073709551615 ≡ t → min (n + 1) 18446744073709551615 ≡ one_more n
    go true e = let l = ltb-true n 18446744073709551615 e in rw (lt-ltb n 18446744073709551615 l) (omega arith)
    go false e = let l = ltb-false n 18446744073709551615 e in rw e (omega arith)

-- the bytes xs are written, and there is room for s
written_after : (s xs ys : List ℕ) → length s ≤ length ys → length xs + length s ≤ 18446744073709551615
    → writes (page (xs ++ ys) (length xs)) s ≡ page (xs ++ (s ++ drop (length s) ys)) (length xs + length s)
unfolding writes write
written_after [] xs ys h m = let z : length xs + 0 ≡ length xs = omega arith in rw z
written_after (b ∷ s) xs [] h m = absurd (omega arith)
written_after (b ∷ s) xs (y ∷ ys) h m =
    let l : length (xs ++ (b ∷ [])) ≡ suc (length xs) = rw length-append (omega arith) in
    let z : length (xs ++ (b ∷ [])) + length s ≡ length xs + suc (length s) = omega arith in
    ap (λ (o : List ℕ). writes (page o (one_more (length xs))) s) (set-append_seam xs y ys b ∙ sym (append_assoc xs (b ∷ []) ys))
    ∙ ap (λ (k : ℕ). writes (page ((xs ++ (b ∷ [])) ++ ys) k) s) (one_more_below (length xs) (omega arith) ∙ sym l)
    ∙ written_after s (xs ++ (b ∷ [])) ys (omega arith) (omega arith)
    ∙ ap (λ (k : ℕ). page ((xs ++ (b ∷ [])) ++ (s ++ drop (length s) ys)) k) z
    ∙ ap (λ (o : List ℕ). page o (length xs + suc (length s))) (append_assoc xs (b ∷ []) (s ++ drop (length s) ys))

pub written : (o s : List ℕ) → length s ≤ length o → length s ≤ 18446744073709551615
    → writes (page o 0) s ≡ page (s ++ drop (length s) o) (length s)
written o s h m =
    let z : 0 + length s ≡ length s = omega arith in
    written_after s [] o h (omega arith) ∙ ap (λ (k : ℕ). page (s ++ drop (length s) o) k) z

-- bytes laid at once where there is room for all of them
pub copied : (o s : List ℕ) (n k : ℕ) → n + length s ≤ length o → length o ≤ 18446744073709551615 → k ≡ length s
    → writes (page o n) s ≡ page (take n o ++ (s ++ drop k (drop n o))) (n + length s)
copied o s n k h m q =
    let w : length (take n o) ≡ n = length-take-le n o (omega arith) in
    let l : length s ≤ length (drop n o) = rw length-drop (omega arith) in
    ap₂ (λ (x : List ℕ) (i : ℕ). writes (page x i) s) (sym (take-append-drop n o)) (sym w)
    ∙ written_after s (take n o) (drop n o) l (omega (arith, w))
    ∙ ap₂ (λ (i j : ℕ). page (take n o ++ (s ++ drop j (drop n o))) (i + length s)) w (sym q)

-- bytes for which there is no room are only counted
uncounted : (n k : ℕ) → n ≤ 18446744073709551615 → min (one_more n + k) 18446744073709551615 ≡ min (n + suc k) 18446744073709551615
uncounted n k h = go (ltb n 18446744073709551615) refl
  where
    go : (t : Bool) → ltb n 18446744073709551615 ≡ t → min (one_more n + k) 18446744073709551615 ≡ min (n + suc k) 18446744073709551615
    go true q = let z = one_more_below n (ltb-true n 18446744073709551615 q) in omega arith
    go false q = let z : one_more n ≡ n = rw q in let l = ltb-false n 18446744073709551615 q in omega arith

one_more_least : (n : ℕ) → n ≤ one_more n
one_more_least n = go (ltb n 18446744073709551615)
  where
    go : (t : Bool) → n ≤ cond t (n + 1) n
    go true = omega arith
    go false = omega arith

one_more_fits : (n : ℕ) → n ≤ 18446744073709551615 → one_more n ≤ 18446744073709551615
one_more_fits n h = omega (arith, one_more_min n h)

pub unroomed : (o s : List ℕ) (n : ℕ) → length o ≤ n → n ≤ 18446744073709551615
    → writes (page o n) s ≡ page o (min (n + length s) 18446744073709551615)
unfolding writes write
unroomed o [] n h m = let z : n ≡ min (n + 0) 18446744073709551615 = omega arith in ap (λ (k : ℕ). page o k) z
unroomed o (b ∷ s) n h m =
    ap (λ (x : List ℕ). writes (page x (one_more n)) s) (set_out o n b h)
    ∙ unroomed o s (one_more n) (omega (arith, one_more_least n)) (one_more_fits n m)
    ∙ ap (λ (k : ℕ). page o k) (uncounted n (length s) m)

-- a count that did not come to the largest number is exact
pub counted : (o s : List ℕ) (n : ℕ) → (writes (page o n) s).count ≤ 18446744073709551614 → (writes (page o n) s).count ≡ n + length s
unfolding writes write
counted o [] n h = omega arith
counted o (b ∷ s) n h = let e = counted (set o n b) s (one_more n) h in e ∙ step (ltb n 18446744073709551615) refl e
  where
    step : (t : Bool) → ltb n 18446744073709551615 ≡ t → (writes (page (set o n b) (one_more n)) s).count ≡ one_more n + length s
        → one_more n + length s ≡ n + suc (length s)
    step true q e = let z = one_more_below n (ltb-true n 18446744073709551615 q) in omega arith
    step false q e = let z : one_more n ≡ n = rw q in absurd (omega (arith, ltb-false n 18446744073709551615 q))

pub writes_most : (p : Page) (s : List ℕ) → (writes p s).count ≤ p.count + length s
unfolding writes write
writes_most p [] = omega arith
writes_most p (b ∷ s) = let h = writes_most (write p b) s in let m = one_more_most p.count in omega arith

-- ---- what functions wrote

pub nothing_wrote : (o : List ℕ) (n : ℕ) → Wrote o n o n 0 (λ rest. rest)
nothing_wrote o n = record { so = λ rest. refl; most = omega arith }

-- one after the other
pub then : {o o₁ o₂ : List ℕ} {n n₁ n₂ j k : ℕ} {f g : List ℕ → List ℕ} → Wrote o n o₁ n₁ j f → Wrote o₁ n₁ o₂ n₂ k g
    → Wrote o n o₂ n₂ (j + k) (λ rest. f (g rest))
then {f = f} {g = g} a b = record { so = λ rest. b.so rest ∙ a.so (g rest); most = omega arith }

-- the same, told with a larger bound and in other words
pub retold : {o o₁ : List ℕ} {n n₁ j : ℕ} {f : List ℕ → List ℕ} (k : ℕ) (g : List ℕ → List ℕ) → Wrote o n o₁ n₁ j f → j ≤ k
    → ((rest : List ℕ) → f rest ≡ g rest) → Wrote o n o₁ n₁ k g
retold {o = o} {n = n} k g a h e =
    record { so = λ rest. a.so rest ∙ ap (λ (l : List ℕ). writes (page o n) l) (e rest); most = omega arith }

-- one byte, where there is room for it, and where there is none
byte_wrote : (o : List ℕ) (n b : ℕ) → Wrote o n (set o n b) (one_more n) 1 (λ rest. b ∷ rest)
unfolding writes write
byte_wrote o n b = record { so = λ rest. refl; most = one_more_most n }

pub byte_stored : (o : List ℕ) (n b : ℕ) → n < 18446744073709551615 → Wrote o n (set o n b) (n + 1) 1 (λ rest. b ∷ rest)
byte_stored o n b h =
    let e : one_more n ≡ n + 1 = rw (lt-ltb n 18446744073709551615 h) in
    subst (λ (m : ℕ). Wrote o n (set o n b) m 1 (λ rest. b ∷ rest)) e (byte_wrote o n b)

pub byte_counted : (o : List ℕ) (n b m : ℕ) → length o ≤ n → m ≡ one_more n → Wrote o n o m 1 (λ rest. b ∷ rest)
byte_counted o n b m h e =
    subst (λ (m : ℕ). Wrote o n o m 1 (λ rest. b ∷ rest)) (sym e)
    (subst (λ (x : List ℕ). Wrote o n x (one_more n) 1 (λ rest. b ∷ rest)) (set_out o n b h) (byte_wrote o n b))

-- the bytes that were written bound the count
pub wrote_most : {o o₁ : List ℕ} {n n₁ j : ℕ} (s : List ℕ) (k : ℕ) → length s ≤ k → Wrote o n o₁ n₁ j (λ rest. s ++ rest)
    → Wrote o n o₁ n₁ k (λ rest. s ++ rest)
unfolding writes
wrote_most {o = o} {n = n} s k h w =
    let e = ap (λ (p : Page). p.count) (w.so []) in
    let m = writes_most (page o n) (s ++ []) in
    record { so = w.so; most = omega (arith, length-append s []) }

-- what was written from the first byte on, in room for it, stands there
pub stands : {o o' : List ℕ} {n k : ℕ} (s : List ℕ) → Wrote o 0 o' n k (λ rest. s ++ rest) → k ≤ length o → k ≤ 18446744073709551614
    → (n ≡ length s) × (take n o' ≡ s)
unfolding writes
stands {o} {o'} {n} s w h m =
    let e : page o' n ≡ writes (page o 0) s = w.so [] ∙ ap (λ (l : List ℕ). writes (page o 0) l) (append-nil s) in
    let c : n ≡ (writes (page o 0) s).count = ap (λ (p : Page). p.count) e in
    let l : n ≡ length s = c ∙ counted o s 0 (omega (arith, c, w.most)) ∙ omega arith in
    let b : o' ≡ s ++ drop (length s) o
    = ap (λ (p : Page). p.out) e ∙ ap (λ (p : Page). p.out) (written o s (omega (arith, w.most)) (omega (arith, w.most))) in
    (l, ap₂ (λ (i : ℕ) (x : List ℕ). take i x) l b ∙ take-append_seam s (drop (length s) o))

-- a room and a count that are those of a text written from the first byte on
pub as_wrote : {o o' : List ℕ} {n k : ℕ} (s : List ℕ) → page o' n ≡ writes (page o 0) s → n ≤ k → Wrote o 0 o' n k (λ rest. s ++ rest)
as_wrote {o} s e h = record {
  so = λ rest. ap (λ (p : Page). writes p rest) e ∙ sym (writes_append (page o 0) s rest);
  most = omega arith;
}

pub copied_wrote : (o s : List ℕ) (n k : ℕ) → n + length s ≤ length o → length o ≤ 18446744073709551615 → k ≡ length s
    → Wrote o n (take n o ++ (s ++ drop k (drop n o))) (n + length s) (length s) (λ rest. s ++ rest)
copied_wrote o s n k h m q = record {
  so = λ rest. ap (λ (p : Page). writes p rest) (sym (copied o s n k h m q)) ∙ sym (writes_append (page o n) s rest);
  most = omega arith;
}

pub unroomed_wrote : (o s : List ℕ) (n k : ℕ) → length o ≤ n → n ≤ 18446744073709551615 → k ≡ min (n + length s) 18446744073709551615
    → Wrote o n o k (length s) (λ rest. s ++ rest)
unroomed_wrote o s n k h m q = record {
  so = λ rest. ap (λ (p : Page). writes p rest) (ap (λ (i : ℕ). page o i) q ∙ sym (unroomed o s n h m)) ∙ sym (writes_append (page o n) s rest);
  most = omega arith;
}

-- ---- what was done to a writer

pub nothing_added : (w : Writer) → Added w w 0 (λ rest. rest)
nothing_added w = record { wrote = nothing_wrote w.out.now w.count; same_room = refl }

-- one after the other
pub added_then : {w w₁ w₂ : Writer} {j k : ℕ} {f g : List ℕ → List ℕ} → Added w w₁ j f → Added w₁ w₂ k g
    → Added w w₂ (j + k) (λ rest. f (g rest))
added_then a b = record { wrote = then a.wrote b.wrote; same_room = b.same_room ∙ a.same_room }

-- the same, told with a larger bound and in other words
pub added_retold : {w w₁ : Writer} {j : ℕ} {f : List ℕ → List ℕ} (k : ℕ) (g : List ℕ → List ℕ) → Added w w₁ j f → j ≤ k
    → ((rest : List ℕ) → f rest ≡ g rest) → Added w w₁ k g
added_retold k g a h e = record { wrote = retold k g a.wrote h e; same_room = a.same_room }

-- one byte, put into the room or only counted
pub byte_added : (w w' : Writer) (b : ℕ) → w'.out.now ≡ set w.out.now w.count b → w'.count ≡ min (w.count + 1) 18446744073709551615
    → w.count ≤ 18446744073709551615 → w'.out.ghost_name ≡ w.out.ghost_name → Added w w' 1 (λ rest. b ∷ rest)
byte_added w w' b e c h r =
    let o = w.out.now in
    let n = w.count in
    let stored = subst (λ (p : List ℕ). Wrote o n p (one_more n) 1 (λ rest. b ∷ rest)) (sym e) (byte_wrote o n b) in record {
      wrote = subst (λ (k : ℕ). Wrote o n w'.out.now k 1 (λ rest. b ∷ rest)) (sym (c ∙ one_more_min n h)) stored;
      same_room = r;
    }

-- what a writer that began with an empty page has written
pub from_start : {w w' : Writer} {o : List ℕ} {k : ℕ} {f : List ℕ → List ℕ} → w.out.now ≡ o → w.count ≡ 0 → Added w w' k f
    → Wrote o 0 w'.out.now w'.count k f
from_start p q a = rw (p, q) at a.wrote
