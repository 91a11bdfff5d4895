-- What a loop that writes has done: of the whole text the bytes l are still to be written. Assumes nothing.
use Prim.Native.Nat.{ℕ, ◌+◌, ◌≤◌, ◌<◌}
use native.Mathlib.Omega.{arith}
use native.Mathlib.Numerals.{add-one}
use mathlib.Core.Path.{◌≡◌, refl, sym, ap, ◌∙◌}
use mathlib.Core.List.{List, [], ◌∷◌, ◌++◌, append_assoc}
use lib.ListN.{length, get_or, drop}
use lib.Seq.{drop-cons}
use Rattle.page.specs.Page.{page, writes, Wrote, Added}
use Rattle.page.specs.declared.Writer.{Writer}

pub record Going (o : List ℕ) (n : ℕ) (o' : List ℕ) (n' k : ℕ) (l whole : List ℕ) : Type 0 where
  pub so : (rest : List ℕ) → writes (page o' n') (l ++ rest) ≡ writes (page o n) (whole ++ rest)
  pub most : n' ≤ n + k

pub going_first : (o : List ℕ) (n : ℕ) (whole : List ℕ) → Going o n o n 0 whole whole
going_first o n whole = record { so = λ rest. refl; most = omega arith }

-- the bytes a are written, and of l there are m left
pub going_next : {o o₁ o₂ : List ℕ} {n n₁ n₂ j k : ℕ} {l whole : List ℕ} (i : ℕ) (a m : List ℕ) → Going o n o₁ n₁ k l whole
    → Wrote o₁ n₁ o₂ n₂ j (λ rest. a ++ rest) → l ≡ a ++ m → k + j ≤ i → Going o n o₂ n₂ i m whole
going_next {o₁ = o₁} {n₁ = n₁} i a m g w e h = record {
  so = λ rest. w.so (m ++ rest) ∙ sym (ap (λ (x : List ℕ). writes (page o₁ n₁) (x ++ rest)) e ∙ ap (λ (x : List ℕ). writes (page o₁ n₁) x) (append_assoc a m rest)) ∙ g.so rest;
  most = omega arith;
}

-- nothing is left
pub going_last : {o o₁ : List ℕ} {n n₁ k : ℕ} {l whole : List ℕ} (i : ℕ) → Going o n o₁ n₁ k l whole → l ≡ [] → k ≤ i
    → Wrote o n o₁ n₁ i (λ rest. whole ++ rest)
going_last {o₁ = o₁} {n₁ = n₁} i g e h = record {
  so = λ rest. sym (ap (λ (x : List ℕ). writes (page o₁ n₁) (x ++ rest)) e) ∙ g.so rest;
  most = omega arith;
}

-- of the bytes of s from place i on the first is written next
pub bytes_next : (s : List ℕ) (i : ℕ) → i < length s → drop i s ≡ (get_or s i 0 ∷ []) ++ drop (i + 1) s
bytes_next s i h = rw (add-one, drop-cons s i 0)

-- ---- the same of a writer, which stays in its room

pub record Adding (w w' : Writer) (k : ℕ) (l whole : List ℕ) : Type 0 where
  pub going : Going w.out.now w.count w'.out.now w'.count k l whole
  pub same_room : w'.out.ghost_name ≡ w.out.ghost_name

pub adding_first : (w : Writer) (whole : List ℕ) → Adding w w 0 whole whole
adding_first w whole = record { going = going_first w.out.now w.count whole; same_room = refl }

pub adding_next : {w w₁ w₂ : Writer} {j k : ℕ} {l whole : List ℕ} (i : ℕ) (a m : List ℕ) → Adding w w₁ k l whole
    → Added w₁ w₂ j (λ rest. a ++ rest) → l ≡ a ++ m → k + j ≤ i → Adding w w₂ i m whole
adding_next i a m g w e h = record { going = going_next i a m g.going w.wrote e h; same_room = w.same_room ∙ g.same_room }

pub adding_last : {w w₁ : Writer} {k : ℕ} {l whole : List ℕ} (i : ℕ) → Adding w w₁ k l whole → l ≡ [] → k ≤ i
    → Added w w₁ i (λ rest. whole ++ rest)
adding_last i g e h = record { wrote = going_last i g.going e h; same_room = g.same_room }
