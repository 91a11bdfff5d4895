-- What each step of the code leaves in the lent words. Assumes nothing.
use Prim.Native.Nat.{ℕ, zero, suc, ◌+◌, ◌-◌, ◌≤◌, ◌<◌}
use native.Mathlib.Omega.{arith}
use mathlib.Core.Path.{◌≡◌, refl, sym, ap, ◌∙◌}
use mathlib.Core.Bool.{Bool, true, false}
use mathlib.Core.List.{List, [], ◌∷◌, ◌++◌}
use lib.ListN.{get_or, set}
use lib.Dec.{eqb}
use Rattle.std.proofs.Common.{Option, None, Some}
use borrow.Author.Tests.{ne_eqb}
use Rattle.tree.specs.Forest.{Head}
use Rattle.meeting.specs.Words.{bucket_of, emptied, touched, along, meet_words, meets, word_of}

pub empty_next : (w₀ w : List ℕ) (k : ℕ) {v : List ℕ} → 2048 ≤ k → w ≡ emptied w₀ (k - 2048) → v ≡ set w k 0 → v ≡ emptied w₀ (k + 1 - 2048)
unfolding emptied
empty_next w₀ w k h e f =
    let q : k + 1 - 2048 ≡ suc (k - 2048) = omega arith in
    let s : 2048 + (k - 2048) ≡ k = omega arith in
    f ∙ rw (q, s, e)

module _ (t : List ℕ) (i : ℕ) where
  pub along_none : (left : ℕ) (w : List ℕ) (q : ℕ) → left ≤ 0 → along left t w q i ≡ w
  unfolding along
  along_none zero w q h = refl
  along_none (suc left) w q h = absurd (omega arith)

  pub along_end : (left : ℕ) (w : List ℕ) (q : ℕ) → q ≡ 0 → along left t w q i ≡ w
  unfolding along
  along_end zero w q e = refl
  along_end (suc left) w q e = rw e

  pub along_next : (left : ℕ) (w : List ℕ) (q : ℕ) {v : List ℕ} {r : ℕ} → 0 < left → (q ≡ 0 → ⊥) → v ≡ touched t w (q - 1) i → r ≡ get_or v (3072 + (q - 1)) 0
      → along left t w q i ≡ along (left - 1) t v r i
  unfolding along
  along_next zero w q h n e f = absurd (omega arith)
  along_next (suc left) w q h n e f =
      let s : suc left - 1 ≡ left = omega arith in
      rw (s, f, e) (go (eqb q 0) (ne_eqb q 0 n))
    where
      go : (b : Bool) → b ≡ false
          → elim b as (λ x. List ℕ) [ true ↦ w | false ↦ along left t (touched t w (q - 1) i) (get_or (touched t w (q - 1) i) (3072 + (q - 1)) 0) i ]
          ≡ along left t (touched t w (q - 1) i) (get_or (touched t w (q - 1) i) (3072 + (q - 1)) 0) i
      go b z = rw z

-- the way along a bucket: its start, a place, where a place is the last, and where n were met
module _ (t : List ℕ) (n i : ℕ) (w : List ℕ) where
  pub meet_first : {b : ℕ} (o : Option ℕ) → b ≡ bucket_of t i → word_of o ≡ get_or w (2048 + b) 0 → meet_words t n w i ≡ along (n - 0) t w (word_of o) i
  unfolding meet_words
  meet_first o e f = let s : n - 0 ≡ n = omega arith in rw (s, f, e)

  pub meet_next : (j k : ℕ) {x v : List ℕ} {o : Option ℕ} (r : Option ℕ) → x ≡ along (n - j) t w (word_of o) i → j < n → o ≡ Some k → v ≡ touched t w k i
      → word_of r ≡ get_or v (3072 + k) 0 → x ≡ along (n - (j + 1)) t v (word_of r) i
  unfolding word_of
  meet_next j k {v = v} r m l e f g =
      let s : k + 1 - 1 ≡ k = omega arith in
      let d : n - j - 1 ≡ n - (j + 1) = omega arith in
      m ∙ rw e (along_next t i (n - j) w (k + 1) (omega arith) (λ z. omega arith) (rw s f) (rw s g)) ∙ ap (λ (y : ℕ). along y t v (word_of r) i) d

  pub meet_ended : (left : ℕ) {x : List ℕ} (o : Option ℕ) → x ≡ along left t w (word_of o) i → o ≡ None → w ≡ x
  unfolding word_of
  meet_ended left o m e = sym (m ∙ rw e (along_end t i left w 0 refl))

  pub meet_done : (j q : ℕ) {x : List ℕ} → x ≡ along (n - j) t w q i → n ≤ j → w ≡ x
  meet_done j q m h = sym (m ∙ along_none t i (n - j) w q (omega arith))

-- one list of nodes after another
pub meets_append : (t : List ℕ) (n : ℕ) (xs ys : List Head) (w : List ℕ) → meets t n w (xs ++ ys) ≡ meets t n (meets t n w xs) ys
unfolding meets
meets_append t n [] ys w = refl
meets_append t n (x ∷ xs) ys w = meets_append t n xs ys (meet_words t n w x.number)
