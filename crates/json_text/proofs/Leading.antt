-- The character that a text begins with, one test after the other. Assumes nothing.
use Prim.Native.Nat.{ℕ, zero, suc, ◌≤◌, ◌<◌}
use native.Mathlib.Omega.{arith}
use mathlib.Core.Path.{◌≡◌, refl, sym}
use mathlib.Core.List.{List, [], ◌∷◌}
use lib.ListN.{length, get_or}
use Rattle.std.proofs.lemmas.List.{get_or_past}
use mathlib.Core.Bool.{Bool, true, false, ◌&&◌}
use lib.Dec.{leb, ltb}
use borrow.Author.Tests.{le-leb, lt-leb, ltb-true, ltb-false}
use Rattle.std.proofs.lemmas.Bool.Decides.{nat_tests}
use Rattle.json_text.specs.Utf8.{more, low, high, second, tail, whole, front}
use Rattle.json_text.proofs.Pieces.{front_at}

pub second_below : (a b l : ℕ) → l ≡ low a → b < l → false ≡ second a b
second_below a b l e h = rw (lt-leb (low a) b (rw e at h))

pub second_from : (a b l m : ℕ) → l ≡ low a → m ≡ high a → l ≤ b → leb b m ≡ second a b
second_from a b l m e f h = rw (le-leb (low a) b (rw e at h), f)

pub whole_over : (k a b c d : ℕ) → 3 < k → 0 ≡ whole k a b c d
whole_over zero a b c d h = absurd (omega arith)
whole_over (suc zero) a b c d h = absurd (omega arith)
whole_over (suc (suc zero)) a b c d h = absurd (omega arith)
whole_over (suc (suc (suc zero))) a b c d h = absurd (omega arith)
whole_over (suc (suc (suc (suc k)))) a b c d h = refl

pub whole_second : (k a b c d : ℕ) → (k ≡ 0 → ⊥) → second a b ≡ false → 0 ≡ whole k a b c d
whole_second zero a b c d h e = absurd (h refl)
whole_second (suc zero) a b c d h e = rw e
whole_second (suc (suc zero)) a b c d h e = rw e
whole_second (suc (suc (suc zero))) a b c d h e = rw e
whole_second (suc (suc (suc (suc k)))) a b c d h e = refl

pub whole_two : (k a b c d : ℕ) → k ≡ 1 → second a b ≡ true → 2 ≡ whole k a b c d
whole_two k a b c d h e = rw (h, e)

and_false : (x : Bool) → (x && false) ≡ false
and_false true = refl
and_false false = refl

pub whole_third : (k a b c d : ℕ) → (k ≡ 1 → ⊥) → (k ≡ 0 → ⊥) → tail c ≡ false → 0 ≡ whole k a b c d
whole_third zero a b c d h g e = absurd (g refl)
whole_third (suc zero) a b c d h g e = absurd (h refl)
whole_third (suc (suc zero)) a b c d h g e = rw (e, and_false)
whole_third (suc (suc (suc zero))) a b c d h g e = rw (e, and_false)
whole_third (suc (suc (suc (suc k)))) a b c d h g e = refl

pub whole_three : (k a b c d : ℕ) → k ≡ 2 → second a b ≡ true → tail c ≡ true → 3 ≡ whole k a b c d
whole_three k a b c d h e f = rw (h, e, f)

pub whole_fourth : (k a b c d : ℕ) → k ≡ 3 → tail d ≡ false → 0 ≡ whole k a b c d
whole_fourth k a b c d h e = rw (h, e, and_false (tail c), and_false (second a b))

pub whole_four : (k a b c d : ℕ) → k ≡ 3 → second a b ≡ true → tail c ≡ true → tail d ≡ true → 4 ≡ whole k a b c d
whole_four k a b c d h e f g = rw (h, e, f, g)

-- ---- the first byte

more_one : (a : ℕ) → a ≤ 127 → more a ≡ 0
more_one a h = grind (arith, nat_tests)

more_two : (a : ℕ) → 194 ≤ a → a ≤ 223 → more a ≡ 1
more_two a h g = grind (arith, nat_tests)

more_three : (a : ℕ) → 224 ≤ a → a ≤ 239 → more a ≡ 2
more_three a h g = grind (arith, nat_tests)

more_four : (a : ℕ) → 240 ≤ a → a ≤ 244 → more a ≡ 3
more_four a h g = grind (arith, nat_tests)

more_none : (a : ℕ) → 127 < a → a < 194 → 3 < more a
more_none a h g = grind (arith, nat_tests)

more_over : (a : ℕ) → 244 < a → 3 < more a
more_over a h = grind (arith, nat_tests)

more_some : (a : ℕ) → 127 < a → more a ≡ 0 → ⊥
more_some a h = grind (arith, nat_tests)

more_not_two : (a : ℕ) → 223 < a → more a ≡ 1 → ⊥
more_not_two a h = grind (arith, nat_tests)

second_zero : (a : ℕ) → second a 0 ≡ false
second_zero a = grind (arith, nat_tests)

-- ---- the character that a text begins with, by its first four bytes; past the end stands 0

front_is : (s : List ℕ) (n : ℕ) → 0 < length s
    → n ≡ whole (more (get_or s 0 0)) (get_or s 0 0) (get_or s 1 0) (get_or s 2 0) (get_or s 3 0) → front s ≡ n
front_is s n h e =
    sym (front_at s 0 (more (get_or s 0 0)) (get_or s 1 0) (get_or s 2 0) (get_or s 3 0) n h refl refl refl refl e)

pub front_one : (s : List ℕ) → 0 < length s → get_or s 0 0 ≤ 127 → front s ≡ 1
front_one s h l = front_is s 1 h (rw (more_one (get_or s 0 0) l))

pub front_two : (s : List ℕ) → 0 < length s → 194 ≤ get_or s 0 0 → get_or s 0 0 ≤ 223
    → second (get_or s 0 0) (get_or s 1 0) ≡ true → front s ≡ 2
front_two s h l m e = front_is s 2 h (whole_two _ _ _ _ _ (more_two (get_or s 0 0) l m) e)

pub front_three : (s : List ℕ) → 0 < length s → 224 ≤ get_or s 0 0 → get_or s 0 0 ≤ 239
    → second (get_or s 0 0) (get_or s 1 0) ≡ true → tail (get_or s 2 0) ≡ true → front s ≡ 3
front_three s h l m e f = front_is s 3 h (whole_three _ _ _ _ _ (more_three (get_or s 0 0) l m) e f)

pub front_four : (s : List ℕ) → 0 < length s → 240 ≤ get_or s 0 0 → get_or s 0 0 ≤ 244
    → second (get_or s 0 0) (get_or s 1 0) ≡ true → tail (get_or s 2 0) ≡ true → tail (get_or s 3 0) ≡ true → front s ≡ 4
front_four s h l m e f g = front_is s 4 h (whole_four _ _ _ _ _ (more_four (get_or s 0 0) l m) e f g)

pub front_empty : (s : List ℕ) → length s ≤ 0 → front s ≡ 0
unfolding front
front_empty [] h = refl
front_empty (a ∷ s) h = absurd (omega arith)

pub front_none : (s : List ℕ) → 127 < get_or s 0 0 → get_or s 0 0 < 194 → front s ≡ 0
front_none [] h g = absurd (omega arith)
front_none (a ∷ s) h g = front_is (a ∷ s) 0 (omega arith) (whole_over _ _ _ _ _ (more_none a h g))

pub front_over : (s : List ℕ) → 244 < get_or s 0 0 → front s ≡ 0
front_over [] h = absurd (omega arith)
front_over (a ∷ s) h = front_is (a ∷ s) 0 (omega arith) (whole_over _ _ _ _ _ (more_over a h))

pub front_second : (s : List ℕ) → 127 < get_or s 0 0 → second (get_or s 0 0) (get_or s 1 0) ≡ false → front s ≡ 0
front_second [] h e = absurd (omega arith)
front_second (a ∷ s) h e = front_is (a ∷ s) 0 (omega arith) (whole_second _ _ _ _ _ (more_some a h) e)

pub front_third : (s : List ℕ) → 223 < get_or s 0 0 → tail (get_or s 2 0) ≡ false → front s ≡ 0
front_third [] h e = absurd (omega arith)
front_third (a ∷ s) h e =
    front_is (a ∷ s) 0 (omega arith) (whole_third _ _ _ _ _ (more_not_two a h) (more_some a (omega arith)) e)

pub front_fourth : (s : List ℕ) → 239 < get_or s 0 0 → tail (get_or s 3 0) ≡ false → front s ≡ 0
front_fourth [] h e = absurd (omega arith)
front_fourth (a ∷ s) h e = go (ltb 244 a) refl
  where
    go : (t : Bool) → ltb 244 a ≡ t → front (a ∷ s) ≡ 0
    go true g = front_over (a ∷ s) (ltb-true 244 a g)
    go false g = front_is (a ∷ s) 0 (omega arith) (whole_fourth _ _ _ _ _ (more_four a h (ltb-false 244 a g)) e)

pub front_short : (s : List ℕ) → 127 < get_or s 0 0 → length s ≤ 1 → front s ≡ 0
front_short s h l = front_second s h (rw (get_or_past s 1 0 l) (second_zero (get_or s 0 0)))

pub front_short_two : (s : List ℕ) → 223 < get_or s 0 0 → length s ≤ 2 → front s ≡ 0
front_short_two s h l = front_third s h (rw (get_or_past s 2 0 l))

pub front_short_three : (s : List ℕ) → 239 < get_or s 0 0 → length s ≤ 3 → front s ≡ 0
front_short_three s h l = front_fourth s h (rw (get_or_past s 3 0 l))

pub ruleset fronts
    = (
      front_one,
      front_two,
      front_three,
      front_four,
      front_empty,
      front_none,
      front_over,
      front_second,
      front_third,
      front_fourth,
      front_short,
      front_short_two,
      front_short_three,
    )
