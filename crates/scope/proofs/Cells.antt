-- What a room and the warnings read of the words, and what joining a list does. Assumes nothing.
use Prim.Native.Nat.{ℕ, zero, suc, ◌+◌, ◌-◌, ◌≤◌, ◌<◌}
use native.Mathlib.Omega.{arith}
use native.Mathlib.Decide.{dec_lt}
use mathlib.Core.Path.{◌≡◌, refl, sym, ap, ◌∙◌}
use mathlib.Core.Bool.{Bool, true, false}
use mathlib.Core.List.{List, [], ◌∷◌, ◌++◌}
use lib.Dec.{ltb}
use lib.ListN.{length, get_or, set, length-set}
use lib.Seq.{get_or-set_same, get_or-set_other}
use borrow.Author.Tests.{lt-ltb, le-ltb, ltb-true}
use Rattle.tree.specs.Bytes.{pick}
use Rattle.tree.specs.Forest.{Spot, node_spot}
use Rattle.rules.specs.Names.{same, Warning, warned, warn}
use Rattle.rules.specs.code.Marks.{inside, add}
use Rattle.scope.specs.Lists.{places, seek_in, seek}
use Rattle.scope.specs.State.{node_in, spot_in, entry_in, warning_in, out_of, no_entry}
use Rattle.scope.specs.Words.{alike_at, find_in, is_in, join_words, join_end, warn_words, warn_count}
use Rattle.scope.specs.declared.table.Like.TheVariants.{Spot as TheSpot}
use Rattle.scope.specs.declared.Entry.{Entry}
use Rattle.scope.proofs.Lists.{places_last, agree}
use Rattle.scope.proofs.Seeks.{any_places, inside_any, warned_any}

-- the words from a up to b are the same
abbrev pub SameCells : List ℕ → List ℕ → ℕ → ℕ → Type 0
SameCells w v a b = (k : ℕ) → a ≤ k → k < b → get_or v k 0 ≡ get_or w k 0

pub same_spots : (t w v : List ℕ) (a b : ℕ) → SameCells w v a b → places (spot_in t v) a b ≡ places (spot_in t w) a b
unfolding spot_in
same_spots t w v a b h = agree (spot_in t v) (spot_in t w) a b (λ k p q. ap (node_spot t) (h k p q))

pub same_entry : (t w v : List ℕ) (es fs : List Entry) (k : ℕ) → get_or v k 0 ≡ get_or w k 0 → get_or v (1024 + k) 0 ≡ get_or w (1024 + k) 0
    → get_or fs k no_entry ≡ get_or es k no_entry → entry_in t v fs k ≡ entry_in t w es k
unfolding entry_in
same_entry t w v es fs k p q r = rw (p, q, r)

pub same_entries : (t w v : List ℕ) (es fs : List Entry) (a b : ℕ) → SameCells w v a b → SameCells w v (1024 + a) (1024 + b)
    → ((k : ℕ) → a ≤ k → k < b → get_or fs k no_entry ≡ get_or es k no_entry)
    → places (entry_in t v fs) a b ≡ places (entry_in t w es) a b
same_entries t w v es fs a b p q r =
    agree (entry_in t v fs) (entry_in t w es) a b (λ k x y. same_entry t w v es fs k (p k x y) (q (1024 + k) (omega arith) (omega arith)) (r k x y))

pub same_warnings : (t w v : List ℕ) (n : ℕ) → SameCells w v 3072 (3072 + n) → SameCells w v 4096 (4096 + n) → out_of t v n ≡ out_of t w n
unfolding out_of warning_in
same_warnings t w v n p q = agree (warning_in t v) (warning_in t w) 0 n (λ k x y. rw (p (3072 + k) (omega arith) (omega arith), q (4096 + k) (omega arith) (omega arith)))

-- one word is set: the others stay
pub other_cell : (w : List ℕ) (i v k : ℕ) → (k ≡ i → ⊥) → get_or (set w i v) k 0 ≡ get_or w k 0
other_cell w i v k h = get_or-set_other w i k v 0 h

module _ (t w : List ℕ) (a b end i : ℕ) where
  -- the list has the pair
  is_inside : a ≤ b → inside same (node_spot t i) (places (spot_in t w) a b) ≡ is_in t w TheSpot a b i
  unfolding find_in alike_at spot_in
  is_inside h = inside_any (node_spot t i) (places (spot_in t w) a b) ∙ any_places (same (node_spot t i)) (spot_in t w) a b h

  pub joined_list : a ≤ b → b < length w → (inside same (node_spot t i) (places (spot_in t w) a b) ≡ false → b < end)
      → places (spot_in t (join_words t w a b end i)) a (join_end t w a b end i) ≡ add same (node_spot t i) (places (spot_in t w) a b)
  unfolding join_words join_end spot_in
  joined_list h l room = go (is_in t w TheSpot a b i) refl
    where
      go : (x : Bool) → is_in t w TheSpot a b i ≡ x
          → places (spot_in t (join_words t w a b end i)) a (join_end t w a b end i) ≡ add same (node_spot t i) (places (spot_in t w) a b)
      go true e = rw (is_inside h, e)
      go false e =
          let r : b < end = room (is_inside h ∙ e) in
          rw (is_inside h, e, lt-ltb b end r)
          (places_last (spot_in t (set w b i)) a b h
          ∙ ap2 (same_spots t w (set w b i) a b (λ k p q. other_cell w b i k (omega arith))) last)
        where
          last : spot_in t (set w b i) b ≡ node_spot t i
          last = ap (node_spot t) (get_or-set_same w b i 0 l)

          ap2 : {l m : List Spot} {x y : Spot} → l ≡ m → x ≡ y → l ++ (x ∷ []) ≡ m ++ (y ∷ [])
          ap2 p q = rw (p, q)

  -- words other than b stay, and b too where the list is at its end
  pub join_else : (k : ℕ) → (b < end → k ≡ b → ⊥) → get_or (join_words t w a b end i) k 0 ≡ get_or w k 0
  unfolding join_words
  join_else k h = go (is_in t w TheSpot a b i) refl (ltb b end) refl
    where
      go : (x : Bool) → is_in t w TheSpot a b i ≡ x → (y : Bool) → ltb b end ≡ y → get_or (join_words t w a b end i) k 0 ≡ get_or w k 0
      go true e y f = rw e
      go false e true f = rw (e, f) (other_cell w b i k (h (ltb-true b end f)))
      go false e false f = rw (e, f)

  pub join_length : length (join_words t w a b end i) ≡ length w
  unfolding join_words
  join_length = go (is_in t w TheSpot a b i) refl (ltb b end) refl
    where
      go : (x : Bool) → is_in t w TheSpot a b i ≡ x → (y : Bool) → ltb b end ≡ y → length (join_words t w a b end i) ≡ length w
      go true e y f = rw e
      go false e true f = rw (e, f) (length-set w b i)
      go false e false f = rw (e, f)

  pub join_next : join_end t w a b end i ≤ b + 1
  unfolding join_end
  join_next = go (is_in t w TheSpot a b i) (ltb b end)
    where
      go : (x y : Bool) → pick x b (pick y (b + 1) b) ≤ b + 1
      go true y = omega arith
      go false true = omega arith
      go false false = omega arith

  pub join_end_is : b ≤ end → (b ≤ join_end t w a b end i) × (join_end t w a b end i ≤ end)
  unfolding join_end
  join_end_is h = go (is_in t w TheSpot a b i) refl (ltb b end) refl
    where
      go : (x : Bool) → is_in t w TheSpot a b i ≡ x → (y : Bool) → ltb b end ≡ y → (b ≤ join_end t w a b end i) × (join_end t w a b end i ≤ end)
      go true e y f = (rw e (omega arith), rw e (omega arith))
      go false e true f = (rw (e, f) (omega arith), rw (e, f) (omega (arith, ltb-true b end f)))
      go false e false f = (rw (e, f) (omega arith), rw (e, f) (omega arith))

ltb_shift : (c a b : ℕ) → ltb a b ≡ ltb (c + a) (c + b)
ltb_shift c a b = go (dec_lt a b)
  where
    go : Dec (a < b) → ltb a b ≡ ltb (c + a) (c + b)
    go (yes h) = lt-ltb a b h ∙ sym (lt-ltb (c + a) (c + b) (omega arith))
    go (no h) = le-ltb a b (omega arith) ∙ sym (le-ltb (c + a) (c + b) (omega arith))

seek_shift : (c : ℕ) (q : ℕ → Bool) (n a : ℕ) → c + seek_in (λ k. q (c + k)) a n ≡ seek_in q (c + a) n
unfolding seek_in
seek_shift c q zero a = refl
seek_shift c q (suc n) a = go (q (c + a)) refl (seek_shift c q n (a + 1))
  where
    go : (x : Bool) → q (c + a) ≡ x → c + seek_in (λ k. q (c + k)) (a + 1) n ≡ seek_in q (c + (a + 1)) n → c + seek_in (λ k. q (c + k)) a (suc n) ≡ seek_in q (c + a) (suc n)
    go true e h = rw (seek_in, e)
    go false e h = let z : c + a + 1 ≡ c + (a + 1) = omega arith in rw (seek_in, e, z) h

module _ (t w : List ℕ) (n code i : ℕ) where
  is_warned : warned (node_spot t i) (out_of t w n) ≡ is_in t w TheSpot 3072 (3072 + n) i
  unfolding find_in alike_at out_of warning_in seek
  is_warned = warned_any (node_spot t i) (out_of t w n) ∙ any_places (λ v. same (node_spot t i) v.spot) (warning_in t w) 0 n (omega arith) ∙ shifted
    where
      shifted : ltb (seek (λ k. same (node_spot t i) (warning_in t w k).spot) 0 n) n ≡ ltb (seek (λ k. alike_at t TheSpot i (node_in w k)) 3072 (3072 + n)) (3072 + n)
      shifted =
          let z : 3072 + n - 3072 ≡ n - 0 = omega arith in
          ltb_shift 3072 (seek (λ k. same (node_spot t i) (warning_in t w k).spot) 0 n) n
          ∙ rw z (ap (λ (m : ℕ). ltb m (3072 + n)) (seek_shift 3072 (λ k. alike_at t TheSpot i (node_in w k)) (n - 0) 0))

  pub warned_list : 8192 ≤ length w → (warned (node_spot t i) (out_of t w n) ≡ false → n < 1024)
      → out_of t (warn_words t w n code i) (warn_count t w n i) ≡ warn code (node_spot t i) (out_of t w n)
  unfolding warn_words warn_count out_of warning_in
  warned_list l room = go (is_in t w TheSpot 3072 (3072 + n) i) refl
    where
      v : List ℕ
      v = set (set w (3072 + n) i) (4096 + n) code

      kept : n < 1024 → out_of t v n ≡ out_of t w n
      kept r = same_warnings t w v n
          (λ k p q. other_cell (set w (3072 + n) i) (4096 + n) code k (omega arith) ∙ other_cell w (3072 + n) i k (omega arith))
          (λ k p q. other_cell (set w (3072 + n) i) (4096 + n) code k (omega arith) ∙ other_cell w (3072 + n) i k (omega arith))

      last : n < 1024 → warning_in t v n ≡ record { code = code; spot = node_spot t i }
      last r =
          let a : get_or v (4096 + n) 0 ≡ code = get_or-set_same (set w (3072 + n) i) (4096 + n) code 0 (omega (arith, length-set w (3072 + n) i)) in
          let b : get_or v (3072 + n) 0 ≡ i = other_cell (set w (3072 + n) i) (4096 + n) code (3072 + n) (omega arith) ∙ get_or-set_same w (3072 + n) i 0 (omega arith) in
          rw (a, b)

      ap2 : {l m : List Warning} {x y : Warning} → l ≡ m → x ≡ y → l ++ (x ∷ []) ≡ m ++ (y ∷ [])
      ap2 p q = rw (p, q)

      go : (x : Bool) → is_in t w TheSpot 3072 (3072 + n) i ≡ x
          → out_of t (warn_words t w n code i) (warn_count t w n i) ≡ warn code (node_spot t i) (out_of t w n)
      go true e = rw (is_warned, e)
      go false e = let r : n < 1024 = room (is_warned ∙ e) in rw (is_warned, e, lt-ltb n 1024 r) (places_last (warning_in t v) 0 n (omega arith) ∙ ap2 (kept r) (last r))
