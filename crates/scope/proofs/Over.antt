-- A change of entries place by place, and what lists of rules' Marks do place by place. Assumes nothing.
use Prim.Native.Nat.{ℕ, zero, suc, ◌+◌, ◌-◌, ◌≤◌, ◌<◌}
use native.Mathlib.Omega.{arith}
use native.Mathlib.Decide.{dec_lt}
use mathlib.Core.Path.{◌≡◌, refl, ap, ◌∙◌}
use mathlib.Core.Bool.{Bool, ◌||◌, ◌&&◌}
use lib.Dec.{eqb}
use mathlib.Core.List.{List, [], ◌∷◌}
use lib.ListN.{length, get_or, set, length-set}
use lib.Seq.{get_or-set_same, get_or-set_other}
use Rattle.tree.specs.Forest.{Spot}
use Rattle.rules.specs.Names as rules
use Rattle.rules.specs.code.Marks as marks
use Rattle.rules.specs.code.Marks.{reset, resets, Note, notes, first_note, restore, merge, join_level}
use Rattle.scope.specs.Lists.{places_in, places}
use Rattle.scope.specs.State.{no_entry, node_in}
use Rattle.scope.specs.Words.{reset_of, resets_in, joined_of, merges_in}
use Rattle.scope.specs.declared.Entry.{Entry}

module _ (f : ℕ → Entry → Entry) where
  -- f at each of the n places from j on
  abbrev over : List Entry → ℕ → ℕ → List Entry
  over es j zero = es
  over es j (suc n) = over (set es j (f j (get_or es j no_entry))) (j + 1) n

  over_before : (n j : ℕ) (es : List Entry) (k : ℕ) → k < j → get_or (over es j n) k no_entry ≡ get_or es k no_entry
  over_before zero j es k h = refl
  over_before (suc n) j es k h =
      over_before n (j + 1) (set es j (f j (get_or es j no_entry))) k (omega arith)
      ∙ get_or-set_other es j k (f j (get_or es j no_entry)) no_entry (λ e. omega arith)

  over_after : (n j : ℕ) (es : List Entry) (k : ℕ) → j + n ≤ k → get_or (over es j n) k no_entry ≡ get_or es k no_entry
  over_after zero j es k h = refl
  over_after (suc n) j es k h =
      over_after n (j + 1) (set es j (f j (get_or es j no_entry))) k (omega arith)
      ∙ get_or-set_other es j k (f j (get_or es j no_entry)) no_entry (λ e. omega arith)

  over_length : (n j : ℕ) (es : List Entry) → length (over es j n) ≡ length es
  over_length zero j es = refl
  over_length (suc n) j es = over_length n (j + 1) (set es j (f j (get_or es j no_entry))) ∙ length-set es j (f j (get_or es j no_entry))

  over_at : (n j : ℕ) (es : List Entry) (k : ℕ) → j ≤ k → k < j + n → j + n ≤ length es → get_or (over es j n) k no_entry ≡ f k (get_or es k no_entry)
  over_at zero j es k h l m = absurd (omega arith)
  over_at (suc n) j es k h l m =
      go (dec_lt j k) (λ p. over_at n (j + 1) (set es j (f j (get_or es j no_entry))) k (omega arith) (omega arith) (omega (arith, length-set es j (f j (get_or es j no_entry)))))
    where
      go : Dec (j < k) → (j < k → get_or (over (set es j (f j (get_or es j no_entry))) (j + 1) n) k no_entry ≡ f k (get_or (set es j (f j (get_or es j no_entry))) k no_entry))
          → get_or (over es j (suc n)) k no_entry ≡ f k (get_or es k no_entry)
      go (yes p) ih = ih p ∙ ap (f k) (get_or-set_other es j k (f j (get_or es j no_entry)) no_entry (λ e. omega arith))
      go (no p) ih =
          let z : j ≡ k = omega arith in
          rw (← z) (over_before n (j + 1) (set es j (f j (get_or es j no_entry))) j (omega arith) ∙ get_or-set_same es j (f j (get_or es j no_entry)) no_entry (omega arith))

resets_over : (t w : List ℕ) (i n j : ℕ) (es : List Entry) → resets_in t w i es j n ≡ over (λ k e. reset_of t e (node_in w k) i) es j n
unfolding resets_in
resets_over t w i zero j es = refl
resets_over t w i (suc n) j es = resets_over t w i n (j + 1) (set es j (reset_of t (get_or es j no_entry) (node_in w j) i))

merges_over : (a b : Bool) (os : List Entry) (n j : ℕ) (es : List Entry) → merges_in a b os es j n ≡ over (λ k e. joined_of a b (get_or os k no_entry) e) es j n
unfolding merges_in
merges_over a b os zero j es = refl
merges_over a b os (suc n) j es = merges_over a b os n (j + 1) (set es j (joined_of a b (get_or os j no_entry) (get_or es j no_entry)))

module _ (t w : List ℕ) (i n j : ℕ) (es : List Entry) where
  pub resets_before : (k : ℕ) → k < j → get_or (resets_in t w i es j n) k no_entry ≡ get_or es k no_entry
  resets_before k h = rw (resets_over t w i n j es) (over_before (λ k e. reset_of t e (node_in w k) i) n j es k h)

  pub resets_after : (k : ℕ) → j + n ≤ k → get_or (resets_in t w i es j n) k no_entry ≡ get_or es k no_entry
  resets_after k h = rw (resets_over t w i n j es) (over_after (λ k e. reset_of t e (node_in w k) i) n j es k h)

  pub resets_at : (k : ℕ) → j ≤ k → k < j + n → j + n ≤ length es → get_or (resets_in t w i es j n) k no_entry ≡ reset_of t (get_or es k no_entry) (node_in w k) i
  resets_at k h l m = rw (resets_over t w i n j es) (over_at (λ k e. reset_of t e (node_in w k) i) n j es k h l m)

  pub resets_length : length (resets_in t w i es j n) ≡ length es
  resets_length = rw (resets_over t w i n j es) (over_length (λ k e. reset_of t e (node_in w k) i) n j es)

module _ (a b : Bool) (os : List Entry) (n j : ℕ) (es : List Entry) where
  pub merges_before : (k : ℕ) → k < j → get_or (merges_in a b os es j n) k no_entry ≡ get_or es k no_entry
  merges_before k h = rw (merges_over a b os n j es) (over_before (λ k e. joined_of a b (get_or os k no_entry) e) n j es k h)

  pub merges_after : (k : ℕ) → j + n ≤ k → get_or (merges_in a b os es j n) k no_entry ≡ get_or es k no_entry
  merges_after k h = rw (merges_over a b os n j es) (over_after (λ k e. joined_of a b (get_or os k no_entry) e) n j es k h)

  pub merges_at : (k : ℕ) → j ≤ k → k < j + n → j + n ≤ length es → get_or (merges_in a b os es j n) k no_entry ≡ joined_of a b (get_or os k no_entry) (get_or es k no_entry)
  merges_at k h l m = rw (merges_over a b os n j es) (over_at (λ k e. joined_of a b (get_or os k no_entry) e) n j es k h l m)

  pub merges_length : length (merges_in a b os es j n) ≡ length es
  merges_length = rw (merges_over a b os n j es) (over_length (λ k e. joined_of a b (get_or os k no_entry) e) n j es)

-- lists of Marks
module _ (s : Spot) (f : ℕ → marks.Entry) where
  resets_are : (n a : ℕ) → resets s (places_in f a n) ≡ places_in (λ k. reset s (f k)) a n
  unfolding places_in
  resets_are zero a = refl
  resets_are (suc n) a = ap (λ (l : List marks.Entry). reset s (f a) ∷ l) (resets_are n (a + 1))

  pub resets_places : (a b : ℕ) → resets s (places f a b) ≡ places (λ k. reset s (f k)) a b
  unfolding places
  resets_places a b = resets_are (b - a) a

module _ (x : ℕ) (f : ℕ → marks.Entry) where
  abbrev pub mark_entry : marks.Entry → marks.Entry
  mark_entry e = record { sort = e.sort; spot = e.spot; used = e.used || (eqb x e.spot.value && e.held); held = e.held; level = e.level }

  marks_in : (n a : ℕ) → marks.marks x (places_in f a n) ≡ places_in (λ k. mark_entry (f k)) a n
  unfolding places_in
  marks_in zero a = refl
  marks_in (suc n) a = ap (λ (l : List marks.Entry). mark_entry (f a) ∷ l) (marks_in n (a + 1))

  pub marks_places : (a b : ℕ) → marks.marks x (places f a b) ≡ places (λ k. mark_entry (f k)) a b
  unfolding places
  marks_places a b = marks_in (b - a) a

abbrev pub note_of : marks.Entry → Note
note_of e = record { held = e.held; level = e.level }

abbrev pub restored : Note → marks.Entry → marks.Entry
restored n e = record { sort = e.sort; spot = e.spot; used = e.used; held = n.held; level = n.level }

abbrev pub blended : rules.Abort → rules.Abort → Note → marks.Entry → marks.Entry
blended x y n e = record { sort = e.sort; spot = e.spot; used = e.used; held = n.held || e.held; level = join_level x y n.level e.level }

-- h: the notes of f up to place a + m, and none from there on
module _ (f g : ℕ → marks.Entry) (h : ℕ → Note) where
  restore_in : (n m a : ℕ) → m ≤ n → ((k : ℕ) → a ≤ k → k < a + m → h k ≡ note_of (f k)) → ((k : ℕ) → a + m ≤ k → k < a + n → h k ≡ first_note [])
      → restore (notes (places_in f a m)) (places_in g a n) ≡ places_in (λ k. restored (h k) (g k)) a n
  unfolding places_in
  restore_in zero m a l p q = refl
  restore_in (suc n) zero a l p q = rw (q a (omega arith) (omega arith)) (ap (λ (z : List marks.Entry). restored (first_note []) (g a) ∷ z)
      (restore_in n zero (a + 1) (omega arith) (λ k x y. absurd (omega arith)) (λ k x y. q k (omega arith) (omega arith))))
  restore_in (suc n) (suc m) a l p q = rw (p a (omega arith) (omega arith)) (ap (λ (z : List marks.Entry). restored (note_of (f a)) (g a) ∷ z)
      (restore_in n m (a + 1) (omega arith) (λ k x y. p k (omega arith) (omega arith)) (λ k x y. q k (omega arith) (omega arith))))

  pub restore_places : (a b c : ℕ) → a ≤ b → b ≤ c → ((k : ℕ) → a ≤ k → k < b → h k ≡ note_of (f k)) → ((k : ℕ) → b ≤ k → k < c → h k ≡ first_note [])
      → restore (notes (places f a b)) (places g a c) ≡ places (λ k. restored (h k) (g k)) a c
  unfolding places
  restore_places a b c l m p q = restore_in (c - a) (b - a) a (omega arith) (λ k x y. p k x (omega arith)) (λ k x y. q k (omega arith) (omega arith))

  merge_in : (x y : rules.Abort) (n m a : ℕ) → m ≤ n → ((k : ℕ) → a ≤ k → k < a + m → h k ≡ note_of (f k)) → ((k : ℕ) → a + m ≤ k → k < a + n → h k ≡ first_note [])
      → merge x y (notes (places_in f a m)) (places_in g a n) ≡ places_in (λ k. blended x y (h k) (g k)) a n
  unfolding places_in
  merge_in x y zero m a l p q = refl
  merge_in x y (suc n) zero a l p q = rw (q a (omega arith) (omega arith)) (ap (λ (z : List marks.Entry). blended x y (first_note []) (g a) ∷ z)
      (merge_in x y n zero (a + 1) (omega arith) (λ k u v. absurd (omega arith)) (λ k u v. q k (omega arith) (omega arith))))
  merge_in x y (suc n) (suc m) a l p q = rw (p a (omega arith) (omega arith)) (ap (λ (z : List marks.Entry). blended x y (note_of (f a)) (g a) ∷ z)
      (merge_in x y n m (a + 1) (omega arith) (λ k u v. p k (omega arith) (omega arith)) (λ k u v. q k (omega arith) (omega arith))))

  pub merge_places : (x y : rules.Abort) (a b c : ℕ) → a ≤ b → b ≤ c → ((k : ℕ) → a ≤ k → k < b → h k ≡ note_of (f k)) → ((k : ℕ) → b ≤ k → k < c → h k ≡ first_note [])
      → merge x y (notes (places f a b)) (places g a c) ≡ places (λ k. blended x y (h k) (g k)) a c
  unfolding places
  merge_places x y a b c l m p q = merge_in x y (c - a) (b - a) a (omega arith) (λ k u v. p k u (omega arith)) (λ k u v. q k (omega arith) (omega arith))
