-- Going back to where a branch began, and joining its two sides: what they do to the house. Assumes nothing.
use Prim.Native.Nat.{ℕ, zero, suc, ◌+◌, ◌-◌, ◌≤◌, ◌<◌}
use native.Mathlib.Omega.{arith}
use native.Mathlib.Decide.{ℕ_discrete}
use mathlib.Core.Path.{◌≡◌, refl, sym, ap, ap₂, ◌∙◌}
use mathlib.Core.Bool.{Bool, true, false, ◌||◌}
use mathlib.Core.List.{List, ◌∷◌}
use lib.ListN.{length, get_or, set, length-set}
use lib.Seq.{get_or-set_same, get_or-set_other}
use Rattle.rules.specs.Names as rules
use Rattle.rules.specs.code.Marks as marks
use Rattle.rules.specs.code.Marks.{House, mid, notes, restore, merge, join_level, join_room}
use Rattle.scope.specs.Lists.{places_in, places}
use Rattle.scope.specs.State.{abort_of, level_of, held_of, no_entry, entry_in, room_of, rooms_of, out_of, house_of, Fits, Kept}
use Rattle.scope.specs.Words.{present_of, sure_of, aborts_of, smaller_of, standing_if, join_standing, joined_of, merges_in, merged_scope, join_scope, back_scope}
use Rattle.scope.specs.declared.Abort.{Abort}
use Rattle.scope.specs.declared.Abort.TheVariants.{Runs, Loop, Function}
use Rattle.scope.specs.declared.Standing.{Standing}
use Rattle.scope.specs.declared.Standing.TheVariants.{Absent, Maybe, Definitely, HeldAbsent, HeldMaybe, HeldDefinitely}
use Rattle.scope.specs.declared.Entry.{Entry}
use Rattle.scope.specs.declared.Scope.{Scope}

-- both sides of a branch, the second having gone on from the first
abbrev pub both : House → House → House
both one two = record { here = join_room one.here two.here; above = two.above; out = two.out }

-- back: the notes of the saved entries, and none past them
bare_entry : (t v : List ℕ) (es fs : List Entry) (a : ℕ) → get_or es a no_entry ≡ no_entry
    → record { sort = (entry_in t v fs a).sort; spot = (entry_in t v fs a).spot; used = (entry_in t v fs a).used; held = false; level = marks.Absent } ≡ entry_in t v es a
unfolding entry_in
bare_entry t v es fs a h = rw h

restores : (t w v : List ℕ) (es fs : List Entry) (n m a : ℕ) → m ≤ n → ((k : ℕ) → a + m ≤ k → get_or es k no_entry ≡ no_entry)
    → restore (notes (places_in (entry_in t w es) a m)) (places_in (entry_in t v fs) a n) ≡ places_in (entry_in t v es) a n
unfolding places_in entry_in
restores t w v es fs zero m a h clean = refl
restores t w v es fs (suc n) zero a h clean =
    ap₂ ◌∷◌ (bare_entry t v es fs a (clean a (omega arith))) (restores t w v es fs n zero (a + 1) (omega arith) (λ k i. clean k (omega arith)))
restores t w v es fs (suc n) (suc m) a h clean =
    ap (λ (l : List marks.Entry). entry_in t v es a ∷ l) (restores t w v es fs n m (a + 1) (omega arith) (λ k i. clean k (omega arith)))

back_entries : (t w v : List ℕ) (es fs : List Entry) (a b e z : ℕ) → z ≡ a → a ≤ b → b ≤ e → ((k : ℕ) → b ≤ k → get_or es k no_entry ≡ no_entry)
    → restore (notes (places (entry_in t w es) a b)) (places (entry_in t v fs) z e) ≡ places (entry_in t v es) z e
unfolding places
back_entries t w v es fs a b e z q h i clean = rw q (restores t w v es fs (e - a) (b - a) a (omega arith) (λ k j. clean k (omega arith)))

pub back_house : (t : List ℕ) {w v : List ℕ} {s one : Scope} → Fits w s → Fits v one → Kept w s v one → (outer : List Scope)
    → house_of t v (back_scope s one) outer ≡ mid (house_of t w s outer) (house_of t v one outer)
unfolding house_of room_of back_scope
back_house t {w} {v} {s} {one} f g k outer =
    ap
    (λ (l : List marks.Entry).
    record {
      here = record {
        cant = (room_of t v one).cant;
        unbound = (room_of t v one).unbound;
        entries = l;
        abort = abort_of s.abort;
      };
      above = rooms_of t v outer;
      out = out_of t v one.warnings;
    })
    (sym (back_entries t w v s.entries one.entries s.first s.settings one.settings one.first k.first f.first k.settings f.clean))

-- join: each place of the scope, and no other
module _ (a b : Bool) (os : List Entry) where
  merges_length : (n j : ℕ) (es : List Entry) → length (merges_in a b os es j n) ≡ length es
  unfolding merges_in
  merges_length zero j es = refl
  merges_length (suc n) j es = merges_length n (j + 1) _ ∙ length-set es j _

  merges_before : (n j : ℕ) (es : List Entry) (k : ℕ) → k < j → get_or (merges_in a b os es j n) k no_entry ≡ get_or es k no_entry
  unfolding merges_in
  merges_before zero j es k h = refl
  merges_before (suc n) j es k h = merges_before n (j + 1) _ k (omega arith) ∙ get_or-set_other es j k _ no_entry (λ q. omega arith)

  merges_past : (n j : ℕ) (es : List Entry) (k : ℕ) → j + n ≤ k → get_or (merges_in a b os es j n) k no_entry ≡ get_or es k no_entry
  unfolding merges_in
  merges_past zero j es k h = refl
  merges_past (suc n) j es k h = merges_past n (j + 1) _ k (omega arith) ∙ get_or-set_other es j k _ no_entry (λ q. omega arith)

  merges_at : (n j : ℕ) (es : List Entry) (k : ℕ) → j ≤ k → k < j + n → j + n ≤ length es
      → get_or (merges_in a b os es j n) k no_entry ≡ joined_of a b (get_or os k no_entry) (get_or es k no_entry)
  unfolding merges_in
  merges_at zero j es k h i l = absurd (omega arith)
  merges_at (suc n) j es k h i l =
      go (ℕ_discrete k j) (λ q. merges_at n (j + 1) (set es j (joined_of a b (get_or os j no_entry) (get_or es j no_entry))) k (omega arith) (omega arith) (rw (length-set es j (joined_of a b (get_or os j no_entry) (get_or es j no_entry))) (omega arith)))
    where
      go : Dec (k ≡ j)
          → ((k ≡ j → ⊥) → get_or (merges_in a b os (set es j (joined_of a b (get_or os j no_entry) (get_or es j no_entry))) (j + 1) n) k no_entry
          ≡ joined_of a b (get_or os k no_entry) (get_or (set es j (joined_of a b (get_or os j no_entry) (get_or es j no_entry))) k no_entry))
          → get_or (merges_in a b os (set es j (joined_of a b (get_or os j no_entry) (get_or es j no_entry))) (j + 1) n) k no_entry
          ≡ joined_of a b (get_or os k no_entry) (get_or es k no_entry)
      go (yes q) f = merges_before n (j + 1) (set es j (joined_of a b (get_or os j no_entry) (get_or es j no_entry))) k (omega arith)
          ∙ rw q (get_or-set_same es j (joined_of a b (get_or os j no_entry) (get_or es j no_entry)) no_entry (omega arith))
      go (no q) f = f q ∙ ap (joined_of a b (get_or os k no_entry)) (get_or-set_other es j k (joined_of a b (get_or os j no_entry) (get_or es j no_entry)) no_entry q)

level_if_same : (h p q : Bool) → level_of (standing_if h p q) ≡ marks.level_if p q
level_if_same false false q = refl
level_if_same false true true = refl
level_if_same false true false = refl
level_if_same true false q = refl
level_if_same true true true = refl
level_if_same true true false = refl

held_if_same : (h p q : Bool) → held_of (standing_if h p q) ≡ h
held_if_same false false q = refl
held_if_same false true true = refl
held_if_same false true false = refl
held_if_same true false q = refl
held_if_same true true true = refl
held_if_same true true false = refl

aborts_same : (a : Abort) → aborts_of a ≡ rules.aborts (abort_of a)
aborts_same Runs = refl
aborts_same Loop = refl
aborts_same Function = refl

has_same : (x : Standing) → present_of x ≡ marks.has_level (level_of x)
has_same Absent = refl
has_same Maybe = refl
has_same Definitely = refl
has_same HeldAbsent = refl
has_same HeldMaybe = refl
has_same HeldDefinitely = refl

sure_same : (x : Standing) → sure_of x ≡ marks.sure_level (level_of x)
sure_same Absent = refl
sure_same Maybe = refl
sure_same Definitely = refl
sure_same HeldAbsent = refl
sure_same HeldMaybe = refl
sure_same HeldDefinitely = refl

smaller_same : (a b : Abort) → abort_of (smaller_of a b) ≡ rules.smaller (abort_of a) (abort_of b)
smaller_same Runs b = refl
smaller_same Loop Runs = refl
smaller_same Loop Loop = refl
smaller_same Loop Function = refl
smaller_same Function b = refl

join_same : (h : Bool) (a b : Abort) (x y : Standing) → level_of (join_standing h (aborts_of a) (aborts_of b) x y) ≡ join_level (abort_of a) (abort_of b) (level_of x) (level_of y)
join_same h a b x y =
    level_if_same h (present_of x || present_of y) (rules.join_sure (aborts_of a) (aborts_of b) (sure_of x) (sure_of y))
    ∙ cc (has_same x, has_same y, aborts_same a, aborts_same b, sure_same x, sure_same y)

pub join_fits : {x : List ℕ} (one two : Scope) → Fits x two → Fits x (join_scope one two)
unfolding join_scope merged_scope
join_fits one two f =
    record {
      words = f.words;
      wide = merges_length (aborts_of one.abort) (aborts_of two.abort) one.entries (two.settings - two.first) two.first two.entries ∙ f.wide;
      first = f.first;
      settings = f.settings;
      cant_from = f.cant_from;
      cant = f.cant;
      cants = f.cants;
      loose_from = f.loose_from;
      loose = f.loose;
      looses = f.looses;
      warnings = f.warnings;
      clean = λ k h. merges_past (aborts_of one.abort) (aborts_of two.abort) one.entries (two.settings - two.first) two.first two.entries k (omega (arith, f.first)) ∙ f.clean k h;
      own = f.own;
    }

pub join_below : (one two : Scope) (k : ℕ) → k < two.first → get_or (join_scope one two).entries k no_entry ≡ get_or two.entries k no_entry
unfolding join_scope merged_scope
join_below one two k h = merges_before (aborts_of one.abort) (aborts_of two.abort) one.entries (two.settings - two.first) two.first two.entries k h

module _ (t v x : List ℕ) (A B : Abort) (os es ms : List Entry) where
  joined_entry : (p : Entry) (j : ℕ) → get_or ms j no_entry ≡ joined_of (aborts_of A) (aborts_of B) p (get_or es j no_entry)
      → record {
        sort = (entry_in t x es j).sort;
        spot = (entry_in t x es j).spot;
        used = (entry_in t x es j).used;
        held = held_of p.standing || (entry_in t x es j).held;
        level = join_level (abort_of A) (abort_of B) (level_of p.standing) (entry_in t x es j).level;
      }
      ≡ entry_in t x ms j
  unfolding entry_in
  joined_entry p j h =
      let x = p.standing in
      let y = (get_or es j no_entry).standing in
      rw (
        h,
        join_same (held_of x || held_of y) A B x y,
        held_if_same (held_of x || held_of y) (present_of x || present_of y) (rules.join_sure (aborts_of A) (aborts_of B) (sure_of x) (sure_of y)),
      )

  merges : (n m j : ℕ) → m ≤ n → ((k : ℕ) → j + m ≤ k → get_or os k no_entry ≡ no_entry)
      → ((k : ℕ) → j ≤ k → k < j + n → get_or ms k no_entry ≡ joined_of (aborts_of A) (aborts_of B) (get_or os k no_entry) (get_or es k no_entry))
      → merge (abort_of A) (abort_of B) (notes (places_in (entry_in t v os) j m)) (places_in (entry_in t x es) j n) ≡ places_in (entry_in t x ms) j n
  unfolding places_in entry_in
  merges zero m j h clean at = refl
  merges (suc n) zero j h clean at =
      ap₂ ◌∷◌ (joined_entry no_entry j (at j (omega arith) (omega arith) ∙ ap (λ (z : Entry). joined_of (aborts_of A) (aborts_of B) z (get_or es j no_entry)) (clean j (omega arith))))
      (merges n zero (j + 1) (omega arith) (λ k i. clean k (omega arith)) (λ k i l. at k (omega arith) (omega arith)))
  merges (suc n) (suc m) j h clean at =
      ap₂ ◌∷◌ (joined_entry (get_or os j no_entry) j (at j (omega arith) (omega arith)))
      (merges n m (j + 1) (omega arith) (λ k i. clean k (omega arith)) (λ k i l. at k (omega arith) (omega arith)))

pub join_house : (t : List ℕ) {v x : List ℕ} {one two : Scope} → Fits v one → Fits x two → two.first ≡ one.first → one.settings ≤ two.settings
    → (outer : List Scope) → house_of t x (join_scope one two) outer ≡ both (house_of t v one outer) (house_of t x two outer)
unfolding house_of room_of join_scope merged_scope places
join_house t {v} {x} {one} {two} f g q h outer =
    ap₂
    (λ (l : List marks.Entry) (a : rules.Abort).
    record {
      here = record {
        cant = (room_of t x two).cant;
        unbound = (room_of t x two).unbound;
        entries = l;
        abort = a;
      };
      above = rooms_of t x outer;
      out = out_of t x two.warnings;
    })
    (sym
    (rw (sym q)
    (merges t v x one.abort two.abort one.entries two.entries
    (merges_in (aborts_of one.abort) (aborts_of two.abort) one.entries two.entries two.first (two.settings - two.first))
    (two.settings - two.first) (one.settings - two.first) two.first (omega arith) (λ k i. f.clean k (omega (arith, f.first)))
    (λ k i l. merges_at (aborts_of one.abort) (aborts_of two.abort) one.entries (two.settings - two.first) two.first two.entries k i l (omega (arith, g.wide, g.first, g.settings))))))
    (smaller_same one.abort two.abort)
