-- Using: the method used does to the house what rules' Marks says. Assumes nothing.
use Prim.Native.Nat.{ℕ, zero, suc, ◌+◌, ◌-◌, ◌≤◌, ◌<◌}
use native.Mathlib.Omega.{arith}
use native.Mathlib.Decide.{dec_lt}
use mathlib.Core.Path.{◌≡◌, refl, sym, ap, subst, ◌∙◌}
use mathlib.Core.Bool.{Bool, true, false, ◌||◌, ◌&&◌}
use mathlib.Core.List.{List, [], ◌∷◌}
use mathlib.Core.Logic.{◌⊎◌, inl, inr}
use lib.Dec.{ltb, eqb}
use lib.ListN.{length, get_or, set, length-set}
use lib.Seq.{get_or-set_same}
use borrow.Author.Tests.{eq-eqb, ne_eqb}
use Rattle.tree.specs.Bytes.{pick, value_at}
use Rattle.tree.specs.Forest.{node_spot}
use Rattle.rules.specs.Names.{Found, nowhere, surely, perhaps, warn}
use Rattle.rules.specs.code.Marks as marks
use Rattle.rules.specs.code.Marks.{House, level_at, mark_room, use_level, look_out, look_step, Looked}
use Rattle.scope.specs.Lists.{places, seek}
use Rattle.scope.specs.State.{level_of, held_of, node_in, used_in, base_in, entry_in, room_of, rooms_of, out_of, house_of, no_entry, Fits, Inside, Kept}
use Rattle.scope.specs.Does.{RoomFor, Does}
use Rattle.scope.specs.Words.{alike_at, find_in, mark_words, marks_in, marks_of, standing_in, present_of, sure_of, outward_in, outward_of, with_warnings, warn_words, warn_count, taken_words, taken_scope, cannot_words, cannot_scope, unbinds_words, unbinds_scope, away_words, away_scope, used_words, used_scope}
use Rattle.scope.specs.declared.table.Like.TheVariants.{Name}
use Rattle.scope.specs.declared.Standing.{Standing}
use Rattle.scope.specs.declared.Standing.TheVariants.{Absent, Maybe, Definitely, HeldAbsent, HeldMaybe, HeldDefinitely}
use Rattle.scope.specs.declared.Entry.{Entry}
use Rattle.scope.specs.declared.Scope.{Scope}
use Rattle.scope.proofs.Lists.{places_none, agree}
use Rattle.scope.proofs.Seeks.{find_places}
use Rattle.scope.proofs.Over.{mark_entry, marks_places}
use Rattle.scope.proofs.Cells.{other_cell, same_spots, same_entries, same_warnings}
use Rattle.scope.proofs.Frames.{rooms_same}
use Rattle.scope.proofs.Notes.{does_then, warn_does, warn_house, cannot_does, cannot_house, unbinds_does, unbinds_house}
use Rattle.scope.proofs.Steps.{outward_none, outward_here, outward_on, outward_ends}

module _ (t : List ℕ) (i : ℕ) where
  mark_else : (held : Bool) (w : List ℕ) (j k : ℕ) → (k ≡ 1024 + j → ⊥) → get_or (mark_words t held w j i) k 0 ≡ get_or w k 0
  unfolding mark_words
  mark_else held w j k h = go (held && alike_at t Name i (node_in w j))
    where
      go : (x : Bool) → get_or (pick x (set w (1024 + j) 1) w) k 0 ≡ get_or w k 0
      go true = other_cell w (1024 + j) 1 k h
      go false = refl

  mark_length : (held : Bool) (w : List ℕ) (j : ℕ) → length (mark_words t held w j i) ≡ length w
  unfolding mark_words
  mark_length held w j = go (held && alike_at t Name i (node_in w j))
    where
      go : (x : Bool) → length (pick x (set w (1024 + j) 1) w) ≡ length w
      go true = length-set w (1024 + j) 1
      go false = refl

  mark_at : (held : Bool) (w : List ℕ) (j : ℕ) → 1024 + j < length w
      → eqb (used_in (mark_words t held w j i) j) 1 ≡ (eqb (used_in w j) 1 || (eqb (value_at t i) (value_at t (node_in w j)) && held))
  unfolding mark_words alike_at
  mark_at held w j h = go held (eqb (value_at t i) (value_at t (node_in w j))) (eqb (used_in w j) 1) refl
    where
      go : (x y z : Bool) → eqb (used_in w j) 1 ≡ z → eqb (get_or (pick (x && y) (set w (1024 + j) 1) w) (1024 + j) 0) 1 ≡ (z || (y && x))
      go true true z e = rw (get_or-set_same w (1024 + j) 1 0 h) (or_true z)
        where
          or_true : (z : Bool) → true ≡ (z || true)
          or_true true = refl
          or_true false = refl
      go true false z e = e ∙ or_false z
        where
          or_false : (z : Bool) → z ≡ (z || false)
          or_false true = refl
          or_false false = refl
      go false true z e = e ∙ or_false z
        where
          or_false : (z : Bool) → z ≡ (z || false)
          or_false true = refl
          or_false false = refl
      go false false z e = e ∙ or_false z
        where
          or_false : (z : Bool) → z ≡ (z || false)
          or_false true = refl
          or_false false = refl

  module _ (es : List Entry) where
    marks_in_else : (n j : ℕ) (w : List ℕ) (k : ℕ) → ((x : ℕ) → j ≤ x → x < j + n → k ≡ 1024 + x → ⊥) → get_or (marks_in t es i w j n) k 0 ≡ get_or w k 0
    unfolding marks_in
    marks_in_else zero j w k h = refl
    marks_in_else (suc n) j w k h =
        marks_in_else n (j + 1) (mark_words t (held_of (get_or es j no_entry).standing) w j i) k (λ x p q. h x (omega arith) (omega arith))
        ∙ mark_else (held_of (get_or es j no_entry).standing) w j k (h j (omega arith) (omega arith))

    marks_in_length : (n j : ℕ) (w : List ℕ) → length (marks_in t es i w j n) ≡ length w
    unfolding marks_in
    marks_in_length zero j w = refl
    marks_in_length (suc n) j w = marks_in_length n (j + 1) (mark_words t (held_of (get_or es j no_entry).standing) w j i) ∙ mark_length (held_of (get_or es j no_entry).standing) w j

    marks_in_at : (n j : ℕ) (w : List ℕ) (k : ℕ) → j ≤ k → k < j + n → j + n ≤ 1024 → 2048 ≤ length w
        → eqb (used_in (marks_in t es i w j n) k) 1 ≡ (eqb (used_in w k) 1 || (eqb (value_at t i) (value_at t (node_in w k)) && held_of (get_or es k no_entry).standing))
    unfolding marks_in
    marks_in_at zero j w k a b c d = absurd (omega arith)
    marks_in_at (suc n) j w k a b c d =
        go (dec_lt j k) (λ h. marks_in_at n (j + 1) (mark_words t (held_of (get_or es j no_entry).standing) w j i) k (omega arith) (omega arith) (omega arith)
        (omega (arith, mark_length (held_of (get_or es j no_entry).standing) w j)))
      where
        go : Dec (j < k)
            → (j < k → eqb (used_in (marks_in t es i (mark_words t (held_of (get_or es j no_entry).standing) w j i) (j + 1) n) k) 1
            ≡ (eqb (used_in (mark_words t (held_of (get_or es j no_entry).standing) w j i) k) 1
            || (eqb (value_at t i) (value_at t (node_in (mark_words t (held_of (get_or es j no_entry).standing) w j i) k)) && held_of (get_or es k no_entry).standing)))
            → eqb (used_in (marks_in t es i w j (suc n)) k) 1 ≡ (eqb (used_in w k) 1 || (eqb (value_at t i) (value_at t (node_in w k)) && held_of (get_or es k no_entry).standing))
        go (yes h) ih = ih h ∙ rw (mark_else (held_of (get_or es j no_entry).standing) w j (1024 + k) (omega arith), mark_else (held_of (get_or es j no_entry).standing) w j k (omega arith))
        go (no h) ih =
            let z : j ≡ k = omega arith in
            rw (← z) (ap (λ (x : ℕ). eqb x 1) (marks_in_else n (j + 1) (mark_words t (held_of (get_or es j no_entry).standing) w j i) (1024 + j) (λ x p q y. omega arith))
            ∙ mark_at (held_of (get_or es j no_entry).standing) w j (omega arith))

    -- the words v after the marks
    marks_else : (w : List ℕ) (a b k : ℕ) → ((x : ℕ) → a ≤ x → x < b → k ≡ 1024 + x → ⊥) → get_or (marks_of t es i w a b) k 0 ≡ get_or w k 0
    unfolding marks_of
    marks_else w a b k h = marks_in_else (b - a) a w k (λ x p q. h x p (omega arith))

    marks_length : (w : List ℕ) (a b : ℕ) → length (marks_of t es i w a b) ≡ length w
    unfolding marks_of
    marks_length w a b = marks_in_length (b - a) a w

    marks_entry : (w : List ℕ) (a b k : ℕ) → a ≤ k → k < b → b ≤ 1024 → 2048 ≤ length w
        → entry_in t (marks_of t es i w a b) es k ≡ mark_entry (value_at t i) (entry_in t w es) (entry_in t w es k)
    unfolding marks_of entry_in node_spot
    marks_entry w a b k p q r l = rw (marks_in_else (b - a) a w k (λ x y z. omega arith), marks_in_at (b - a) a w k p (omega arith) (omega arith) l)

    -- a scope whose settings are at these places, with these entries
    marks_room : (w : List ℕ) (o : Scope) → Fits w o → ((k : ℕ) → o.first ≤ k → k < o.settings → get_or o.entries k no_entry ≡ get_or es k no_entry)
        → room_of t (marks_of t es i w o.first o.settings) o ≡ mark_room (value_at t i) (room_of t w o)
    unfolding room_of
    marks_room w o f h =
        let v = marks_of t es i w o.first o.settings in
        let e : places (entry_in t v o.entries) o.first o.settings ≡ marks.marks (value_at t i) (places (entry_in t w o.entries) o.first o.settings) =
        same_entries t v v es o.entries o.first o.settings (λ k p q. refl) (λ k p q. refl) h
        ∙ agree (entry_in t v es) (λ k. mark_entry (value_at t i) (entry_in t w es) (entry_in t w es k)) o.first o.settings
        (λ k p q. marks_entry w o.first o.settings k p q f.settings (omega (arith, f.words)))
        ∙ sym (marks_places (value_at t i) (entry_in t w es) o.first o.settings)
        ∙ ap (marks.marks (value_at t i)) (sym (same_entries t w w es o.entries o.first o.settings (λ k p q. refl) (λ k p q. refl) h)) in
        rw (
          e,
          same_spots t w v o.cant o.cants (λ k p q. marks_else w o.first o.settings k (λ x y z. omega (arith, f.settings, f.cant_from))),
          same_spots t w v o.loose o.looses (λ k p q. marks_else w o.first o.settings k (λ x y z. omega (arith, f.settings, f.loose_from))),
        )

  -- the standing of the name
  level_in : (w : List ℕ) (es : List Entry) (a b : ℕ) → a ≤ b → level_at (value_at t i) (places (entry_in t w es) a b) ≡ level_of (standing_in t w es a b i)
  unfolding standing_in find_in alike_at entry_in node_spot
  level_in w es a b h =
      find_places (λ s. eqb (value_at t i) s.value) (λ e. e.level) marks.Absent (entry_in t w es) a b h
      ∙ go (ltb (seek (λ k. eqb (value_at t i) (value_at t (node_in w k))) a b) b)
    where
      go : (x : Bool) → pick x (level_of (get_or es (seek (λ k. eqb (value_at t i) (value_at t (node_in w k))) a b) no_entry).standing) marks.Absent
          ≡ level_of (pick x (get_or es (seek (λ k. eqb (value_at t i) (value_at t (node_in w k))) a b) no_entry).standing Absent)
      go true = refl
      go false = refl

abbrev pub mark_house : ℕ → House → House
mark_house x m = record { here = mark_room x m.here; above = m.above; out = m.out }

-- marks at places up to 1024 leave the counters' bounds and the scopes' first places
module _ (t w : List ℕ) (i : ℕ) (s : Scope) (es : List Entry) (a b : ℕ) (l : b ≤ 1024) (f : Fits w s) where
  marks_fits : Fits (marks_of t es i w a b) s
  marks_fits =
      record {
        words = omega (arith, f.words, marks_length t i es w a b);
        wide = f.wide;
        first = f.first;
        settings = f.settings;
        cant_from = f.cant_from;
        cant = f.cant;
        cants = f.cants;
        loose_from = f.loose_from;
        loose = f.loose;
        looses = f.looses;
        warnings = f.warnings;
        clean = f.clean;
        own = λ k p q. marks_else t i es w a b (2048 + k) (λ x y z. omega arith) ∙ f.own k p q;
      }

  marks_kept : Kept w s (marks_of t es i w a b) s
  marks_kept =
      record {
        first = refl;
        cant = refl;
        loose = refl;
        settings = omega arith;
        cants = omega arith;
        looses = omega arith;
        entries = λ k h. refl;
        bases = λ k h. marks_else t i es w a b (2048 + k) (λ x y z. omega arith);
      }

  marks_out : out_of t (marks_of t es i w a b) s.warnings ≡ out_of t w s.warnings
  marks_out = same_warnings t w (marks_of t es i w a b) s.warnings (λ k p q. marks_else t i es w a b k (λ x y z. omega arith)) (λ k p q. marks_else t i es w a b k (λ x y z. omega arith))

module _ (t w : List ℕ) (i : ℕ) (s : Scope) (f : Fits w s) where
  mark_does : Does t (λ m. Unit {0}) (mark_house (value_at t i)) w s (marks_of t s.entries i w s.first s.settings) s
  unfolding house_of
  mark_does =
      let v = marks_of t s.entries i w s.first s.settings in
      let else = marks_else t i s.entries w s.first s.settings in
      record {
        fits = marks_fits t w i s s.entries s.first s.settings f.settings f;
        kept = marks_kept t w i s s.entries s.first s.settings f.settings f;
        house = λ outer p q.
            rw (
              marks_room t i s.entries w s f (λ k x y. refl),
              rooms_same t w v outer s p (record {
                nodes = λ k h. else k (λ x y z. omega (arith, f.first, f.settings));
                used = λ k h. else (1024 + k) (λ x y z. omega arith);
                cants = λ k x y. else k (λ m n o. omega (arith, f.settings));
                looses = λ k x y. else k (λ m n o. omega (arith, f.settings));
              }),
              marks_out t w i s s.entries s.first s.settings f.settings f,
            );
      }

  -- a use of a name that has a standing in the innermost scope
  abbrev Taken : Standing → Type 0
  Taken st =
      Does t (λ m. RoomFor (use_level (node_spot t i) m (level_of st))) (λ m. use_level (node_spot t i) m (level_of st)) w s
      (taken_words t w s s.first s.settings i st) (taken_scope t w s s.first s.settings i st)

  taken_maybe : Taken Maybe
  unfolding taken_words taken_scope node_spot
  taken_maybe =
      let d = does_then t w (marks_of t s.entries i w s.first s.settings) (warn_words t (marks_of t s.entries i w s.first s.settings) s.warnings 6 i) s s
      (with_warnings (warn_count t (marks_of t s.entries i w s.first s.settings) s.warnings i) s) (λ m. Unit {0}) (λ m. length (warn 6 (node_spot t i) m.out) ≤ 1024)
      (mark_house (value_at t i)) (warn_house 6 (node_spot t i)) mark_does
      (warn_does t (marks_of t s.entries i w s.first s.settings) s 6 i mark_does.fits) in
      record { fits = d.fits; kept = d.kept; house = λ outer p q. d.house outer p (tt, q.3) }

  taken_surely : Taken Definitely
  unfolding taken_words taken_scope node_spot
  taken_surely = record { fits = mark_does.fits; kept = mark_does.kept; house = λ outer p q. mark_does.house outer p tt }

  taken_does : (st : Standing) → present_of st ≡ true → Taken st
  unfolding taken_words taken_scope
  taken_does Absent e = let z : ◌≡◌ {A = ℕ} 0 1 = cc in absurd (omega arith)
  taken_does Maybe e = taken_maybe
  taken_does Definitely e = taken_surely
  taken_does HeldAbsent e = let z : ◌≡◌ {A = ℕ} 0 1 = cc in absurd (omega arith)
  taken_does HeldMaybe e = taken_maybe
  taken_does HeldDefinitely e = taken_surely

-- the scopes outside
abbrev found_of : Standing → Found
found_of Absent = nowhere
found_of Maybe = perhaps
found_of Definitely = surely
found_of HeldAbsent = nowhere
found_of HeldMaybe = perhaps
found_of HeldDefinitely = surely

module _ (t w : List ℕ) (i : ℕ) (es : List Entry) where
  -- the scopes outer lie below place b, and es has their entries
  abbrev Under : List Scope → ℕ → Type 0
  Under [] b = b ≡ 0
  Under (o ∷ outer) b =
      (b ≡ o.settings) × ((k : ℕ) → k < o.settings → get_or o.entries k no_entry ≡ get_or es k no_entry) × Fits w o × Inside w o outer × Under outer o.first

  -- what a search outward finds, up to place b
  record At (outer : List Scope) (b B : ℕ) : Type 0 where
    low : 0 < B
    high : B ≤ b
    base : base_in w (B - 1) < B
    present : present_of (standing_in t w es (base_in w (B - 1)) B i) ≡ true
    looked : look_out (value_at t i) (rooms_of t w outer)
        ≡ record { found = found_of (standing_in t w es (base_in w (B - 1)) B i); rooms = rooms_of t (marks_of t es i w (base_in w (B - 1)) B) outer }

  record NoWhere (outer : List Scope) (B : ℕ) : Type 0 where
    zero : B ≡ 0
    looked : look_out (value_at t i) (rooms_of t w outer) ≡ record { found = nowhere; rooms = rooms_of t w outer }

  -- marks below a scope's places leave its room
  room_stays : (o : Scope) (a b : ℕ) → Fits w o → b ≤ o.first → room_of t (marks_of t es i w a b) o ≡ room_of t w o
  unfolding room_of
  room_stays o a b f h =
      let v = marks_of t es i w a b in
      let else = marks_else t i es w a b in
      rw (
        same_spots t w v o.cant o.cants (λ k p q. else k (λ x y z. omega (arith, f.first, f.settings, f.cant_from))),
        same_spots t w v o.loose o.looses (λ k p q. else k (λ x y z. omega (arith, f.first, f.settings, f.loose_from))),
        same_entries t w v o.entries o.entries o.first o.settings (λ k p q. else k (λ x y z. omega (arith, f.settings))) (λ k p q. else k (λ x y z. omega arith)) (λ k p q. refl),
      )

  room_level : (o : Scope) → Fits w o → ((k : ℕ) → k < o.settings → get_or o.entries k no_entry ≡ get_or es k no_entry)
      → level_at (value_at t i) (room_of t w o).entries ≡ level_of (standing_in t w es o.first o.settings i)
  unfolding room_of
  room_level o f h =
      ap (level_at (value_at t i)) (same_entries t w w es o.entries o.first o.settings (λ k p q. refl) (λ k p q. refl) (λ k p q. h k q))
      ∙ level_in t i w es o.first o.settings f.first

  room_empty : (o : Scope) → o.settings ≤ o.first → level_at (value_at t i) (room_of t w o).entries ≡ marks.Absent
  unfolding room_of
  room_empty o h = rw (places_none (entry_in t w o.entries) o.first o.settings h)

  -- a scope that has no standing for the name is passed
  passed_by : (o : Scope) (outer : List Scope) (b B : ℕ) → Fits w o → o.first ≤ b → level_at (value_at t i) (room_of t w o).entries ≡ marks.Absent
      → NoWhere outer B ⊎ At outer o.first B → NoWhere (o ∷ outer) B ⊎ At (o ∷ outer) b B
  unfolding rooms_of
  passed_by o outer b B f l e (inl n) = inl (record { zero = n.zero; looked = rw (e, n.looked) })
  passed_by o outer b B f l e (inr n) =
      inr (record {
        low = n.low;
        high = omega (arith, n.high);
        base = n.base;
        present = n.present;
        looked = rw (e, n.looked, room_stays o (base_in w (B - 1)) B f n.high);
      })

  found_here : (o : Scope) (outer : List Scope) (st : Standing) → Fits w o → Inside w o outer
      → ((k : ℕ) → k < o.settings → get_or o.entries k no_entry ≡ get_or es k no_entry)
      → level_at (value_at t i) (room_of t w o).entries ≡ level_of st → present_of st ≡ true
      → look_out (value_at t i) (rooms_of t w (o ∷ outer)) ≡ record { found = found_of st; rooms = rooms_of t (marks_of t es i w o.first o.settings) (o ∷ outer) }
  unfolding rooms_of
  found_here o outer st f n h e p =
      let v = marks_of t es i w o.first o.settings in
      let else = marks_else t i es w o.first o.settings in
      let r = marks_room t i es w o f (λ k x y. h k y) in
      let q = rooms_same t w v outer o n (record {
        nodes = λ k c. else k (λ x y z. omega (arith, f.first, f.settings));
        used = λ k c. else (1024 + k) (λ x y z. omega arith);
        cants = λ k c d. else k (λ x y z. omega (arith, f.settings));
        looses = λ k c d. else k (λ x y z. omega (arith, f.settings));
      }) in
      go st e p r q
    where
      go : (st : Standing) → level_at (value_at t i) (room_of t w o).entries ≡ level_of st → present_of st ≡ true
          → room_of t (marks_of t es i w o.first o.settings) o ≡ mark_room (value_at t i) (room_of t w o)
          → rooms_of t (marks_of t es i w o.first o.settings) outer ≡ rooms_of t w outer
          → look_step (value_at t i) (room_of t w o) (rooms_of t w outer) (look_out (value_at t i) (rooms_of t w outer)) (level_at (value_at t i) (room_of t w o).entries)
          ≡ record { found = found_of st; rooms = room_of t (marks_of t es i w o.first o.settings) o ∷ rooms_of t (marks_of t es i w o.first o.settings) outer }
      go Absent e p r q = let z : ◌≡◌ {A = ℕ} 0 1 = cc in absurd (omega arith)
      go Maybe e p r q = rw (e, r, q)
      go Definitely e p r q = rw (e, r, q)
      go HeldAbsent e p r q = let z : ◌≡◌ {A = ℕ} 0 1 = cc in absurd (omega arith)
      go HeldMaybe e p r q = rw (e, r, q)
      go HeldDefinitely e p r q = rw (e, r, q)

  sought : (outer : List Scope) (b B : ℕ) → Under outer b → outward_in t w es i b b ≡ B → NoWhere outer B ⊎ At outer b B
  unfolding rooms_of
  sought [] b B u e = inl (record { zero = sym e ∙ ap (λ (x : ℕ). outward_in t w es i x x) u ∙ outward_none t w es i 0; looked = none_there })
    where
      none_there : look_out (value_at t i) (rooms_of t w []) ≡ record { found = nowhere; rooms = rooms_of t w [] }
      none_there = refl
  sought (o ∷ outer) b B (q, h, f, n, u) e =
      go (dec_lt o.first o.settings) (present_of (standing_in t w es o.first o.settings i)) refl (λ p. sought outer o.first B u p)
    where
      e' : outward_in t w es i o.settings o.settings ≡ B
      e' = rw (← q) e

      absent : (st : Standing) → present_of st ≡ false → level_of st ≡ marks.Absent
      absent Absent p = refl
      absent Maybe p = let z : ◌≡◌ {A = ℕ} 0 1 = cc in absurd (omega arith)
      absent Definitely p = let z : ◌≡◌ {A = ℕ} 0 1 = cc in absurd (omega arith)
      absent HeldAbsent p = refl
      absent HeldMaybe p = let z : ◌≡◌ {A = ℕ} 0 1 = cc in absurd (omega arith)
      absent HeldDefinitely p = let z : ◌≡◌ {A = ℕ} 0 1 = cc in absurd (omega arith)

      base_is : o.first < o.settings → base_in w (o.settings - 1) ≡ o.first
      base_is l = f.own (o.settings - 1) (omega arith) (omega arith)

      go : Dec (o.first < o.settings) → (x : Bool) → present_of (standing_in t w es o.first o.settings i) ≡ x
          → (outward_in t w es i o.first o.first ≡ B → NoWhere outer B ⊎ At outer o.first B) → NoWhere (o ∷ outer) B ⊎ At (o ∷ outer) b B
      go (no l) x p rec =
          let z : o.settings ≡ o.first = omega (arith, f.first) in
          passed_by o outer b B f (omega (arith, f.first)) (room_empty o (omega arith)) (rec (rw z at e'))
      go (yes l) false p rec =
          passed_by o outer b B f (omega arith) (room_level o f h ∙ absent (standing_in t w es o.first o.settings i) p)
          (rec (rw (base_is l) at (sym (outward_on t w es i o.settings (omega arith) (rw (base_is l) l) (rw (base_is l) p)) ∙ e')))
      go (yes l) true p rec =
          let z : B ≡ o.settings = sym e' ∙ outward_here t w es i o.settings (omega arith) (rw (base_is l) l) (rw (base_is l) p) in
          inr (rw z (record {
            low = omega arith;
            high = omega arith;
            base = rw (base_is l) l;
            present = rw (base_is l) p;
            looked = subst (λ (x : ℕ). look_out (value_at t i) (rooms_of t w (o ∷ outer))
                ≡ record { found = found_of (standing_in t w es x o.settings i); rooms = rooms_of t (marks_of t es i w x o.settings) (o ∷ outer) })
                (sym (base_is l)) (found_here o outer (standing_in t w es o.first o.settings i) f n h (room_level o f h) p);
          }))

  under_of : (outer : List Scope) (s : Scope) → ((k : ℕ) → k < s.first → get_or s.entries k no_entry ≡ get_or es k no_entry) → Inside w s outer → Under outer s.first
  unfolding Inside
  under_of [] s h (a, b, c) = a
  under_of (o ∷ outer) s h (a, b, c, d, f, g) =
      (a, λ k q. sym (d k q) ∙ h k (omega arith), f, g, under_of outer o (λ k q. sym (d k (omega (arith, f.first))) ∙ h k (omega (arith, f.first))) g)

module _ (t w : List ℕ) (s : Scope) (i : ℕ) (f : Fits w s) where
  abbrev use_house : House → House
  use_house m = use_level (node_spot t i) m (level_at (node_spot t i).value m.here.entries)

  -- where the search outward ends
  abbrev B : ℕ
  B = outward_of t w s i

  -- the use is found outside: the spans of its name are used there
  abbrev away_house : House → House
  away_house m = record { here = m.here; above = (look_out (node_spot t i).value m.above).rooms; out = m.out }

  module _ (low : 0 < B) (base : base_in w (B - 1) < B) (small : B ≤ 1024) where
    abbrev marked : List ℕ
    marked = marks_of t s.entries i w (base_in w (B - 1)) B

    marked_does : Does t (λ m. Unit {0}) away_house w s marked s
    unfolding house_of outward_of node_spot
    marked_does =
        record {
          fits = marks_fits t w i s s.entries (base_in w (B - 1)) B small f;
          kept = marks_kept t w i s s.entries (base_in w (B - 1)) B small f;
          house = λ outer p q. go outer p (sought t w i s.entries outer s.first B (under_of t w i s.entries outer s (λ k h. refl) p) refl);
        }
      where
        go : (outer : List Scope) → Inside w s outer → NoWhere t w i s.entries outer B ⊎ At t w i s.entries outer s.first B
            → house_of t marked s outer ≡ away_house (house_of t w s outer)
        go outer p (inl n) = let z = n.zero in absurd (omega arith)
        go outer p (inr n) =
            rw (
              room_stays t w i s.entries s (base_in w (B - 1)) B f n.high,
              n.looked,
              marks_out t w i s s.entries (base_in w (B - 1)) B small f,
            )

  use_outside : House → House
  use_outside m = use_level (node_spot t i) m marks.Absent

  abbrev st : Standing
  st = standing_in t w s.entries (base_in w (B - 1)) B i

  abbrev Away : List ℕ → Scope → Type 0
  Away v r = Does t (λ m. RoomFor (use_outside m)) use_outside w s v r

  unfound : B ≡ 0 → Away (unbinds_words t (cannot_words t w s i) (cannot_scope t w s i) i) (unbinds_scope t (cannot_words t w s i) (cannot_scope t w s i) i)
  unfolding use_outside outward_of house_of node_spot
  unfound z =
      let c = cannot_does t w s i f in
      let d = does_then t w (cannot_words t w s i) (unbinds_words t (cannot_words t w s i) (cannot_scope t w s i) i) s (cannot_scope t w s i) (unbinds_scope t (cannot_words t w s i) (cannot_scope t w s i) i)
      (λ m. marks.total marks.cant_in (cannot_house t w s i f m) ≤ 1024)
      (λ m. marks.total marks.unbound_in (unbinds_house t (cannot_words t w s i) (cannot_scope t w s i) i c.fits m) ≤ 7168)
      (cannot_house t w s i f) (unbinds_house t (cannot_words t w s i) (cannot_scope t w s i) i c.fits) c (unbinds_does t (cannot_words t w s i) (cannot_scope t w s i) i c.fits) in
      record {
        fits = d.fits;
        kept = d.kept;
        house = λ outer p q.
            let e = same_there outer (sought t w i s.entries outer s.first B (under_of t w i s.entries outer s (λ k h. refl) p) refl) in
            d.house outer p ((rw e at q).1, (rw e at q).2) ∙ sym e;
      }
    where
      same_there : (outer : List Scope) → NoWhere t w i s.entries outer B ⊎ At t w i s.entries outer s.first B
          → use_level (node_spot t i) (house_of t w s outer) marks.Absent
          ≡ record { here = marks.unbinds_room (node_spot t i ∷ []) (marks.cannot_room (node_spot t i) (room_of t w s)); above = rooms_of t w outer; out = out_of t w s.warnings }
      same_there outer (inl n) = rw n.looked
      same_there outer (inr n) = absurd (omega (arith, n.low))

  module _ (low : 0 < B) (base : base_in w (B - 1) < B) (small : B ≤ 1024) where
    -- what the search found
    found_is : (outer : List Scope) → Inside w s outer → (present_of st ≡ true) × ((look_out (node_spot t i).value (rooms_of t w outer)).found ≡ found_of st)
    unfolding outward_of node_spot
    found_is outer p = go (sought t w i s.entries outer s.first B (under_of t w i s.entries outer s (λ k h. refl) p) refl)
      where
        go : NoWhere t w i s.entries outer B ⊎ At t w i s.entries outer s.first B → (present_of st ≡ true) × ((look_out (node_spot t i).value (rooms_of t w outer)).found ≡ found_of st)
        go (inl n) = absurd (omega (arith, n.zero))
        go (inr n) = (n.present, ap (λ (l : Looked). l.found) n.looked)

    definite : (x : Standing) → sure_of x ≡ true → found_of x ≡ surely
    definite Absent e = let z : ◌≡◌ {A = ℕ} 0 1 = cc in absurd (omega arith)
    definite Maybe e = let z : ◌≡◌ {A = ℕ} 0 1 = cc in absurd (omega arith)
    definite Definitely e = refl
    definite HeldAbsent e = let z : ◌≡◌ {A = ℕ} 0 1 = cc in absurd (omega arith)
    definite HeldMaybe e = let z : ◌≡◌ {A = ℕ} 0 1 = cc in absurd (omega arith)
    definite HeldDefinitely e = refl

    unsure : (x : Standing) → present_of x ≡ true → sure_of x ≡ false → found_of x ≡ perhaps
    unsure Absent p e = let z : ◌≡◌ {A = ℕ} 0 1 = cc in absurd (omega arith)
    unsure Maybe p e = refl
    unsure Definitely p e = let z : ◌≡◌ {A = ℕ} 0 1 = cc in absurd (omega arith)
    unsure HeldAbsent p e = let z : ◌≡◌ {A = ℕ} 0 1 = cc in absurd (omega arith)
    unsure HeldMaybe p e = refl
    unsure HeldDefinitely p e = let z : ◌≡◌ {A = ℕ} 0 1 = cc in absurd (omega arith)

    surely_does : sure_of st ≡ true → Away (cannot_words t (marked low base small) s i) (cannot_scope t (marked low base small) s i)
    unfolding use_outside house_of
    surely_does e =
        let v = marked low base small in
        let a = marked_does low base small in
        let d = does_then t w v (cannot_words t v s i) s s (cannot_scope t v s i) (λ m. Unit {0}) (λ m. marks.total marks.cant_in (cannot_house t v s i a.fits m) ≤ 1024)
        away_house (cannot_house t v s i a.fits) a (cannot_does t v s i a.fits) in
        record {
          fits = d.fits;
          kept = d.kept;
          house = λ outer p q.
              let n = (found_is outer p).1 ∙ definite st e in
              let z : use_level (node_spot t i) (house_of t w s outer) marks.Absent ≡ cannot_house t v s i a.fits (away_house (house_of t w s outer)) = rw n in
              d.house outer p (tt, (rw z at q).1) ∙ sym z;
        }

    perhaps_does : sure_of st ≡ false
        → Away (cannot_words t (warn_words t (marked low base small) s.warnings 6 i) (with_warnings (warn_count t (marked low base small) s.warnings i) s) i)
        (cannot_scope t (warn_words t (marked low base small) s.warnings 6 i) (with_warnings (warn_count t (marked low base small) s.warnings i) s) i)
    unfolding use_outside house_of
    perhaps_does e =
        let v = marked low base small in
        let a = marked_does low base small in
        let u = warn_words t v s.warnings 6 i in
        let r = with_warnings (warn_count t v s.warnings i) s in
        let b = does_then t w v u s s r (λ m. Unit {0}) (λ m. length (warn 6 (node_spot t i) m.out) ≤ 1024) away_house (warn_house 6 (node_spot t i)) a (warn_does t v s 6 i a.fits) in
        let d = does_then t w u (cannot_words t u r i) s r (cannot_scope t u r i) (λ m. Unit {0} × (length (warn 6 (node_spot t i) m.out) ≤ 1024))
        (λ m. marks.total marks.cant_in (cannot_house t u r i b.fits m) ≤ 1024)
        (λ m. warn_house 6 (node_spot t i) (away_house m)) (cannot_house t u r i b.fits) b (cannot_does t u r i b.fits) in
        record {
          fits = d.fits;
          kept = d.kept;
          house = λ outer p q.
              let x = found_is outer p in
              let n = x.1 ∙ unsure st x.0 e in
              let z : use_level (node_spot t i) (house_of t w s outer) marks.Absent ≡ cannot_house t u r i b.fits (warn_house 6 (node_spot t i) (away_house (house_of t w s outer))) = rw n in
              d.house outer p ((tt, (rw z at q).3), (rw z at q).1) ∙ sym z;
        }

  away_by : Dec (0 < B) → (x : Bool) → sure_of st ≡ x → B ≤ 1024 → (0 < B → base_in w (B - 1) < B) → Away (away_words t w s B i) (away_scope t w s B i)
  unfolding away_words away_scope taken_words taken_scope
  away_by (no h) x e l b = let z : B ≡ 0 = omega arith in rw (eq-eqb B 0 z) (unfound z)
  away_by (yes h) true e l b = rw (ne_eqb B 0 (λ z. omega arith), e) (surely_does h (b h) l e)
  away_by (yes h) false e l b = rw (ne_eqb B 0 (λ z. omega arith), e) (perhaps_does h (b h) l e)

  b_ends : (B ≤ s.first) × (0 < B → base_in w (B - 1) < B)
  unfolding outward_of
  b_ends = outward_ends t w s.entries i s.first s.first

  away_does : Away (away_words t w s B i) (away_scope t w s B i)
  away_does = away_by (dec_lt 0 B) (sure_of st) refl (omega (arith, b_ends.0, f.first, f.settings)) b_ends.1

  -- the standing in the innermost scope
  abbrev own : Standing
  own = standing_in t w s.entries s.first s.settings i

  own_level : (outer : List Scope) → level_at (node_spot t i).value (house_of t w s outer).here.entries ≡ level_of own
  unfolding house_of room_of node_spot
  own_level outer = level_in t i w s.entries s.first s.settings f.first

  pub used_does : Does t (λ m. RoomFor (use_house m)) use_house w s (used_words t w s i) (used_scope t w s i)
  unfolding used_words used_scope use_outside
  used_does = go (present_of own) refl
    where
      absent : (x : Standing) → present_of x ≡ false → level_of x ≡ marks.Absent
      absent Absent p = refl
      absent Maybe p = let z : ◌≡◌ {A = ℕ} 0 1 = cc in absurd (omega arith)
      absent Definitely p = let z : ◌≡◌ {A = ℕ} 0 1 = cc in absurd (omega arith)
      absent HeldAbsent p = refl
      absent HeldMaybe p = let z : ◌≡◌ {A = ℕ} 0 1 = cc in absurd (omega arith)
      absent HeldDefinitely p = let z : ◌≡◌ {A = ℕ} 0 1 = cc in absurd (omega arith)

      go : (x : Bool) → present_of own ≡ x → Does t (λ m. RoomFor (use_house m)) use_house w s (used_words t w s i) (used_scope t w s i)
      go true e =
          let d = taken_does t w i s f own e in
          rw e (record {
            fits = d.fits;
            kept = d.kept;
            house = λ outer p q. let z = ap (use_level (node_spot t i) (house_of t w s outer)) (own_level outer) in d.house outer p (rw z at q) ∙ sym z;
          })
      go false e =
          let d = away_does in
          rw e (record {
            fits = d.fits;
            kept = d.kept;
            house = λ outer p q. let z = ap (use_level (node_spot t i) (house_of t w s outer)) (own_level outer ∙ absent own e) in d.house outer p (rw z at q) ∙ sym z;
          })
