-- Setting: the method set does to the house what rules' Marks says. Assumes nothing.
use Prim.Native.Nat.{ℕ, suc, ◌+◌, ◌-◌, ◌≤◌, ◌<◌}
use native.Mathlib.Omega.{arith}
use native.Mathlib.Decide.{dec_lt}
use mathlib.Core.Path.{◌≡◌, refl, sym, ap, ◌∙◌}
use mathlib.Core.Bool.{Bool, true, false}
use mathlib.Core.List.{List, [], ◌∷◌, ◌++◌}
use mathlib.Core.Logic.{◌⊎◌, inl, inr}
use lib.Dec.{eqb}
use lib.ListN.{length, get_or, set, length-set, length-append}
use lib.Seq.{get_or-set_same}
use borrow.Author.Tests.{ltb-true, ltb-false, eq-eqb}
use Rattle.tree.specs.Bytes.{kind_at, value_at}
use Rattle.tree.specs.Forest.{node_spot}
use Rattle.rules.specs.Names.{same}
use Rattle.rules.specs.code.Marks as marks
use Rattle.rules.specs.code.Marks.{House, has_entry, set_entry, set_room, reset, resets, total, settings_in}
use Rattle.scope.specs.Lists.{places}
use Rattle.scope.specs.State.{sort_of, level_of, held_of, node_in, base_in, entry_in, room_of, house_of, no_entry, Fits, Inside, Kept}
use Rattle.scope.specs.Does.{RoomFor, Does}
use Rattle.scope.specs.Words.{alike_at, find_in, is_in, setting_at, sure_entry, reset_of, resets_in, with_settings, added_words, added_scope, settled_scope, set_scope}
use Rattle.scope.specs.declared.table.Like.TheVariants.{Setting as TheSetting}
use Rattle.scope.specs.declared.Entry.{Entry}
use Rattle.scope.specs.declared.Scope.{Scope}
use Rattle.scope.proofs.Lists.{places_last, places_length, agree}
use Rattle.scope.proofs.Seeks.{any_places, entry_any}
use Rattle.scope.proofs.Cells.{other_cell, same_warnings, same_spots}
use Rattle.scope.proofs.Over.{resets_before, resets_after, resets_at, resets_length, resets_places}
use Rattle.scope.proofs.Frames.{Calm, rooms_same, sum_settings, settings_length}
use Rattle.scope.proofs.Steps.{added_there, added_new, added_full}

abbrev pub set_house : List ℕ → ℕ → House → House
set_house t i m = record { here = set_room (sort_of (kind_at t i)) (node_spot t i) m.here; above = m.above; out = m.out }

sure_level : (b : Bool) → level_of (sure_entry b).standing ≡ marks.Definitely
sure_level false = refl
sure_level true = refl

sure_held : (b : Bool) → held_of (sure_entry b).standing ≡ b
sure_held false = refl
sure_held true = refl

-- an entry after a reset
reset_entry : (t w : List ℕ) (es fs : List Entry) (i k : ℕ) → get_or fs k no_entry ≡ reset_of t (get_or es k no_entry) (node_in w k) i
    → entry_in t w fs k ≡ reset (node_spot t i) (entry_in t w es k)
unfolding entry_in reset_of alike_at node_spot
reset_entry t w es fs i k e = go (eqb (value_at t (node_in w k)) (value_at t i)) refl
  where
    go : (x : Bool) → eqb (value_at t (node_in w k)) (value_at t i) ≡ x → entry_in t w fs k ≡ reset (node_spot t i) (entry_in t w es k)
    go true q = rw (e, q, sure_level (same (node_spot t i) (node_spot t (node_in w k))), sure_held (same (node_spot t i) (node_spot t (node_in w k))))
    go false q = rw (e, q)

has_in : (t w : List ℕ) (es : List Entry) (a b i : ℕ) → a ≤ b → has_entry (setting_at t i) (places (entry_in t w es) a b) ≡ is_in t w TheSetting a b i
unfolding find_in alike_at entry_in
has_in t w es a b i h = entry_any (setting_at t i) (places (entry_in t w es) a b) ∙ any_places (λ e. marks.same_setting (setting_at t i) (marks.setting_of e)) (entry_in t w es) a b h

module _ (t w : List ℕ) (s : Scope) (i : ℕ) (f : Fits w s) where
  -- every setting up to the last is reset
  settled_entries : places (entry_in t w (resets_in t w i s.entries s.first (s.settings - s.first))) s.first s.settings
      ≡ resets (node_spot t i) (places (entry_in t w s.entries) s.first s.settings)
  settled_entries =
      let e : s.first + (s.settings - s.first) ≡ s.settings = omega (arith, f.first) in
      agree (entry_in t w (resets_in t w i s.entries s.first (s.settings - s.first))) (λ k. reset (node_spot t i) (entry_in t w s.entries k)) s.first s.settings
      (λ k p q. reset_entry t w s.entries (resets_in t w i s.entries s.first (s.settings - s.first)) i k
      (resets_at t w i (s.settings - s.first) s.first s.entries k p (omega (arith, f.first)) (omega (arith, f.first, f.settings, f.wide))))
      ∙ sym (resets_places (node_spot t i) (entry_in t w s.entries) s.first s.settings)

  settled_fits : Fits w (settled_scope t w s i)
  unfolding settled_scope
  settled_fits =
      record {
        words = f.words;
        wide = resets_length t w i (s.settings - s.first) s.first s.entries ∙ f.wide;
        first = f.first;
        settings = f.settings;
        cant_from = f.cant_from;
        cant = f.cant;
        cants = f.cants;
        loose_from = f.loose_from;
        loose = f.loose;
        looses = f.looses;
        warnings = f.warnings;
        clean = λ k h. resets_after t w i (s.settings - s.first) s.first s.entries k (omega (arith, f.first)) ∙ f.clean k h;
        own = f.own;
      }

  settled_kept : Kept w s w (settled_scope t w s i)
  unfolding settled_scope
  settled_kept =
      record {
        first = refl;
        cant = refl;
        loose = refl;
        settings = omega arith;
        cants = omega arith;
        looses = omega arith;
        entries = λ k h. resets_before t w i (s.settings - s.first) s.first s.entries k h;
        bases = λ k h. refl;
      }

  settled_house : (outer : List Scope) → is_in t w TheSetting s.first s.settings i ≡ true
      → house_of t w (settled_scope t w s i) outer ≡ set_house t i (house_of t w s outer)
  unfolding settled_scope house_of room_of
  settled_house outer e = rw (has_in t w s.entries s.first s.settings i f.first, e, settled_entries)

  -- the new setting's words
  abbrev grown : List ℕ
  grown = set (set (set w s.settings i) (1024 + s.settings) 0) (2048 + s.settings) s.first

  abbrev wider : Scope
  wider = with_settings (s.settings + 1) s

  module _ (room : s.settings < 1024) where
    grown_else : (k : ℕ) → (k ≡ s.settings → ⊥) → (k ≡ 1024 + s.settings → ⊥) → (k ≡ 2048 + s.settings → ⊥) → get_or grown k 0 ≡ get_or w k 0
    grown_else k a b c =
        other_cell (set (set w s.settings i) (1024 + s.settings) 0) (2048 + s.settings) s.first k c
        ∙ other_cell (set w s.settings i) (1024 + s.settings) 0 k b
        ∙ other_cell w s.settings i k a

    grown_length : length grown ≡ length w
    grown_length =
        length-set (set (set w s.settings i) (1024 + s.settings) 0) (2048 + s.settings) s.first
        ∙ length-set (set w s.settings i) (1024 + s.settings) 0
        ∙ length-set w s.settings i

    grown_node : get_or grown s.settings 0 ≡ i
    grown_node =
        other_cell (set (set w s.settings i) (1024 + s.settings) 0) (2048 + s.settings) s.first s.settings (omega arith)
        ∙ other_cell (set w s.settings i) (1024 + s.settings) 0 s.settings (omega arith)
        ∙ get_or-set_same w s.settings i 0 (omega (arith, f.words))

    grown_used : get_or grown (1024 + s.settings) 0 ≡ 0
    grown_used =
        other_cell (set (set w s.settings i) (1024 + s.settings) 0) (2048 + s.settings) s.first (1024 + s.settings) (omega arith)
        ∙ get_or-set_same (set w s.settings i) (1024 + s.settings) 0 0 (omega (arith, f.words, length-set w s.settings i))

    grown_base : get_or grown (2048 + s.settings) 0 ≡ s.first
    grown_base =
        get_or-set_same (set (set w s.settings i) (1024 + s.settings) 0) (2048 + s.settings) s.first 0
        (omega (arith, f.words, length-set w s.settings i, length-set (set w s.settings i) (1024 + s.settings) 0))

    wider_fits : Fits grown wider
    wider_fits =
        record {
          words = omega (arith, f.words, grown_length);
          wide = f.wide;
          first = omega (arith, f.first);
          settings = omega arith;
          cant_from = f.cant_from;
          cant = f.cant;
          cants = f.cants;
          loose_from = f.loose_from;
          loose = f.loose;
          looses = f.looses;
          warnings = f.warnings;
          clean = λ k h. f.clean k (omega arith);
          own = λ k p q. go k p q (dec_lt k s.settings);
        }
      where
        go : (k : ℕ) → s.first ≤ k → k < s.settings + 1 → Dec (k < s.settings) → base_in grown k ≡ s.first
        go k p q (yes h) = grown_else (2048 + k) (omega arith) (omega arith) (omega arith) ∙ f.own k p h
        go k p q (no h) = let z : k ≡ s.settings = omega arith in rw z grown_base

    grown_calm : Calm w grown s
    grown_calm =
        record {
          nodes = λ k h. grown_else k (omega (arith, f.first)) (omega (arith, f.first)) (omega (arith, f.first));
          used = λ k h. grown_else (1024 + k) (omega (arith, f.first)) (omega (arith, f.first)) (omega (arith, f.first));
          cants = λ k p q. grown_else k (omega arith) (omega arith) (omega arith);
          looses = λ k p q. grown_else k (omega arith) (omega arith) (omega arith);
        }

    old_entry : (k : ℕ) → s.first ≤ k → k < s.settings → entry_in t grown s.entries k ≡ entry_in t w s.entries k
    unfolding entry_in
    old_entry k p q = rw (grown_else k (omega arith) (omega arith) (omega arith), grown_else (1024 + k) (omega arith) (omega arith) (omega arith))

    new_entry : reset (node_spot t i) (entry_in t grown s.entries s.settings)
        ≡ record { sort = sort_of (kind_at t i); spot = node_spot t i; used = false; held = true; level = marks.Definitely }
    unfolding entry_in
    new_entry = rw (grown_node, grown_used, f.clean s.settings (omega arith), eq-eqb (node_spot t i).value (node_spot t i).value refl, eq-eqb (node_spot t i).begin (node_spot t i).begin refl, eq-eqb (node_spot t i).end (node_spot t i).end refl)

    ap2 : {l m : List marks.Entry} {x y : marks.Entry} → l ≡ m → x ≡ y → l ++ (x ∷ []) ≡ m ++ (y ∷ [])
    ap2 p q = rw (p, q)

    grown_entries : places (λ k. reset (node_spot t i) (entry_in t grown s.entries k)) s.first (s.settings + 1)
        ≡ resets (node_spot t i) (places (entry_in t w s.entries) s.first s.settings)
        ++ (record { sort = sort_of (kind_at t i); spot = node_spot t i; used = false; held = true; level = marks.Definitely } ∷ [])
    grown_entries =
        places_last (λ k. reset (node_spot t i) (entry_in t grown s.entries k)) s.first s.settings f.first
        ∙ ap2
        (agree (λ k. reset (node_spot t i) (entry_in t grown s.entries k)) (λ k. reset (node_spot t i) (entry_in t w s.entries k)) s.first s.settings
        (λ k p q. ap (reset (node_spot t i)) (old_entry k p q))
        ∙ sym (resets_places (node_spot t i) (entry_in t w s.entries) s.first s.settings))
        new_entry

    wider_kept : Kept w s grown wider
    wider_kept =
        record {
          first = refl;
          cant = refl;
          loose = refl;
          settings = omega arith;
          cants = omega arith;
          looses = omega arith;
          entries = λ k h. refl;
          bases = λ k h. grown_else (2048 + k) (omega (arith, f.first)) (omega (arith, f.first)) (omega (arith, f.first));
        }

-- one change after another
pub kept_on : (w v u : List ℕ) (s r q : Scope) → Kept w s v r → Kept v r u q → Kept w s u q
kept_on w v u s r q a b =
    record {
      first = b.first ∙ a.first;
      cant = b.cant ∙ a.cant;
      loose = b.loose ∙ a.loose;
      settings = omega (arith, a.settings, b.settings);
      cants = omega (arith, a.cants, b.cants);
      looses = omega (arith, a.looses, b.looses);
      entries = λ k h. b.entries k (omega (arith, a.first)) ∙ a.entries k h;
      bases = λ k h. b.bases k (omega (arith, a.first)) ∙ a.bases k h;
    }

module _ (t w : List ℕ) (s : Scope) (i : ℕ) (f : Fits w s) where
  grown_house : (room : s.settings < 1024) (outer : List Scope) → Inside w s outer → is_in t w TheSetting s.first s.settings i ≡ false
      → house_of t (grown t w s i f) (settled_scope t (grown t w s i f) (wider t w s i f) i) outer ≡ set_house t i (house_of t w s outer)
  unfolding settled_scope house_of room_of
  grown_house room outer inside e =
      let v = grown t w s i f in
      let else = grown_else t w s i f room in
      rw (
        has_in t w s.entries s.first s.settings i f.first,
        e,
        settled_entries t v (wider t w s i f) i (wider_fits t w s i f room),
        resets_places (node_spot t i) (entry_in t v s.entries) s.first (s.settings + 1),
        grown_entries t w s i f room,
        rooms_same t w v outer s inside (grown_calm t w s i f room),
        same_spots t w v s.cant s.cants (λ k p q. else k (omega (arith, f.cant_from)) (omega (arith, f.cant_from)) (omega (arith, f.cant_from))),
        same_spots t w v s.loose s.looses (λ k p q. else k (omega (arith, f.loose_from)) (omega (arith, f.loose_from)) (omega (arith, f.loose_from))),
        same_warnings t w v s.warnings (λ k p q. else k (omega arith) (omega arith) (omega arith)) (λ k p q. else k (omega arith) (omega arith) (omega arith)),
      )

  -- a full scope has no room for one more
  full_not : (outer : List Scope) → Inside w s outer → is_in t w TheSetting s.first s.settings i ≡ false → 1024 ≤ s.settings
      → total settings_in (set_house t i (house_of t w s outer)) ≤ 1024 → ⊥
  unfolding house_of room_of
  full_not outer inside e h l =
      let es = places (entry_in t w s.entries) s.first s.settings in
      let n = settings_length (set_entry (sort_of (kind_at t i)) (node_spot t i) es) in
      omega (arith, n, length_put, sum_settings t w outer s inside, f.first)
    where
      resets_len : (l : List marks.Entry) → length (resets (node_spot t i) l) ≡ length l
      resets_len [] = refl
      resets_len (x ∷ l) = ap suc (resets_len l)

      length_put : length (set_entry (sort_of (kind_at t i)) (node_spot t i) (places (entry_in t w s.entries) s.first s.settings)) ≡ s.settings - s.first + 1
      length_put =
          let es = places (entry_in t w s.entries) s.first s.settings in
          rw (has_in t w s.entries s.first s.settings i f.first, e)
          (length-append (resets (node_spot t i) es) (record { sort = sort_of (kind_at t i); spot = node_spot t i; used = false; held = true; level = marks.Definitely } ∷ [])
          ∙ omega (arith, resets_len es, places_length (entry_in t w s.entries) s.first s.settings))

  pub set_does : Does t (λ m. RoomFor (set_house t i m)) (set_house t i) w s (added_words t w s i) (set_scope t w s i)
  unfolding set_scope
  set_does = go (is_in t w TheSetting s.first s.settings i) refl (dec_lt s.settings 1024)
    where
      here : (is_in t w TheSetting s.first s.settings i ≡ true) ⊎ ((is_in t w TheSetting s.first s.settings i ≡ false) × (1024 ≤ s.settings))
          → Does t (λ m. RoomFor (set_house t i m)) (set_house t i) w s w (settled_scope t w s i)
      here (inl e) = record { fits = settled_fits t w s i f; kept = settled_kept t w s i f; house = λ outer p q. settled_house t w s i f outer e }
      here (inr e) = record { fits = settled_fits t w s i f; kept = settled_kept t w s i f; house = λ outer p q. absurd (full_not outer p e.0 e.1 q.0) }

      more : is_in t w TheSetting s.first s.settings i ≡ false → (room : s.settings < 1024)
          → Does t (λ m. RoomFor (set_house t i m)) (set_house t i) w s (grown t w s i f) (settled_scope t (grown t w s i f) (wider t w s i f) i)
      more e room =
          record {
            fits = settled_fits t (grown t w s i f) (wider t w s i f) i (wider_fits t w s i f room);
            kept = kept_on w (grown t w s i f) (grown t w s i f) s (wider t w s i f) (settled_scope t (grown t w s i f) (wider t w s i f) i)
                (wider_kept t w s i f room) (settled_kept t (grown t w s i f) (wider t w s i f) i (wider_fits t w s i f room));
            house = λ outer p q. grown_house room outer p e;
          }

      go : (x : Bool) → is_in t w TheSetting s.first s.settings i ≡ x → Dec (s.settings < 1024)
          → Does t (λ m. RoomFor (set_house t i m)) (set_house t i) w s (added_words t w s i) (settled_scope t (added_words t w s i) (added_scope t w s i) i)
      go true e d = let a = added_there t w s i (ltb-true (find_in t w TheSetting s.first s.settings i) s.settings e) in rw (← a.0, ← a.1) (here (inl e))
      go false e (yes room) = let a = added_new t w s i (ltb-false (find_in t w TheSetting s.first s.settings i) s.settings e) room in rw (← a.0, ← a.1) (more e room)
      go false e (no h) = let a = added_full t w s i (ltb-false (find_in t w TheSetting s.first s.settings i) s.settings e) (omega arith) in rw (← a.0, ← a.1) (here (inr (e, omega arith)))
