-- Warning, and joining the can't-set or the unbound uses: what each does to the house. Assumes nothing.
use Prim.Native.Nat.{ℕ, ◌+◌, ◌-◌, ◌≤◌, ◌<◌}
use native.Mathlib.Omega.{arith}
use mathlib.Core.Path.{◌≡◌, refl, ap, ◌∙◌}
use mathlib.Core.Bool.{Bool, true, false}
use mathlib.Core.List.{List, [], ◌∷◌}
use lib.Dec.{ltb}
use lib.ListN.{length, get_or, set, length-set, length-append}
use borrow.Author.Tests.{ltb-true}
use Rattle.tree.specs.Bytes.{pick}
use Rattle.tree.specs.Forest.{Spot, node_spot}
use Rattle.rules.specs.Names.{same, Warning, warned, warn, warn_new}
use Rattle.rules.specs.code.Marks as marks
use Rattle.rules.specs.code.Marks.{House, put, inside, cannot_room, unbinds_room, total, cant_in, unbound_in}
use Rattle.scope.specs.Lists.{places}
use Rattle.scope.specs.State.{spot_in, warning_in, room_of, rooms_of, out_of, house_of, Fits, Inside, Kept}
use Rattle.scope.specs.Does.{Does}
use Rattle.scope.specs.Words.{is_in, with_warnings, warn_words, warn_count, join_words, cannot_words, cannot_scope, unbinds_words, unbinds_scope}
use Rattle.scope.specs.declared.table.Like.TheVariants.{Spot as TheSpot}
use Rattle.scope.specs.declared.Scope.{Scope}
use Rattle.scope.proofs.Lists.{places_length}
use Rattle.scope.proofs.Cells.{other_cell, same_spots, same_entries, same_warnings, warned_list, joined_list, join_else, join_length, join_end_is}
use Rattle.scope.proofs.Frames.{inside_on, rooms_same, sum_cants, sum_looses}
use Rattle.scope.proofs.Sets.{kept_on}

-- one change after another
pub does_then : (t w v u : List ℕ) (s r q : Scope) (P Q : House → Type 0) (f g : House → House)
    → Does t P f w s v r → Does t Q g v r u q → Does t (λ m. P m × Q (f m)) (λ m. g (f m)) w s u q
does_then t w v u s r q P Q f g a b =
    record {
      fits = b.fits;
      kept = kept_on w v u s r q a.kept b.kept;
      house = λ outer i p.
          let e = a.house outer i p.0 in
          b.house outer (inside_on w v a.fits.words outer s r a.kept i) (rw e p.1) ∙ ap g e;
    }

module _ (t w : List ℕ) (n code i : ℕ) where
  pub warn_else : (k : ℕ) → (n < 1024 → k ≡ 3072 + n → ⊥) → (n < 1024 → k ≡ 4096 + n → ⊥) → get_or (warn_words t w n code i) k 0 ≡ get_or w k 0
  unfolding warn_words
  warn_else k a b = go (is_in t w TheSpot 3072 (3072 + n) i) (ltb n 1024) refl
    where
      go : (x y : Bool) → ltb n 1024 ≡ y → get_or (pick x w (pick y (set (set w (3072 + n) i) (4096 + n) code) w)) k 0 ≡ get_or w k 0
      go true y e = refl
      go false true e = let h = ltb-true n 1024 e in other_cell (set w (3072 + n) i) (4096 + n) code k (b h) ∙ other_cell w (3072 + n) i k (a h)
      go false false e = refl

  pub warn_length : length (warn_words t w n code i) ≡ length w
  unfolding warn_words
  warn_length = go (is_in t w TheSpot 3072 (3072 + n) i) (ltb n 1024)
    where
      go : (x y : Bool) → length (pick x w (pick y (set (set w (3072 + n) i) (4096 + n) code) w)) ≡ length w
      go true y = refl
      go false true = length-set (set w (3072 + n) i) (4096 + n) code ∙ length-set w (3072 + n) i
      go false false = refl

  pub warn_count_is : n ≤ 1024 → warn_count t w n i ≤ 1024
  unfolding warn_count
  warn_count_is h = go (is_in t w TheSpot 3072 (3072 + n) i) (ltb n 1024) refl
    where
      go : (x y : Bool) → ltb n 1024 ≡ y → pick x n (pick y (n + 1) n) ≤ 1024
      go true y e = h
      go false true e = omega (arith, ltb-true n 1024 e)
      go false false e = h

pub out_length : (t w : List ℕ) (n : ℕ) → length (out_of t w n) ≡ n
unfolding out_of
out_length t w n = places_length (warning_in t w) 0 n ∙ omega arith

pub warn_room : (code : ℕ) (s : Spot) (ws : List Warning) → warned s ws ≡ false → length (warn code s ws) ≤ 1024 → length ws < 1024
warn_room code s ws e h = go (warned s ws) e h
  where
    go : (x : Bool) → x ≡ false → length (warn_new code s ws x) ≤ 1024 → length ws < 1024
    go true q l = let z : ◌≡◌ {A = ℕ} 0 1 = cc in absurd (omega arith)
    go false q l = omega (arith, length-append ws (record { code = code; spot = s } ∷ []))

abbrev pub warn_house : ℕ → Spot → House → House
warn_house code s m = record { here = m.here; above = m.above; out = warn code s m.out }

module _ (t w : List ℕ) (s : Scope) (code i : ℕ) (f : Fits w s) where
  warn_fits : Fits (warn_words t w s.warnings code i) (with_warnings (warn_count t w s.warnings i) s)
  warn_fits =
      let else = warn_else t w s.warnings code i in
      record {
        words = omega (arith, f.words, warn_length t w s.warnings code i);
        wide = f.wide;
        first = f.first;
        settings = f.settings;
        cant_from = f.cant_from;
        cant = f.cant;
        cants = f.cants;
        loose_from = f.loose_from;
        loose = f.loose;
        looses = f.looses;
        warnings = warn_count_is t w s.warnings code i f.warnings;
        clean = f.clean;
        own = λ k p q. else (2048 + k) (λ z y. omega (arith, f.settings)) (λ z y. omega (arith, f.settings)) ∙ f.own k p q;
      }

  warn_kept : Kept w s (warn_words t w s.warnings code i) (with_warnings (warn_count t w s.warnings i) s)
  warn_kept =
      let else = warn_else t w s.warnings code i in
      record {
        first = refl;
        cant = refl;
        loose = refl;
        settings = omega arith;
        cants = omega arith;
        looses = omega arith;
        entries = λ k h. refl;
        bases = λ k h. else (2048 + k) (λ z y. omega (arith, f.first, f.settings)) (λ z y. omega (arith, f.first, f.settings));
      }

  -- rooms read no word of the warnings
  warn_rooms : (outer : List Scope) → Inside w s outer → rooms_of t (warn_words t w s.warnings code i) outer ≡ rooms_of t w outer
  warn_rooms outer p =
      let else = warn_else t w s.warnings code i in
      rooms_same t w (warn_words t w s.warnings code i) outer s p
      (record {
        nodes = λ k h. else k (λ z y. omega (arith, f.first, f.settings)) (λ z y. omega (arith, f.first, f.settings));
        used = λ k h. else (1024 + k) (λ z y. omega (arith, f.first, f.settings)) (λ z y. omega (arith, f.first, f.settings));
        cants = λ k a b. else k (λ z y. omega (arith, f.warnings)) (λ z y. omega (arith, f.warnings));
        looses = λ k a b. else k (λ z y. omega (arith, f.warnings)) (λ z y. omega (arith, f.warnings));
      })

  warn_here : room_of t (warn_words t w s.warnings code i) (with_warnings (warn_count t w s.warnings i) s) ≡ room_of t w s
  unfolding room_of
  warn_here =
      let else = warn_else t w s.warnings code i in
      let v = warn_words t w s.warnings code i in
      rw (
        same_spots t w v s.cant s.cants (λ k a b. else k (λ z y. omega (arith, f.warnings, f.cant_from)) (λ z y. omega (arith, f.warnings, f.cant_from))),
        same_spots t w v s.loose s.looses (λ k a b. else k (λ z y. omega (arith, f.warnings, f.loose_from)) (λ z y. omega (arith, f.warnings, f.loose_from))),
        same_entries t w v s.entries s.entries s.first s.settings (λ k a b. else k (λ z y. omega (arith, f.settings)) (λ z y. omega (arith, f.settings)))
            (λ k a b. else k (λ z y. omega (arith, f.settings)) (λ z y. omega (arith, f.settings))) (λ k a b. refl),
      )

  pub warn_does : Does t (λ m. length (warn code (node_spot t i) m.out) ≤ 1024) (warn_house code (node_spot t i)) w s
      (warn_words t w s.warnings code i) (with_warnings (warn_count t w s.warnings i) s)
  unfolding house_of
  warn_does =
      record {
        fits = warn_fits;
        kept = warn_kept;
        house = λ outer p q.
            let room : warned (node_spot t i) (out_of t w s.warnings) ≡ false → s.warnings < 1024 = λ e. omega (arith, warn_room code (node_spot t i) (out_of t w s.warnings) e q, out_length t w s.warnings) in
            rw (warn_here, warn_rooms outer p, warned_list t w s.warnings code i (omega (arith, f.words)) room);
      }

-- a list of uses that grows: the words that it does not reach stay
module _ (t w : List ℕ) (s : Scope) (i : ℕ) (f : Fits w s) where
  abbrev pub cannot_house : House → House
  cannot_house m = record { here = cannot_room (node_spot t i) m.here; above = m.above; out = m.out }

  abbrev pub unbinds_house : House → House
  unbinds_house m = record { here = unbinds_room (node_spot t i ∷ []) m.here; above = m.above; out = m.out }

  cannot_fits : Fits (cannot_words t w s i) (cannot_scope t w s i)
  unfolding cannot_words cannot_scope
  cannot_fits =
      let else = join_else t w s.cant s.cants 6144 i in
      let e = join_end_is t w s.cant s.cants 6144 i f.cants in
      record {
        words = omega (arith, f.words, join_length t w s.cant s.cants 6144 i);
        wide = f.wide;
        first = f.first;
        settings = f.settings;
        cant_from = f.cant_from;
        cant = omega (arith, f.cant);
        cants = e.1;
        loose_from = f.loose_from;
        loose = f.loose;
        looses = f.looses;
        warnings = f.warnings;
        clean = f.clean;
        own = λ k p q. else (2048 + k) (λ z y. omega (arith, f.settings, f.cant, f.cant_from)) ∙ f.own k p q;
      }

  cannot_kept : Kept w s (cannot_words t w s i) (cannot_scope t w s i)
  unfolding cannot_words cannot_scope
  cannot_kept =
      let else = join_else t w s.cant s.cants 6144 i in
      let e = join_end_is t w s.cant s.cants 6144 i f.cants in
      record {
        first = refl;
        cant = refl;
        loose = refl;
        settings = omega arith;
        cants = e.0;
        looses = omega arith;
        entries = λ k h. refl;
        bases = λ k h. else (2048 + k) (λ z y. omega (arith, f.first, f.settings, f.cant, f.cant_from));
      }

  unbinds_fits : Fits (unbinds_words t w s i) (unbinds_scope t w s i)
  unfolding unbinds_words unbinds_scope
  unbinds_fits =
      let else = join_else t w s.loose s.looses 13312 i in
      let e = join_end_is t w s.loose s.looses 13312 i f.looses in
      record {
        words = omega (arith, f.words, join_length t w s.loose s.looses 13312 i);
        wide = f.wide;
        first = f.first;
        settings = f.settings;
        cant_from = f.cant_from;
        cant = f.cant;
        cants = f.cants;
        loose_from = f.loose_from;
        loose = omega (arith, f.loose);
        looses = e.1;
        warnings = f.warnings;
        clean = f.clean;
        own = λ k p q. else (2048 + k) (λ z y. omega (arith, f.settings, f.loose, f.loose_from)) ∙ f.own k p q;
      }

  unbinds_kept : Kept w s (unbinds_words t w s i) (unbinds_scope t w s i)
  unfolding unbinds_words unbinds_scope
  unbinds_kept =
      let else = join_else t w s.loose s.looses 13312 i in
      let e = join_end_is t w s.loose s.looses 13312 i f.looses in
      record {
        first = refl;
        cant = refl;
        loose = refl;
        settings = omega arith;
        cants = omega arith;
        looses = e.0;
        entries = λ k h. refl;
        bases = λ k h. else (2048 + k) (λ z y. omega (arith, f.first, f.settings, f.loose, f.loose_from));
      }

  -- one more, where it is not there yet
  put_room : (b : Bool) (l : List Spot) (m : ℕ) → b ≡ false → length (put b (node_spot t i) l) ≤ m → length l < m
  put_room true l m e h = let z : ◌≡◌ {A = ℕ} 0 1 = cc in absurd (omega arith)
  put_room false l m e h = omega (arith, length-append l (node_spot t i ∷ []))

  pub cannot_does : Does t (λ m. total cant_in (cannot_house m) ≤ 1024) cannot_house w s (cannot_words t w s i) (cannot_scope t w s i)
  unfolding house_of room_of cannot_words cannot_scope
  cannot_does =
      let else = join_else t w s.cant s.cants 6144 i in
      let v = join_words t w s.cant s.cants 6144 i in
      record {
        fits = cannot_fits;
        kept = cannot_kept;
        house = λ outer p q.
            let l = places (spot_in t w) s.cant s.cants in
            let room : inside same (node_spot t i) l ≡ false → s.cants < 6144 = λ e.
            let c = sum_cants t w outer s p in
            let n = places_length (spot_in t w) s.cant s.cants in
            omega (arith, put_room (inside same (node_spot t i) l) l (1024 - marks.sum cant_in (rooms_of t w outer)) e (omega (arith, q)), f.cant) in
            rw (
              joined_list t w s.cant s.cants 6144 i f.cant (omega (arith, f.cants, f.words)) room,
              rooms_same t w v outer s p (record {
                nodes = λ k h. else k (λ z y. omega (arith, f.first, f.settings, f.cant, f.cant_from));
                used = λ k h. else (1024 + k) (λ z y. omega (arith, f.first, f.settings, f.cant, f.cant_from));
                cants = λ k a b. else k (λ z y. omega (arith, f.cant));
                looses = λ k a b. else k (λ z y. omega (arith, f.cants));
              }),
              same_spots t w v s.loose s.looses (λ k a b. else k (λ z y. omega (arith, f.cants, f.loose_from))),
              same_entries t w v s.entries s.entries s.first s.settings (λ k a b. else k (λ z y. omega (arith, f.settings, f.cant, f.cant_from)))
                  (λ k a b. else k (λ z y. omega (arith, f.settings, f.cant, f.cant_from))) (λ k a b. refl),
              same_warnings t w v s.warnings (λ k a b. else k (λ z y. omega (arith, f.warnings, f.cant, f.cant_from))) (λ k a b. else k (λ z y. omega (arith, f.warnings, f.cant, f.cant_from))),
            );
      }

  pub unbinds_does : Does t (λ m. total unbound_in (unbinds_house m) ≤ 7168) unbinds_house w s (unbinds_words t w s i) (unbinds_scope t w s i)
  unfolding house_of room_of unbinds_words unbinds_scope
  unbinds_does =
      let else = join_else t w s.loose s.looses 13312 i in
      let v = join_words t w s.loose s.looses 13312 i in
      record {
        fits = unbinds_fits;
        kept = unbinds_kept;
        house = λ outer p q.
            let l = places (spot_in t w) s.loose s.looses in
            let room : inside same (node_spot t i) l ≡ false → s.looses < 13312 = λ e.
            let c = sum_looses t w outer s p in
            let n = places_length (spot_in t w) s.loose s.looses in
            omega (arith, put_room (inside same (node_spot t i) l) l (7168 - marks.sum unbound_in (rooms_of t w outer)) e (omega (arith, q)), f.loose) in
            rw (
              joined_list t w s.loose s.looses 13312 i f.loose (omega (arith, f.looses, f.words)) room,
              rooms_same t w v outer s p (record {
                nodes = λ k h. else k (λ z y. omega (arith, f.first, f.settings, f.loose, f.loose_from));
                used = λ k h. else (1024 + k) (λ z y. omega (arith, f.first, f.settings, f.loose, f.loose_from));
                cants = λ k a b. else k (λ z y. omega (arith, f.cant, f.cants, f.loose, f.loose_from));
                looses = λ k a b. else k (λ z y. omega (arith, f.loose));
              }),
              same_spots t w v s.cant s.cants (λ k a b. else k (λ z y. omega (arith, f.cants, f.loose, f.loose_from))),
              same_entries t w v s.entries s.entries s.first s.settings (λ k a b. else k (λ z y. omega (arith, f.settings, f.loose, f.loose_from)))
                  (λ k a b. else k (λ z y. omega (arith, f.settings, f.loose, f.loose_from))) (λ k a b. refl),
              same_warnings t w v s.warnings (λ k a b. else k (λ z y. omega (arith, f.warnings, f.loose, f.loose_from))) (λ k a b. else k (λ z y. omega (arith, f.warnings, f.loose, f.loose_from))),
            );
      }
