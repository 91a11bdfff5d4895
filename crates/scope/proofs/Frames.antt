-- What a change of the words leaves of the scopes outside. Assumes nothing.
use Prim.Native.Nat.{ℕ, suc, ◌+◌, ◌-◌, ◌≤◌, ◌<◌}
use native.Mathlib.Omega.{arith}
use mathlib.Core.Path.{◌≡◌, refl, sym, ap, ◌∙◌}
use mathlib.Core.List.{List, [], ◌∷◌}
use lib.ListN.{length}
use Rattle.rules.specs.code.Marks as marks
use Rattle.rules.specs.code.Marks.{settings_of, settings_in, cant_in, unbound_in, sum}
use Rattle.scope.specs.Lists.{places}
use Rattle.scope.specs.State.{node_in, used_in, base_in, spot_in, entry_in, room_of, rooms_of, Fits, Inside, Kept}
use Rattle.scope.specs.declared.Scope.{Scope}
use Rattle.scope.proofs.Lists.{places_length}
use Rattle.scope.proofs.Cells.{SameCells, same_spots, same_entries}
use Rattle.rules.specs.Outcome.{work_words}

-- the words of the scopes outside s stay
pub record Calm (w v : List ℕ) (s : Scope) : Type 0 where
  pub nodes : (k : ℕ) → k < s.first → node_in v k ≡ node_in w k
  pub used : (k : ℕ) → k < s.first → used_in v k ≡ used_in w k
  pub cants : SameCells w v 5120 s.cant
  pub looses : SameCells w v 6144 s.loose

module _ (w v : List ℕ) (long : work_words ≤ length v) where
  fits_on : (o : Scope) → ((k : ℕ) → k < o.settings → base_in v k ≡ base_in w k) → Fits w o → Fits v o
  fits_on o h f =
      record {
        words = long;
        wide = f.wide;
        first = f.first;
        settings = f.settings;
        cant_from = f.cant_from;
        cant = f.cant;
        cants = f.cants;
        loose_from = f.loose_from;
        loose = f.loose;
        looses = f.looses;
        warnings = f.warnings;
        clean = f.clean;
        own = λ k p q. h k q ∙ f.own k p q;
      }

  inside_same : (outer : List Scope) (s : Scope) → ((k : ℕ) → k < s.first → base_in v k ≡ base_in w k) → Inside w s outer → Inside v s outer
  unfolding Inside
  inside_same [] s h p = p
  inside_same (o ∷ outer) s h (a, b, c, d, f, g) =
      (a, b, c, d, fits_on o (λ k q. h k (omega arith)) f, inside_same outer o (λ k q. h k (omega (arith, f.first))) g)

  pub inside_on : (outer : List Scope) (s r : Scope) → Kept w s v r → Inside w s outer → Inside v r outer
  unfolding Inside
  inside_on [] s r k (a, b, c) = (k.first ∙ a, k.cant ∙ b, k.loose ∙ c)
  inside_on (o ∷ outer) s r k (a, b, c, d, f, g) =
      let e = k.bases in (
        k.first ∙ a,
        k.cant ∙ b,
        k.loose ∙ c,
        λ j q. k.entries j (omega arith) ∙ d j q,
        fits_on o (λ j q. e j (omega arith)) f,
        inside_same outer o (λ j q. e j (omega (arith, f.first))) g,
      )

module _ (t w v : List ℕ) where
  calm_out : (s o : Scope) → Fits w o → s.first ≡ o.settings → s.cant ≡ o.cants → s.loose ≡ o.looses → Calm w v s → Calm w v o
  calm_out s o f a b c k =
      record {
        nodes = λ j q. k.nodes j (omega (arith, f.first));
        used = λ j q. k.used j (omega (arith, f.first));
        cants = λ j p q. k.cants j p (omega (arith, f.cant));
        looses = λ j p q. k.looses j p (omega (arith, f.loose));
      }

  room_out : (s o : Scope) → Fits w o → s.first ≡ o.settings → s.cant ≡ o.cants → s.loose ≡ o.looses → Calm w v s → room_of t v o ≡ room_of t w o
  unfolding room_of
  room_out s o f a b c k =
      rw (
        same_spots t w v o.cant o.cants (λ j p q. k.cants j (omega (arith, f.cant_from)) (omega arith)),
        same_spots t w v o.loose o.looses (λ j p q. k.looses j (omega (arith, f.loose_from)) (omega arith)),
        same_entries t w v o.entries o.entries o.first o.settings (λ j p q. k.nodes j (omega arith))
            (λ j p q. let z : j ≡ 1024 + (j - 1024) = omega arith in rw z (k.used (j - 1024) (omega arith))) (λ j p q. refl),
      )

  pub rooms_same : (outer : List Scope) (s : Scope) → Inside w s outer → Calm w v s → rooms_of t v outer ≡ rooms_of t w outer
  unfolding Inside rooms_of
  rooms_same [] s i k = refl
  rooms_same (o ∷ outer) s (a, b, c, d, f, g) k = rw (room_out s o f a b c k, rooms_same outer o g (calm_out s o f a b c k))

-- how much is held: the counters say it
pub settings_length : (es : List marks.Entry) → length (settings_of es) ≡ length es
settings_length [] = refl
settings_length (e ∷ es) = ap suc (settings_length es)

module _ (t w : List ℕ) where
  pub room_settings : (s : Scope) → length (settings_in (room_of t w s)) ≡ s.settings - s.first
  unfolding room_of
  room_settings s = settings_length (places (entry_in t w s.entries) s.first s.settings) ∙ places_length (entry_in t w s.entries) s.first s.settings

  pub room_cants : (s : Scope) → length (cant_in (room_of t w s)) ≡ s.cants - s.cant
  unfolding room_of
  room_cants s = places_length (spot_in t w) s.cant s.cants

  pub room_looses : (s : Scope) → length (unbound_in (room_of t w s)) ≡ s.looses - s.loose
  unfolding room_of
  room_looses s = places_length (spot_in t w) s.loose s.looses

  pub sum_settings : (outer : List Scope) (s : Scope) → Inside w s outer → sum settings_in (rooms_of t w outer) ≡ s.first
  unfolding Inside rooms_of
  sum_settings [] s (a, b, c) = sym a
  sum_settings (o ∷ outer) s (a, b, c, d, f, g) = omega (arith, room_settings o, sum_settings outer o g, f.first)

  pub sum_cants : (outer : List Scope) (s : Scope) → Inside w s outer → sum cant_in (rooms_of t w outer) + 5120 ≡ s.cant
  unfolding Inside rooms_of
  sum_cants [] s (a, b, c) = omega arith
  sum_cants (o ∷ outer) s (a, b, c, d, f, g) = omega (arith, room_cants o, sum_cants outer o g, f.cant)

  pub sum_looses : (outer : List Scope) (s : Scope) → Inside w s outer → sum unbound_in (rooms_of t w outer) + 6144 ≡ s.loose
  unfolding Inside rooms_of
  sum_looses [] s (a, b, c) = omega arith
  sum_looses (o ∷ outer) s (a, b, c, d, f, g) = omega (arith, room_looses o, sum_looses outer o g, f.loose)
