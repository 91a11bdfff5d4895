-- How the parts of the walk go together: a law for each command. Assumes nothing.
use Prim.Native.Nat.{ℕ, suc, ◌≤◌}
use native.Mathlib.Omega.{arith}
use mathlib.Core.Path.{◌≡◌, refl, sym, ap, ap₂, ◌∙◌}
use mathlib.Core.Bool.{Bool, true, false}
use mathlib.Core.List.{List, ◌∷◌}
use lib.Dec.{leb}
use Rattle.tree.specs.Bytes.{pick}
use Rattle.tree.specs.Table.{table_of, underscored}
use Rattle.rules.specs.Names.{Abort, stop_abort, unloop}
use Rattle.rules.specs.Order.{Cmd, Stop, skip, ◌⨟◌, use_of, set_of, stop, branch, loop, scope, picked}
use Rattle.rules.specs.code.Marks.{House, tour, Every, EveryRounds, mid, enter_house, leave_house, stop_room, round_house, rounds_house}
use Rattle.scope.specs.State.{abort_of, room_of, rooms_of, out_of, house_of, Fits, Inside, Kept}
use Rattle.scope.specs.Words.{with_abort, unloop_of, back_scope, merged_scope, join_scope, enter_scope, leave_words, leave_scope}
use Rattle.scope.specs.Does.{RoomFor, Does}
use Rattle.names.specs.Walk.{Goes, Turns}
use Rattle.scope.specs.declared.Abort.{Abort as Halt}
use Rattle.scope.specs.declared.Abort.TheVariants.{Runs, Loop, Function}
use Rattle.scope.specs.declared.Scope.{Scope}
use Rattle.scope.proofs.Lists.{places_none}
use Rattle.scope.proofs.Kept.{kept_same, kept_on, inside_kept}
use Rattle.scope.proofs.Sides.{both}
use Rattle.names.proofs.Methods.{Methods}

-- what holds at every moment holds at the first
every_now : (u : ℕ → Bool) (P : House → Type 0) (c : Cmd) (d : ℕ) (m : House) → Every u P d c m → P m
every_now u P skip d m p = p
every_now u P (a ⨟ b) d m p = every_now u P a d m p.0
every_now u P (use_of s) d m p = p.0
every_now u P (set_of o s) d m p = p.0
every_now u P (stop w) d m p = p.0
every_now u P (branch a b) d m p = every_now u P a d m p.0
every_now u P (loop c) d m p = first_round (leb (suc d) 5) (every_now u P c (suc d) m) p
  where
    first_round : (b : Bool) → (Every u P (suc d) c m → P m) → EveryRounds u P b (Every u P (suc d) c) (tour u (suc d) c) m → P m
    first_round true f q = f q.0.0
    first_round false f q = f q.0
every_now u P (scope c) d m p = p.0

-- and at the last
pub every_end : (u : ℕ → Bool) (P : House → Type 0) (c : Cmd) (d : ℕ) (m : House) → Every u P d c m → P (tour u d c m)
every_end u P skip d m p = p
every_end u P (a ⨟ b) d m p = every_end u P b d (tour u d a m) p.1
every_end u P (use_of s) d m p = p.1
every_end u P (set_of o s) d m p = p.1
every_end u P (stop w) d m p = p.1
every_end u P (branch a b) d m p = p.2
every_end u P (loop c) d m p = last_round (leb (suc d) 5) p
  where
    last_round : (b : Bool) → EveryRounds u P b (Every u P (suc d) c) (tour u (suc d) c) m → P (rounds_house b (tour u (suc d) c) m)
    last_round true q = q.1.2
    last_round false q = q.2
every_end u P (scope c) d m p = p.2

fits_abort : (a : Halt) {w : List ℕ} {s : Scope} → Fits w s → Fits w (with_abort a s)
fits_abort a f =
    record {
      words = f.words;
      wide = f.wide;
      first = f.first;
      settings = f.settings;
      cant_from = f.cant_from;
      cant = f.cant;
      cants = f.cants;
      loose_from = f.loose_from;
      loose = f.loose;
      looses = f.looses;
      warnings = f.warnings;
      clean = f.clean;
      own = f.own;
    }

module _ {t : List ℕ} {d : ℕ} where
  -- nothing to do
  pub skips : {w : List ℕ} {s : Scope} → Fits w s → Goes t d skip w s w s
  skips {w} {s} f = record { does = record { fits = f; kept = kept_same w s; house = λ outer i p. refl } }

  -- one after the other
  pub then : {a b : Cmd} {w v x : List ℕ} {s q r : Scope} → Goes t d a w s v q → Goes t d b v q x r → Goes t d (a ⨟ b) w s x r
  then {a} {b} {w} {v} {x} {s} {q} {r} g h =
      record {
        does = record {
          fits = h.does.fits;
          kept = kept_on g.does.kept h.does.kept;
          house = λ outer i p.
              let e = g.does.house outer i p.0 in
              h.does.house outer (inside_kept outer g.does.fits.words g.does.kept i) (rw e p.1) ∙ ap (tour (underscored (table_of t)) d b) e;
        };
      }

  -- the same, where the first does nothing
  pub nothing_then : {b : Cmd} {w v x : List ℕ} {s q r : Scope} → Goes t d skip w s v q → Goes t d b v q x r → Goes t d b w s x r
  nothing_then {b} {w} {v} {x} {s} {q} {r} g h =
      record {
        does = record {
          fits = h.does.fits;
          kept = kept_on g.does.kept h.does.kept;
          house = λ outer i p.
              let e = g.does.house outer i (every_now (underscored (table_of t)) RoomFor b d (house_of t w s outer) p) in
              h.does.house outer (inside_kept outer g.does.fits.words g.does.kept i) (rw e p) ∙ ap (tour (underscored (table_of t)) d b) e;
        };
      }

  -- where a test decides whether it is done
  pub picks : (y : Bool) (a b : Cmd) {w v x : List ℕ} {s q r : Scope} → Goes t d (pick y a skip) w s v q → Goes t d b v q x r → Goes t d (picked y a b) w s x r
  picks true a b g h = then g h
  picks false a b g h = nothing_then g h

  pub stops : (why : Stop) (a : Halt) → abort_of a ≡ stop_abort why → {w : List ℕ} {s : Scope} → Fits w s → Goes t d (stop why) w s w (with_abort a s)
  unfolding house_of room_of
  stops why a e {w} {s} f =
      record {
        does = record {
          fits = fits_abort a f;
          kept = record {
            first = refl;
            cant = refl;
            loose = refl;
            settings = omega arith;
            cants = omega arith;
            looses = omega arith;
            entries = λ k h. refl;
            bases = λ k h. refl;
          };
          house = λ outer i p. ap (λ (z : Abort). record { here = stop_room z (room_of t w s); above = rooms_of t w outer; out = out_of t w s.warnings }) e;
        };
      }

-- a branch: both sides start from s
fits_back : {w v : List ℕ} {s one : Scope} → Fits w s → Fits v one → Kept w s v one → Fits v (back_scope s one)
unfolding back_scope
fits_back f g k =
    record {
      words = g.words;
      wide = f.wide;
      first = g.first;
      settings = g.settings;
      cant_from = g.cant_from;
      cant = g.cant;
      cants = g.cants;
      loose_from = g.loose_from;
      loose = g.loose;
      looses = g.looses;
      warnings = g.warnings;
      clean = λ j h. f.clean j (omega (arith, k.settings));
      own = g.own;
    }

kept_back : {w v : List ℕ} {s one : Scope} → Kept w s v one → Kept w s v (back_scope s one)
unfolding back_scope
kept_back k =
    record {
      first = k.first;
      cant = k.cant;
      loose = k.loose;
      settings = k.settings;
      cants = k.cants;
      looses = k.looses;
      entries = λ j h. refl;
      bases = k.bases;
    }

same_back : (v : List ℕ) (s one : Scope) → ((back_scope s one).first ≡ one.first) × (one.settings ≤ (back_scope s one).settings)
unfolding back_scope
same_back v s one = (refl, omega arith)

kept_join : {t : List ℕ} → Methods t → {w v x : List ℕ} {s : Scope} (one : Scope) {two : Scope} → Kept w s v (back_scope s one) → Kept v (back_scope s one) x two → Kept w s x (join_scope one two)
unfolding join_scope merged_scope
kept_join ms {s = s} one {two} a b =
    let k = kept_on a b in
    record {
      first = k.first;
      cant = k.cant;
      loose = k.loose;
      settings = k.settings;
      cants = k.cants;
      looses = k.looses;
      entries = λ j h. ms.join_below one two j (rw k.first h) ∙ k.entries j h;
      bases = k.bases;
    }

-- a scope inside s
fits_enter : {w : List ℕ} {s : Scope} → Fits w s → Fits w (enter_scope s)
unfolding enter_scope
fits_enter {w} {s} f =
    record {
      words = f.words;
      wide = f.wide;
      first = omega arith;
      settings = f.settings;
      cant_from = omega (arith, f.cant_from, f.cant);
      cant = omega arith;
      cants = f.cants;
      loose_from = omega (arith, f.loose_from, f.loose);
      loose = omega arith;
      looses = f.looses;
      warnings = f.warnings;
      clean = f.clean;
      own = λ k a b. omega arith;
    }

inside_enter : {w : List ℕ} {s : Scope} (outer : List Scope) → Fits w s → Inside w s outer → Inside w (enter_scope s) (s ∷ outer)
unfolding enter_scope Inside
inside_enter outer f i = (refl, refl, refl, λ k h. refl, f, i)

house_enter : (t w : List ℕ) (s : Scope) (outer : List Scope) → house_of t w (enter_scope s) (s ∷ outer) ≡ enter_house (house_of t w s outer)
unfolding enter_scope house_of room_of rooms_of
house_enter t w s outer = rw (places_none _ s.settings s.settings (omega arith), places_none _ s.cants s.cants (omega arith), places_none _ s.looses s.looses (omega arith))

unloop_same : (a : Halt) → abort_of (unloop_of a) ≡ unloop (abort_of a)
unloop_same Runs = refl
unloop_same Loop = refl
unloop_same Function = refl

house_abort : (t w : List ℕ) (a : Halt) (s : Scope) (outer : List Scope)
    → house_of t w (with_abort a s) outer ≡ record { here = stop_room (abort_of a) (house_of t w s outer).here; above = (house_of t w s outer).above; out = (house_of t w s outer).out }
unfolding house_of room_of
house_abort t w a s outer = refl

kept_abort : {w v : List ℕ} {s r : Scope} (a : Halt) → Kept w s v r → Kept w s v (with_abort a r)
kept_abort a k =
    record {
      first = k.first;
      cant = k.cant;
      loose = k.loose;
      settings = k.settings;
      cants = k.cants;
      looses = k.looses;
      entries = k.entries;
      bases = k.bases;
    }

here_abort : (t w : List ℕ) (s : Scope) (outer : List Scope) → (house_of t w s outer).here.abort ≡ abort_of s.abort
unfolding house_of room_of
here_abort t w s outer = refl

-- the state after a round
abbrev pub round_scope : Scope → Scope → Scope
round_scope s one = with_abort (unloop_of (join_scope one (back_scope s one)).abort) (join_scope one (back_scope s one))

abbrev unlooped : House → House
unlooped m = record { here = stop_room (unloop m.here.abort) m.here; above = m.above; out = m.out }

module _ {t : List ℕ} (ms : Methods t) {d : ℕ} where
  pub sides : {a b : Cmd} {w v x : List ℕ} {s one two : Scope} → Fits w s → Goes t d a w s v one → Goes t d b v (back_scope s one) x two
      → Goes t d (branch a b) w s x (join_scope one two)
  sides {a} {b} {w} {v} {x} {s} {one} {two} f g h =
      record {
        does = record {
          fits = ms.join_fits one two h.does.fits;
          kept = kept_join ms one (kept_back g.does.kept) h.does.kept;
          house = λ outer i p.
              let e = g.does.house outer i p.0 in
              let q : house_of t v (back_scope s one) outer ≡ mid (house_of t w s outer) (tour (underscored (table_of t)) d a (house_of t w s outer))
              = ms.back f g.does.fits g.does.kept outer ∙ ap (mid (house_of t w s outer)) e in
              let e₂ = h.does.house outer (inside_kept outer g.does.fits.words (kept_back g.does.kept) i) (rw q p.1) in
              ms.join g.does.fits h.does.fits (h.does.kept.first ∙ (same_back v s one).0) (omega (arith, h.does.kept.settings, (same_back v s one).1)) outer
              ∙ ap₂ both e (e₂ ∙ ap (tour (underscored (table_of t)) d b) q);
        };
      }

  pub turns : {c : Cmd} {w v : List ℕ} {s one : Scope} → Fits w s → Goes t d c w s v one → Turns t d c w s v (round_scope s one)
  turns {c} {w} {v} {s} {one} f g =
      let fb = fits_back f g.does.fits g.does.kept in
      let kj = kept_join ms one (kept_back g.does.kept) (kept_same v (back_scope s one)) in
      record {
        does = record {
          fits = fits_abort (unloop_of (join_scope one (back_scope s one)).abort) (ms.join_fits one (back_scope s one) fb);
          kept = kept_abort (unloop_of (join_scope one (back_scope s one)).abort) kj;
          house = λ outer i p.
              let e = g.does.house outer i p.0 in
              let q : house_of t v (back_scope s one) outer ≡ mid (house_of t w s outer) (tour (underscored (table_of t)) d c (house_of t w s outer))
              = ms.back f g.does.fits g.does.kept outer ∙ ap (mid (house_of t w s outer)) e in
              let j = ms.join g.does.fits fb (same_back v s one).0 (same_back v s one).1 outer ∙ ap₂ both e q in
              house_abort t v (unloop_of (join_scope one (back_scope s one)).abort) (join_scope one (back_scope s one)) outer
              ∙ ap (λ (z : Abort). record { here = stop_room z (house_of t v (join_scope one (back_scope s one)) outer).here; above = (house_of t v (join_scope one (back_scope s one)) outer).above; out = (house_of t v (join_scope one (back_scope s one)) outer).out })
              (unloop_same (join_scope one (back_scope s one)).abort ∙ ap unloop (sym (here_abort t v (join_scope one (back_scope s one)) outer)))
              ∙ ap unlooped j;
        };
      }

  pub scopes : {c : Cmd} {w v : List ℕ} {s b : Scope} → Fits w s → Goes t d c w (enter_scope s) v b
      → Goes t d (scope c) w s (leave_words t v b s) (leave_scope t v b s)
  scopes {c} {w} {v} {s} {b} f g =
      record {
        does = record {
          fits = ms.leave_fits f g.does.fits g.does.kept;
          kept = ms.leave_kept f g.does.fits g.does.kept;
          house = λ outer i p.
              let u = underscored (table_of t) in
              let q = house_enter t w s outer in
              let e : house_of t v b (s ∷ outer) ≡ tour u d c (enter_house (house_of t w s outer))
              = g.does.house (s ∷ outer) (inside_enter outer f i) (rw q p.1) ∙ ap (tour u d c) q in
              ms.leave f g.does.fits g.does.kept outer i (rw e (every_end u RoomFor c d (enter_house (house_of t w s outer)) p.1)) (rw e p.2)
              ∙ ap (λ (z : House). leave_house u z z.above) e;
        };
      }

-- a loop's rounds: two, or one
module _ {t : List ℕ} {d : ℕ} {c : Cmd} where
  twice : (b : Bool) → b ≡ true → {w v x : List ℕ} {s q r : Scope} → Turns t (suc d) c w s v q → Turns t (suc d) c v q x r
      → Does t (EveryRounds (underscored (table_of t)) RoomFor b (Every (underscored (table_of t)) RoomFor (suc d) c) (tour (underscored (table_of t)) (suc d) c)) (rounds_house b (tour (underscored (table_of t)) (suc d) c)) w s x r
  twice b e {w} {v} {x} {s} {q} {r} g h = rw e (
      record {
        fits = h.does.fits;
        kept = kept_on g.does.kept h.does.kept;
        house = λ outer i p.
            let y = g.does.house outer i p.0 in
            h.does.house outer (inside_kept outer g.does.fits.words g.does.kept i) (rw y p.1) ∙ ap (round_house (tour (underscored (table_of t)) (suc d) c)) y;
      })

  pub loops_twice : leb (suc d) 5 ≡ true → {w v x : List ℕ} {s q r : Scope} → Turns t (suc d) c w s v q → Turns t (suc d) c v q x r → Goes t d (loop c) w s x r
  loops_twice e g h = record { does = twice (leb (suc d) 5) e g h }

  once : (b : Bool) → b ≡ false → {w v : List ℕ} {s r : Scope} → Turns t (suc d) c w s v r
      → Does t (EveryRounds (underscored (table_of t)) RoomFor b (Every (underscored (table_of t)) RoomFor (suc d) c) (tour (underscored (table_of t)) (suc d) c)) (rounds_house b (tour (underscored (table_of t)) (suc d) c)) w s v r
  once b e g = rw e g.does

  pub loops_once : leb (suc d) 5 ≡ false → {w v : List ℕ} {s r : Scope} → Turns t (suc d) c w s v r → Goes t d (loop c) w s v r
  loops_once e g = record { does = once (leb (suc d) 5) e g }

-- by another name
pub goes_as : {t : List ℕ} {d : ℕ} {a b : Cmd} {w v : List ℕ} {s r : Scope} → a ≡ b → Goes t d b w s v r → Goes t d a w s v r
goes_as e g = rw e g

pub goes_to : {t : List ℕ} {d : ℕ} {a : Cmd} {w v x : List ℕ} {s r q : Scope} → x ≡ v → q ≡ r → Goes t d a w s v r → Goes t d a w s x q
goes_to e h g = rw (e, h) g

-- the same laws for what the methods hand back
pub back_fits : {w v : List ℕ} {s one b : Scope} → b ≡ back_scope s one → Fits w s → Fits v one → Kept w s v one → Fits v b
back_fits e f g k = rw e (fits_back f g k)

pub enter_fits : {w : List ℕ} {s q : Scope} → q ≡ enter_scope s → Fits w s → Fits w q
enter_fits e f = rw e (fits_enter f)

pub stop_to : {t : List ℕ} {d : ℕ} (why : Stop) (a : Halt) → abort_of a ≡ stop_abort why → {w : List ℕ} {s r : Scope} → r ≡ with_abort a s → Fits w s
    → Goes t d (stop why) w s w r
stop_to why a e h f = rw h (stops why a e f)

module _ {t : List ℕ} (ms : Methods t) {d : ℕ} where
  pub sides_to : {a b : Cmd} {w v x : List ℕ} {s one q two r : Scope} → Fits w s → Goes t d a w s v one → q ≡ back_scope s one → Goes t d b v q x two
      → r ≡ join_scope one two → Goes t d (branch a b) w s x r
  sides_to f g e h z = rw z (sides ms f g (rw e at h))

  pub turns_to : {c : Cmd} {w v : List ℕ} {s one b j r : Scope} → Fits w s → Goes t d c w s v one → b ≡ back_scope s one → j ≡ join_scope one b
      → r ≡ with_abort (unloop_of j.abort) j → Turns t d c w s v r
  turns_to f g e h z = rw (z, h, e) (turns ms f g)

  pub scopes_to : {c : Cmd} {w v x : List ℕ} {s q b r : Scope} → Fits w s → q ≡ enter_scope s → Goes t d c w q v b → r ≡ leave_scope t v b s
      → x ≡ leave_words t v b s → Goes t d (scope c) w s x r
  scopes_to f e g h z = rw (h, z) (scopes ms f (rw e at g))

-- what the methods ask
pub leave_asks : {t : List ℕ} {d : ℕ} {c : Cmd} {w v : List ℕ} {s q b : Scope} → Fits w s → q ≡ enter_scope s → Goes t d c w q v b → s.loose ≤ b.loose
unfolding enter_scope
leave_asks {s = s} {q = q} f e g = let k : q.loose ≡ s.looses = ap (λ (z : Scope). z.loose) e in omega (arith, g.does.kept.loose, f.loose)

pub goes_fits : {t : List ℕ} {d : ℕ} {c : Cmd} {w v : List ℕ} {s r : Scope} → Goes t d c w s v r → Fits v r
goes_fits g = g.does.fits
