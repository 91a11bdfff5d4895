-- Demand 3, the names half: what a run can reach unset is flagged, and flagged it stays.
use Prim.Native.Nat.{ℕ, suc}
use mathlib.Core.Path.{refl, subst}
use mathlib.Core.Bool.{Bool, true, false, ◌||◌, ◌&&◌, not}
use mathlib.Core.List.Memᴰ
use mathlib.Core.List.{List, [], ◌∷◌, ◌++◌, Memᴰ}
use mathlib.Core.Logic.{◌⊎◌, inl, inr}
use mathlib.Core.Option.{Option, none, some}
use lib.Dec.{eqb, leb, T}
use Rattle.tree.specs.Forest.{Spot, Head}
use Rattle.rules.specs.Order.{Cmd, skip, ◌⨟◌, use_of, set_of, stop, branch, loop, scope}
use Rattle.rules.specs.Names.{back_to, Standing, absent, maybe, definitely, sure, Scope, State, Search, Found, nowhere, surely, perhaps, search_out, use_out, use_as, branch_of, round, rounds, same_state, leave_to, enter, walk, fresh, set_names, same, Setting, Warning, warned, warn, warn_new, warn_if, warn_all, idle, spared, unused, farewell, passed, undefined, names_of}
use Rattle.rules.proofs.Keep.{Kept, kept_cons, walk_keeps, scope_same}
use Rattle.rules.proofs.Invariant.{Ok, ok_within, ok_back, sound, grows}
use Rattle.rules.proofs.Bools.{or_cases, nor_both, nor_left, nor_right, never, or_left, or_right, both}
use Rattle.rules.specs.Runs.{Held, nobody, Reach, here, first as before, second as after, left, right, now, later, continued, own}
use Rattle.rules.proofs.Spots.{same_exact}

or_map : (b x y : Bool) → (T x → T y) → T (b || x) → T (b || y)
or_map true x y k t = tt
or_map false x y k t = k t

and_map : (b x y : Bool) → (T x → T y) → T (b && x) → T (b && y)
and_map true x y k t = k t
and_map false x y k t = t

-- a list of warnings has s under 4 or 6; it has it under nothing else
abbrev pub four_six : ℕ → Bool
four_six c = eqb c 4 || eqb c 6

abbrev pub good : Spot → List Warning → Bool
good s [] = false
good s (w ∷ ws) = (same s w.spot && four_six w.code) || good s ws

abbrev pub clean : Spot → List Warning → Bool
clean s [] = true
clean s (w ∷ ws) = (not (same s w.spot) || four_six w.code) && clean s ws

good_append : (s : Spot) (ws vs : List Warning) → T (good s ws) → T (good s (ws ++ vs))
good_append s [] vs t = absurd t
good_append s (w ∷ ws) vs t = or_map (same s w.spot && four_six w.code) (good s ws) (good s (ws ++ vs)) (good_append s ws vs) t

good_last : (s : Spot) (c : ℕ) (ws : List Warning) → T (four_six c) → T (good s (ws ++ (record { code = c; spot = s } ∷ [])))
good_last s c [] t = or_left (same s s && four_six c) false (both (same s s) (four_six c) (same_exact s) t)
good_last s c (w ∷ ws) t = or_right (same s w.spot && four_six w.code) (good s (ws ++ (record { code = c; spot = s } ∷ [])))
    (good_last s c ws t)

-- a list that says nothing else of s, and says something of it, says 4 or 6
clean_step : (b f g w o : Bool) → (T g → T w → T o) → T ((not b || f) && g) → T (b || w) → T ((b && f) || o)
clean_step true true g w o k c t = tt
clean_step true false g w o k c t = absurd c
clean_step false f g w o k c t = k c t

good_of_clean : (s : Spot) (ws : List Warning) → T (clean s ws) → T (warned s ws) → T (good s ws)
good_of_clean s [] c t = t
good_of_clean s (w ∷ ws) c t = clean_step (same s w.spot) (four_six w.code) (clean s ws) (warned s ws) (good s ws)
    (good_of_clean s ws) c t

clean_last : (s t : Spot) (c : ℕ) (ws : List Warning) → T (not (same s t) || four_six c) → T (clean s ws)
    → T (clean s (ws ++ (record { code = c; spot = t } ∷ [])))
clean_last s t c [] h k = both (not (same s t) || four_six c) true h tt
clean_last s t c (w ∷ ws) h k = and_map (not (same s w.spot) || four_six w.code) (clean s ws)
    (clean s (ws ++ (record { code = c; spot = t } ∷ []))) (clean_last s t c ws h) k

-- one warning more
new_good : (s t : Spot) (c : ℕ) (ws : List Warning) (b : Bool) → T (good s ws) → T (good s (warn_new c t ws b))
new_good s t c ws true g = g
new_good s t c ws false g = good_append s ws (record { code = c; spot = t } ∷ []) g

pub warn_good : (s t : Spot) (c : ℕ) (ws : List Warning) → T (good s ws) → T (good s (warn c t ws))
warn_good s t c ws g = new_good s t c ws (warned t ws) g

new_clean : (s t : Spot) (c : ℕ) (ws : List Warning) (b : Bool) → T (not (same s t) || four_six c) → T (clean s ws)
    → T (clean s (warn_new c t ws b))
new_clean s t c ws true h k = k
new_clean s t c ws false h k = clean_last s t c ws h k

pub warn_clean : (s t : Spot) (c : ℕ) (ws : List Warning) → T (not (same s t) || four_six c) → T (clean s ws) → T (clean s (warn c t ws))
warn_clean s t c ws h k = new_clean s t c ws (warned t ws) h k

new_makes : (s : Spot) (c : ℕ) (ws : List Warning) (b : Bool) → (T b → T (good s ws)) → T (four_six c) → T (good s (warn_new c s ws b))
new_makes s c ws true k t = k tt
new_makes s c ws false k t = good_last s c ws t

pub warn_makes : (s : Spot) (c : ℕ) (ws : List Warning) → T (clean s ws) → T (four_six c) → T (good s (warn c s ws))
warn_makes s c ws k t = new_makes s c ws (warned s ws) (good_of_clean s ws k) t

if_good : (b : Bool) (s t : Spot) (c : ℕ) (ws : List Warning) → T (good s ws) → T (good s (warn_if b c t ws))
if_good true s t c ws g = warn_good s t c ws g
if_good false s t c ws g = g

if_clean : (b : Bool) (s t : Spot) (c : ℕ) (ws : List Warning) → T (not (same s t) || four_six c) → T (clean s ws)
    → T (clean s (warn_if b c t ws))
if_clean true s t c ws h g = warn_clean s t c ws h g
if_clean false s t c ws h g = g

if_makes : (b : Bool) (s : Spot) (c : ℕ) (ws : List Warning) → T b → T (clean s ws) → T (four_six c) → T (good s (warn_if b c s ws))
if_makes true s c ws t k f = warn_makes s c ws k f
if_makes false s c ws t k f = absurd t

all_good : (s : Spot) (c : ℕ) (p : Spot → Bool) (ts : List Spot) (ws : List Warning) → T (good s ws) → T (good s (warn_all c p ts ws))
all_good s c p [] ws g = g
all_good s c p (t ∷ ts) ws g = all_good s c p ts (warn_if (p t) c t ws) (if_good (p t) s t c ws g)

all_clean : (s : Spot) (c : ℕ) (p : Spot → Bool) (ts : List Spot) (ws : List Warning) → T (four_six c) → T (clean s ws)
    → T (clean s (warn_all c p ts ws))
all_clean s c p [] ws f g = g
all_clean s c p (t ∷ ts) ws f g = all_clean s c p ts (warn_if (p t) c t ws) f
    (if_clean (p t) s t c ws (or_right (not (same s t)) (four_six c) f) g)

all_makes : (s : Spot) (c : ℕ) (p : Spot → Bool) (ts : List Spot) (ws : List Warning) → T (four_six c) → T (clean s ws) → T (p s)
    → Memᴰ s ts → T (good s (warn_all c p ts ws))
all_makes s c p ts ws f g h (Memᴰ.head {x = t} {xs = us} e) =
    all_good s c p us (warn_if (p t) c t ws) (subst (λ (z : Spot). T (good s (warn_if (p z) c z ws))) e (if_makes (p s) s c ws h g f))
all_makes s c p ts ws f g h (Memᴰ.tail {x = t} {xs = us} m) =
    all_makes s c p us (warn_if (p t) c t ws) f (if_clean (p t) s t c ws (or_right (not (same s t)) (four_six c) f) g) h m

-- leaving a scope
idle_good : (s : Spot) (u : ℕ → Bool) (top : Bool) (c : Scope) (es : List Setting) (ws : List Warning) → T (good s ws)
    → T (good s (idle u top c es ws))
idle_good s u top c [] ws g = g
idle_good s u top c (e ∷ es) ws g = idle_good s u top c es (warn_if (not (spared u top c e)) (unused e.sort) e.spot ws)
    (if_good (not (spared u top c e)) s e.spot (unused e.sort) ws g)

abbrev pub settled : Spot → List Setting → Bool
settled s [] = false
settled s (e ∷ es) = same s e.spot || settled s es

idle_clean : (s : Spot) (u : ℕ → Bool) (top : Bool) (c : Scope) (es : List Setting) (ws : List Warning) → T (not (settled s es))
    → T (clean s ws) → T (clean s (idle u top c es ws))
idle_clean s u top c [] ws h g = g
idle_clean s u top c (e ∷ es) ws h g = idle_clean s u top c es (warn_if (not (spared u top c e)) (unused e.sort) e.spot ws)
    (nor_right (same s e.spot) (settled s es) h)
    (if_clean (not (spared u top c e)) s e.spot (unused e.sort) ws
    (or_left (not (same s e.spot)) (four_six (unused e.sort)) (nor_left (same s e.spot) (settled s es) h)) g)

farewell_good : (s : Spot) (u : ℕ → Bool) (top : Bool) (c : Scope) (ws : List Warning) → T (good s ws) → T (good s (farewell u top c ws))
farewell_good s u top c ws g = idle_good s u top c c.settings (warn_all 4 (λ t. set_names t.value c.settings) c.cant ws)
    (all_good s 4 (λ t. set_names t.value c.settings) c.cant ws g)

farewell_clean : (s : Spot) (u : ℕ → Bool) (top : Bool) (c : Scope) (ws : List Warning) → T (not (settled s c.settings)) → T (clean s ws)
    → T (clean s (farewell u top c ws))
farewell_clean s u top c ws h g = idle_clean s u top c c.settings (warn_all 4 (λ t. set_names t.value c.settings) c.cant ws) h
    (all_clean s 4 (λ t. set_names t.value c.settings) c.cant ws tt g)

-- flagged: among the scope's can't-set uses, or warned under 4 or 6
abbrev pub Flag : Spot → Scope → List Warning → Type 0
Flag s c ws = Memᴰ s c.cant ⊎ T (good s ws)

-- a flagged use of a name that is set here is warned under 4 or 6
farewell_makes : (s : Spot) (u : ℕ → Bool) (top : Bool) (c : Scope) (ws : List Warning) → T (clean s ws)
    → T (set_names s.value c.settings) → Flag s c ws → T (good s (farewell u top c ws))
farewell_makes s u top c ws k h (inl m) = idle_good s u top c c.settings
    (warn_all 4 (λ t. set_names t.value c.settings) c.cant ws)
    (all_makes s 4 (λ t. set_names t.value c.settings) c.cant ws tt k h m)
farewell_makes s u top c ws k h (inr g) = farewell_good s u top c ws g

-- what a walk adds to, and takes nothing from
pub record Grow (s : Spot) (a b : State) : Type 0 where
  pub cant : Memᴰ s a.here.cant → Memᴰ s b.here.cant
  pub sets : (x : ℕ) → T (set_names x a.here.settings) → T (set_names x b.here.settings)
  pub good : T (good s a.out) → T (good s b.out)

grow_refl : (s : Spot) (a : State) → Grow s a a
grow_refl s a = record { cant = λ m. m; sets = λ x t. t; good = λ g. g }

grow_trans : {s : Spot} {a b c : State} → Grow s a b → Grow s b c → Grow s a c
grow_trans p q = record { cant = λ m. q.cant (p.cant m); sets = λ x t. q.sets x (p.sets x t); good = λ g. q.good (p.good g) }

abbrev Grows : Spot → (State → State) → Type 0
Grows s f = (st : State) → Grow s st (f st)

set_names_append : (x : ℕ) (es : List Setting) (e : Setting) → T (set_names x es) → T (set_names x (es ++ (e ∷ [])))
set_names_append x [] e t = absurd t
set_names_append x (f ∷ es) e t = or_map (eqb x f.spot.value) (set_names x es) (set_names x (es ++ (e ∷ [])))
    (set_names_append x es e) t

set_names_last : (x : ℕ) (es : List Setting) (e : Setting) → T (eqb x e.spot.value) → T (set_names x (es ++ (e ∷ [])))
set_names_last x [] e t = or_left (eqb x e.spot.value) false t
set_names_last x (f ∷ es) e t = or_right (eqb x f.spot.value) (set_names x (es ++ (e ∷ []))) (set_names_last x es e t)

out_grows : (s t : Spot) (st : State) (r : Search) (f : Found) → Grow s st (use_out t st r f)
out_grows s t st r nowhere = record { cant = Memᴰ.append_left (t ∷ []); sets = λ x h. h; good = λ g. g }
out_grows s t st r surely = record { cant = Memᴰ.append_left (t ∷ []); sets = λ x h. h; good = λ g. g }
out_grows s t st r perhaps = record { cant = Memᴰ.append_left (t ∷ []); sets = λ x h. h; good = warn_good s t 6 st.out }

as_grows : (s t : Spot) (st : State) (z : Standing) → Grow s st (use_as t st z)
as_grows s t st absent = let r = search_out t.value st.above in out_grows s t st r r.found
as_grows s t st (maybe ss) = record { cant = λ m. m; sets = λ x h. h; good = warn_good s t 6 st.out }
as_grows s t st (definitely ss) = record { cant = λ m. m; sets = λ x h. h; good = λ g. g }

branch_grows : (s : Spot) (f g : State → State) → Grows s f → Grows s g → Grows s (branch_of f g)
branch_grows s f g kf kg st =
    let p = kf st in let q = kg (back_to st (f st)) in
    record { cant = λ m. q.cant (p.cant m); sets = λ x t. q.sets x (p.sets x t); good = λ h. q.good (p.good h) }

round_grows : (s : Spot) (f : State → State) → Grows s f → Grows s (round f)
round_grows s f kf st = let p = branch_grows s f same_state kf (grow_refl s) st in record { cant = p.cant; sets = p.sets; good = p.good }

rounds_grows : (s : Spot) (k : Bool) (f : State → State) → Grows s f → Grows s (rounds k f)
rounds_grows s true f kf st = grow_trans (round_grows s f kf st) (round_grows s f kf (round f st))
rounds_grows s false f kf st = round_grows s f kf st

leave_good : (s : Spot) (u : ℕ → Bool) (c : Scope) (cs ds : List Scope) (st : State) → Kept (c ∷ cs) ds → T (good s st.out)
    → T (good s (leave_to u st ds).out)
leave_good s u c cs ds st (kept_cons p ps) g = farewell_good s u false st.here st.out g

module _ (u : ℕ → Bool) where
  pub walk_grows : (s : Spot) (c : Cmd) (d : ℕ) → Grows s (walk u d c)
  walk_grows s skip d st = grow_refl s st
  walk_grows s (a ⨟ b) d st = grow_trans (walk_grows s a d st) (walk_grows s b d (walk u d a st))
  walk_grows s (use_of g) d st = as_grows s g.spot st (st.here.standing g.spot.value)
  walk_grows s (set_of o g) d st = record {
    cant = λ m. m;
    sets = λ x h. set_names_append x st.here.settings (record {
      sort = o;
      spot = g.spot;
    }) h;
    good = λ g. g;
  }
  walk_grows s (stop w) d st = record { cant = λ m. m; sets = λ x h. h; good = λ g. g }
  walk_grows s (branch a b) d st = branch_grows s (walk u d a) (walk u d b) (walk_grows s a d) (walk_grows s b d) st
  walk_grows s (loop c) d st = rounds_grows s (leb (suc d) 5) (walk u (suc d) c) (walk_grows s c (suc d)) st
  walk_grows s (scope c) d st =
      let e = scope_same u c d st in let p = walk_grows s c d (enter st) in
      record {
        cant = λ m. subst (λ (l : List Spot). Memᴰ s l) e.cant m;
        sets = λ x h. subst (λ (l : List Setting). T (set_names x l)) e.settings h;
        good = λ g. leave_good s u st.here st.above (walk u d c (enter st)).above (walk u d c (enter st))
            (walk_keeps u c d (enter st)) (p.good g);
      }

-- whether a part sets at s in its own scope, and whether one of its nested scopes does
abbrev pub sets_at : Spot → Cmd → Bool
sets_at s skip = false
sets_at s (a ⨟ b) = sets_at s a || sets_at s b
sets_at s (use_of g) = false
sets_at s (set_of o g) = same s g.spot
sets_at s (stop w) = false
sets_at s (branch a b) = sets_at s a || sets_at s b
sets_at s (loop c) = sets_at s c
sets_at s (scope c) = false

abbrev pub inner_sets : Spot → Cmd → Bool
inner_sets s skip = false
inner_sets s (a ⨟ b) = inner_sets s a || inner_sets s b
inner_sets s (use_of g) = false
inner_sets s (set_of o g) = false
inner_sets s (stop w) = false
inner_sets s (branch a b) = inner_sets s a || inner_sets s b
inner_sets s (loop c) = inner_sets s c
inner_sets s (scope c) = sets_at s c || inner_sets s c

settled_append : (s : Spot) (es : List Setting) (e : Setting) → T (not (settled s es)) → T (not (same s e.spot))
    → T (not (settled s (es ++ (e ∷ []))))
settled_append s [] e h k = nor_both (same s e.spot) false k tt
settled_append s (f ∷ es) e h k = nor_both (same s f.spot) (settled s (es ++ (e ∷ []))) (nor_left (same s f.spot) (settled s es) h)
    (settled_append s es e (nor_right (same s f.spot) (settled s es) h) k)

abbrev Bare : Spot → State → Type 0
Bare s st = T (not (settled s st.here.settings))

abbrev Bares : Spot → (State → State) → Type 0
Bares s f = (st : State) → Bare s st → Bare s (f st)

out_bare : (s t : Spot) (st : State) (r : Search) (f : Found) → Bare s st → Bare s (use_out t st r f)
out_bare s t st r nowhere h = h
out_bare s t st r surely h = h
out_bare s t st r perhaps h = h

as_bare : (s t : Spot) (st : State) (z : Standing) → Bare s st → Bare s (use_as t st z)
as_bare s t st absent h = let r = search_out t.value st.above in out_bare s t st r r.found h
as_bare s t st (maybe ss) h = h
as_bare s t st (definitely ss) h = h

rounds_bare : (s : Spot) (k : Bool) (f : State → State) → Bares s f → Bares s (rounds k f)
rounds_bare s true f kf st h = kf (round f st) (kf st h)
rounds_bare s false f kf st h = kf st h

-- warnings
abbrev Clean : Spot → (State → State) → Type 0
Clean s f = (st : State) → T (clean s st.out) → T (clean s (f st).out)

out_clean : (s t : Spot) (st : State) (r : Search) (f : Found) → T (clean s st.out) → T (clean s (use_out t st r f).out)
out_clean s t st r nowhere h = h
out_clean s t st r surely h = h
out_clean s t st r perhaps h = warn_clean s t 6 st.out (or_right (not (same s t)) true tt) h

as_clean : (s t : Spot) (st : State) (z : Standing) → T (clean s st.out) → T (clean s (use_as t st z).out)
as_clean s t st absent h = let r = search_out t.value st.above in out_clean s t st r r.found h
as_clean s t st (maybe ss) h = warn_clean s t 6 st.out (or_right (not (same s t)) true tt) h
as_clean s t st (definitely ss) h = h

rounds_clean : (s : Spot) (k : Bool) (f : State → State) → Clean s f → Clean s (rounds k f)
rounds_clean s true f kf st h = kf (round f st) (kf st h)
rounds_clean s false f kf st h = kf st h

leave_clean : (s : Spot) (u : ℕ → Bool) (c : Scope) (cs ds : List Scope) (st : State) → Kept (c ∷ cs) ds → Bare s st → T (clean s st.out)
    → T (clean s (leave_to u st ds).out)
leave_clean s u c cs ds st (kept_cons p ps) b g = farewell_clean s u false st.here st.out b g

-- the use itself
out_flags : (s : Spot) (st : State) (r : Search) (f : Found) → Flag s (use_out s st r f).here (use_out s st r f).out
out_flags s st r nowhere = inl (Memᴰ.append_right st.here.cant (Memᴰ.head refl))
out_flags s st r surely = inl (Memᴰ.append_right st.here.cant (Memᴰ.head refl))
out_flags s st r perhaps = inl (Memᴰ.append_right st.here.cant (Memᴰ.head refl))

as_flags : (s : Spot) (st : State) (z : Standing) → T (clean s st.out) → (T (sure z) → ⊥)
    → Flag s (use_as s st z).here (use_as s st z).out
as_flags s st absent k n = let r = search_out s.value st.above in out_flags s st r r.found
as_flags s st (maybe ss) k n = inr (warn_makes s 6 st.out k tt)
as_flags s st (definitely ss) k n = absurd (n tt)

flag_grows : {s : Spot} {a b : State} → Grow s a b → Flag s a.here a.out → Flag s b.here b.out
flag_grows g (inl m) = inl (g.cant m)
flag_grows g (inr t) = inr (g.good t)

rounds_flag : (s : Spot) (k : Bool) (f : State → State) → Grows s f → (st : State) → Flag s (f st).here (f st).out
    → Flag s (rounds k f st).here (rounds k f st).out
rounds_flag s true f kf st h = flag_grows (round_grows s f kf (round f st)) h
rounds_flag s false f kf st h = h

rounds_set : (x : ℕ) (k : Bool) (f : State → State) → ((st : State) → Grow (record { begin = 0; end = 0; value = 0 }) st (f st))
    → (st : State) → T (set_names x (f st).here.settings) → T (set_names x (rounds k f st).here.settings)
rounds_set x true f kf st h = (round_grows (record { begin = 0; end = 0; value = 0 }) f kf (round f st)).sets x h
rounds_set x false f kf st h = h

module _ (u : ℕ → Bool) where
  walk_bare : (s : Spot) (c : Cmd) → T (not (sets_at s c)) → (d : ℕ) → Bares s (walk u d c)
  walk_bare s skip n d st h = h
  walk_bare s (a ⨟ b) n d st h = walk_bare s b (nor_right (sets_at s a) (sets_at s b) n) d (walk u d a st)
      (walk_bare s a (nor_left (sets_at s a) (sets_at s b) n) d st h)
  walk_bare s (use_of g) n d st h = as_bare s g.spot st (st.here.standing g.spot.value) h
  walk_bare s (set_of o g) n d st h = settled_append s st.here.settings (record { sort = o; spot = g.spot }) h n
  walk_bare s (stop w) n d st h = h
  walk_bare s (branch a b) n d st h = walk_bare s b (nor_right (sets_at s a) (sets_at s b) n) d (back_to st (walk u d a st))
      (walk_bare s a (nor_left (sets_at s a) (sets_at s b) n) d st h)
  walk_bare s (loop c) n d st h = rounds_bare s (leb (suc d) 5) (walk u (suc d) c) (walk_bare s c n (suc d)) st h
  walk_bare s (scope c) n d st h = subst (λ (l : List Setting). T (not (settled s l))) (scope_same u c d st).settings h

  pub walk_clean : (s : Spot) (c : Cmd) → T (not (inner_sets s c)) → (d : ℕ) → Clean s (walk u d c)
  walk_clean s skip n d st h = h
  walk_clean s (a ⨟ b) n d st h = walk_clean s b (nor_right (inner_sets s a) (inner_sets s b) n) d (walk u d a st)
      (walk_clean s a (nor_left (inner_sets s a) (inner_sets s b) n) d st h)
  walk_clean s (use_of g) n d st h = as_clean s g.spot st (st.here.standing g.spot.value) h
  walk_clean s (set_of o g) n d st h = h
  walk_clean s (stop w) n d st h = h
  walk_clean s (branch a b) n d st h = walk_clean s b (nor_right (inner_sets s a) (inner_sets s b) n) d (back_to st (walk u d a st))
      (walk_clean s a (nor_left (inner_sets s a) (inner_sets s b) n) d st h)
  walk_clean s (loop c) n d st h = rounds_clean s (leb (suc d) 5) (walk u (suc d) c) (walk_clean s c n (suc d)) st h
  walk_clean s (scope c) n d st h = leave_clean s u st.here st.above (walk u d c (enter st)).above (walk u d c (enter st))
      (walk_keeps u c d (enter st))
      (walk_bare s c (nor_left (sets_at s c) (inner_sets s c) n) d (enter st) tt)
      (walk_clean s c (nor_right (sets_at s c) (inner_sets s c) n) d (enter st) h)

  -- THE CORE LEMMA: the use that a run reaches unset is flagged by the walk
  pub reached : {g : Head} {c : Cmd} {σ : Held} → Reach g c σ → T (not (inner_sets g.spot c)) → (d : ℕ) (st : State) → Ok σ st
      → T (clean g.spot st.out)
      → Flag g.spot (walk u d c st).here (walk u d c st).out
  reached {g} (here {σ = σ} n) i d st o k = as_flags g.spot st (st.here.standing g.spot.value) k
      (λ t. never (σ g.spot.value) (o.known g.spot.value t) n)
  reached {g} (before {a = a} {b = b} r) i d st o k =
      flag_grows (walk_grows u g.spot b d (walk u d a st)) (reached r (nor_left (inner_sets g.spot a) (inner_sets g.spot b) i) d st o k)
  reached {g} (after {a = a} {b = b} q r) i d st o k =
      reached r (nor_right (inner_sets g.spot a) (inner_sets g.spot b) i) d (walk u d a st) (sound u q d st o)
      (walk_clean g.spot a (nor_left (inner_sets g.spot a) (inner_sets g.spot b) i) d st k)
  reached {g} (left {a = a} {b = b} r) i d st o k =
      flag_grows (walk_grows u g.spot b d (back_to st (walk u d a st))) (reached r (nor_left (inner_sets g.spot a) (inner_sets g.spot b) i) d st o k)
  reached {g} (right {a = a} {b = b} r) i d st o k =
      reached r (nor_right (inner_sets g.spot a) (inner_sets g.spot b) i) d (back_to st (walk u d a st)) (ok_back st (walk u d a st) o)
      (walk_clean g.spot a (nor_left (inner_sets g.spot a) (inner_sets g.spot b) i) d st k)
  reached {g} (now {c = c} r) i d st o k = rounds_flag g.spot (leb (suc d) 5) (walk u (suc d) c) (walk_grows u g.spot c (suc d)) st
      (reached r i (suc d) st o k)
  reached (later q r) i d st o k = reached r i d st (ok_within (grows q) o) k
  reached (continued q r) i d st o k = reached r i d st (ok_within (grows q) o) k

  -- the names of a body's own settings are set in its scope
  own_set : (x : ℕ) (c : Cmd) → T (own x c) → (d : ℕ) (st : State) → T (set_names x (walk u d c st).here.settings)
  own_set x skip t d st = absurd t
  own_set x (a ⨟ b) t d st = go (or_cases (own x a) (own x b) t) (λ h. own_set x a h d st) (λ h. own_set x b h d (walk u d a st))
    where
      go : {A B : Type 0} → A ⊎ B → (A → T (set_names x (walk u d a st).here.settings))
          → (B → T (set_names x (walk u d b (walk u d a st)).here.settings))
          → T (set_names x (walk u d b (walk u d a st)).here.settings)
      go (inl h) f g = (walk_grows u (record { begin = 0; end = 0; value = 0 }) b d (walk u d a st)).sets x (f h)
      go (inr h) f g = g h
  own_set x (use_of g) t d st = absurd t
  own_set x (set_of o g) t d st = set_names_last x st.here.settings (record { sort = o; spot = g.spot }) t
  own_set x (stop w) t d st = absurd t
  own_set x (branch a b) t d st = go (or_cases (own x a) (own x b) t) (λ h. own_set x a h d st)
      (λ h. own_set x b h d (back_to st (walk u d a st)))
    where
      go : {A B : Type 0} → A ⊎ B → (A → T (set_names x (walk u d a st).here.settings))
          → (B → T (set_names x (walk u d b (back_to st (walk u d a st))).here.settings))
          → T (set_names x (walk u d b (back_to st (walk u d a st))).here.settings)
      go (inl h) f g = (walk_grows u (record { begin = 0; end = 0; value = 0 }) b d (back_to st (walk u d a st))).sets x (f h)
      go (inr h) f g = g h
  own_set x (loop c) t d st = rounds_set x (leb (suc d) 5) (walk u (suc d) c)
      (λ s'. walk_grows u (record { begin = 0; end = 0; value = 0 }) c (suc d) s') st (own_set x c t (suc d) st)
  own_set x (scope c) t d st = absurd t

-- A use that a run of the module's body reaches unset, of one of its own names, is in the list under 4 or 6, where no nested scope sets at its place.
pub module_flagged : (u : ℕ → Bool) (globals : Option (ℕ → Bool)) (m : Cmd) (g : Head) → T (not (inner_sets g.spot m)) → Reach g m nobody
    → T (own g.spot.value m)
    → T (good g.spot (names_of u globals m))
module_flagged u globals m g i r w = go globals
  where
    first : State
    first = record { here = fresh; above = []; out = [] }

    done : State
    done = walk u 0 m first

    last : T (good g.spot (farewell u true done.here done.out))
    last = farewell_makes g.spot u true done.here done.out (walk_clean u g.spot m i 0 first tt) (own_set u g.spot.value m w 0 first)
        (reached u r i 0 first (record { alive = refl; known = λ x t. t }) tt)

    go : (given : Option (ℕ → Bool)) → T (good g.spot (undefined given done.here (farewell u true done.here done.out)))
    go none = last
    go (some given) = all_good g.spot 5 (λ t. not (given t.value)) (passed done.here) (farewell u true done.here done.out) last

-- Where the body b of a def stands in a part c: before it, and in it, no nested scope sets at s. (Then no other node of the tree has the place and name of s.)
pub data Holds (s : Spot) (b : Cmd) : Cmd → Type 0 where
  this : T (not (inner_sets s b)) → Holds s b (scope b)
  into : {c : Cmd} → Holds s b c → Holds s b (scope c)
  first : {a c : Cmd} → Holds s b a → Holds s b (a ⨟ c)
  second : {a c : Cmd} → T (not (inner_sets s a)) → Holds s b c → Holds s b (a ⨟ c)
  left_side : {a c : Cmd} → Holds s b a → Holds s b (branch a c)
  right_side : {a c : Cmd} → T (not (inner_sets s a)) → Holds s b c → Holds s b (branch a c)
  looped : {c : Cmd} → Holds s b c → Holds s b (loop c)

leave_makes : (s : Spot) (u : ℕ → Bool) (c : Scope) (cs ds : List Scope) (st : State) → Kept (c ∷ cs) ds → T (clean s st.out)
    → T (set_names s.value st.here.settings) → Flag s st.here st.out
    → T (good s (leave_to u st ds).out)
leave_makes s u c cs ds st (kept_cons p ps) k h f = farewell_makes s u false st.here st.out k h f

rounds_good : (s : Spot) (k : Bool) (f : State → State) → Grows s f → (st : State) → T (good s (f st).out)
    → T (good s (rounds k f st).out)
rounds_good s true f kf st h = (round_grows s f kf (round f st)).good h
rounds_good s false f kf st h = h

module _ (u : ℕ → Bool) where
  held_good : {g : Head} {b c : Cmd} → Holds g.spot b c → Reach g b nobody → T (own g.spot.value b) → (d : ℕ) (st : State) → T (clean g.spot st.out)
      → T (good g.spot (walk u d c st).out)
  held_good {g} {b} (this i) r w d st k = leave_makes g.spot u st.here st.above (walk u d b (enter st)).above (walk u d b (enter st))
      (walk_keeps u b d (enter st))
      (walk_clean u g.spot b i d (enter st) k) (own_set u g.spot.value b w d (enter st))
      (reached u r i d (enter st) (record { alive = refl; known = λ x t. t }) k)
  held_good {g} (into {c = c} h) r w d st k = leave_good g.spot u st.here st.above (walk u d c (enter st)).above (walk u d c (enter st))
      (walk_keeps u c d (enter st)) (held_good h r w d (enter st) k)
  held_good {g} (first {a = a} {c = c} h) r w d st k = (walk_grows u g.spot c d (walk u d a st)).good (held_good h r w d st k)
  held_good {g} (second {a = a} {c = c} i h) r w d st k = held_good h r w d (walk u d a st) (walk_clean u g.spot a i d st k)
  held_good {g} (left_side {a = a} {c = c} h) r w d st k = (walk_grows u g.spot c d (back_to st (walk u d a st))).good (held_good h r w d st k)
  held_good {g} (right_side {a = a} {c = c} i h) r w d st k = held_good h r w d (back_to st (walk u d a st)) (walk_clean u g.spot a i d st k)
  held_good {g} (looped {c = c} h) r w d st k = rounds_good g.spot (leb (suc d) 5) (walk u (suc d) c) (walk_grows u g.spot c (suc d)) st
      (held_good h r w (suc d) st k)

-- The same of a def's body.
pub def_flagged : (u : ℕ → Bool) (globals : Option (ℕ → Bool)) (m b : Cmd) (g : Head) → Holds g.spot b m → Reach g b nobody
    → T (own g.spot.value b) → T (good g.spot (names_of u globals m))
def_flagged u globals m b g h r w = go globals
  where
    done : State
    done = walk u 0 m (record { here = fresh; above = []; out = [] })

    last : T (good g.spot (farewell u true done.here done.out))
    last = farewell_good g.spot u true done.here done.out (held_good u h r w 0 (record { here = fresh; above = []; out = [] }) tt)

    go : (given : Option (ℕ → Bool)) → T (good g.spot (undefined given done.here (farewell u true done.here done.out)))
    go none = last
    go (some given) = all_good g.spot 5 (λ t. not (given t.value)) (passed done.here) (farewell u true done.here done.out) last
