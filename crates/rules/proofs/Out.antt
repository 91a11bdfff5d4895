-- How many warnings the names walk has at every moment: at most one for each node.
use Prim.Native.Nat.{ℕ, suc, ◌≤◌}
use native.Mathlib.Omega.{arith}
use mathlib.Core.Path.{◌≡◌, refl, sym, ap, subst, ◌∙◌}
use mathlib.Core.Bool.{Bool, true, false, ◌||◌, not}
use mathlib.Core.List.{List, [], ◌∷◌, ◌++◌}
use mathlib.Core.Option.{Option, none, some}
use lib.Dec.{leb, T}
use lib.ListN.{length, length-append}
use Rattle.tree.specs.Forest.{Spot, Head, Forest, Forest.none as leaf, node}
use Rattle.rules.specs.Record.{Each, keep}
use Rattle.rules.specs.Order.{Sort, Cmd, skip, ◌⨟◌, use_of, set_of, stop, branch, loop, scope, of_role, body}
use Rattle.rules.specs.Names.{names, met, Abort, stop_abort, unloop, same, Warning, warned, warn_new, warn, warn_if, warn_all, unused, Found, nowhere, surely, perhaps}
use Rattle.rules.specs.code.Marks.{put, inside, add, adds, Level, Absent, Maybe, Definitely, Entry, Chamber, House, level_at, resets, has_entry, set_room, marks, mark_room, cannot_room, unbinds_room, stop_room, Looked, look_step, look_out, use_away, use_level, Note, notes, later_notes, restore, merge, back_room, join_room, branch_house, same_house, round_house, rounds_house, spared_room, idle_room, sets_name, farewell_room, passed_room, enter_house, leave_house, tour, undefined_room, names_tour, nodes, mid, start, Every, EveryRounds}
use Rattle.rules.proofs.Spots.{same_sound, same_exact}
use Rattle.rules.proofs.Bounds.{every_map, Plain, plain_add, pigeon, inside_left, inside_right}
use Rattle.rules.proofs.Marked.{tour_tree}
use Rattle.rules.proofs.Meets as Meets
use Rattle.rules.proofs.Meets.{takes_met}
use Rattle.rules.proofs.Bools.{or_left, or_right, or_case}
use Rattle.rules.proofs.Each.{each_left, each_right}

-- the spots of warnings
abbrev spots_of : List Warning → List Spot
spots_of [] = []
spots_of (w ∷ ws) = w.spot ∷ spots_of ws

spots_last : (w : Warning) (ws : List Warning) → spots_of (ws ++ (w ∷ [])) ≡ spots_of ws ++ (w.spot ∷ [])
spots_last w [] = refl
spots_last w (v ∷ ws) = ap (λ (l : List Spot). v.spot ∷ l) (spots_last w ws)

warned_inside : (s : Spot) (ws : List Warning) → warned s ws ≡ inside same s (spots_of ws)
warned_inside s [] = refl
warned_inside s (w ∷ ws) = ap (λ (b : Bool). same s w.spot || b) (warned_inside s ws)

new_spots : (c : ℕ) (s : Spot) (ws : List Warning) (b : Bool) → spots_of (warn_new c s ws b) ≡ put b s (spots_of ws)
new_spots c s ws true = refl
new_spots c s ws false = spots_last (record { code = c; spot = s }) ws

warn_spots : (c : ℕ) (s : Spot) (ws : List Warning) → spots_of (warn c s ws) ≡ add same s (spots_of ws)
warn_spots c s ws = new_spots c s ws (warned s ws) ∙ ap (λ (b : Bool). put b s (spots_of ws)) (warned_inside s ws)

-- ---- lists of which each spot is such a fst

module _ (p : Spot → Bool) where
  abbrev Such : List Spot → Type 0
  Such ss = Each (λ s. T (p s)) ss

  each_last : (s : Spot) (l : List Spot) → T (p s) → Such l → Such (l ++ (s ∷ []))
  each_last s [] t h = (t, tt)
  each_last s (a ∷ l) t h = (h.0, each_last s l t h.1)

  each_put : (b : Bool) (s : Spot) (l : List Spot) → T (p s) → Such l → Such (put b s l)
  each_put true s l t h = h
  each_put false s l t h = each_last s l t h

  each_adds : (k l : List Spot) → Such k → Such l → Such (adds same k l)
  each_adds [] l g h = h
  each_adds (a ∷ k) l g h = each_adds k (add same a l) g.1 (each_put (inside same a l) a l g.0 h)

  each_keep : (q : Spot → Bool) (l : List Spot) → Such l → Such (keep q l)
  each_keep q [] h = tt
  each_keep q (s ∷ l) h = go (q s) (each_keep q l h.1)
    where
      go : (b : Bool) → Such (keep q l) → Such (elim b as (λ x. List Spot) [ true ↦ s ∷ keep q l | false ↦ keep q l ])
      go true g = (h.0, g)
      go false g = g

  abbrev Entries : List Entry → Type 0
  Entries [] = Unit {0}
  Entries (e ∷ es) = T (p e.spot) × Entries es

  entries_resets : (s : Spot) (es : List Entry) → Entries es → Entries (resets s es)
  entries_resets s [] h = tt
  entries_resets s (e ∷ es) h = (h.0, entries_resets s es h.1)

  entries_put : (b : Bool) (n : Entry) (es : List Entry) → T (p n.spot) → Entries es → Entries (put b n es)
  entries_put true n es t h = h
  entries_put false n [] t h = (t, tt)
  entries_put false n (e ∷ es) t h = (h.0, entries_put false n es t h.1)

  entries_marks : (x : ℕ) (es : List Entry) → Entries es → Entries (marks x es)
  entries_marks x [] h = tt
  entries_marks x (e ∷ es) h = (h.0, entries_marks x es h.1)

  entries_restore : (ns : List Note) (es : List Entry) → Entries es → Entries (restore ns es)
  entries_restore ns [] h = tt
  entries_restore ns (e ∷ es) h = (h.0, entries_restore (later_notes ns) es h.1)

  entries_merge : (a b : Abort) (ns : List Note) (es : List Entry) → Entries es → Entries (merge a b ns es)
  entries_merge a b ns [] h = tt
  entries_merge a b ns (e ∷ es) h = (h.0, entries_merge a b (later_notes ns) es h.1)

  record In (r : Chamber) : Type 0 where
    cant : Such r.cant
    unbound : Such r.unbound
    entries : Entries r.entries

  abbrev All : List Chamber → Type 0
  All [] = Unit {0}
  All (r ∷ rs) = In r × All rs

  -- warnings each at such a spot, none twice
  record Told (ws : List Warning) : Type 0 where
    here : Such (spots_of ws)
    once : Plain same (spots_of ws)

  told_warn : (c : ℕ) (s : Spot) (ws : List Warning) → T (p s) → Told ws → Told (warn c s ws)
  told_warn c s ws t h = record {
    here = subst Such (sym (warn_spots c s ws)) (each_put (inside same s (spots_of ws)) s (spots_of ws) t h.here);
    once = subst (Plain same) (sym (warn_spots c s ws)) (plain_add same same_sound same_exact s (spots_of ws) h.once);
  }

  told_if : (b : Bool) (c : ℕ) (s : Spot) (ws : List Warning) → T (p s) → Told ws → Told (warn_if b c s ws)
  told_if true c s ws t h = told_warn c s ws t h
  told_if false c s ws t h = h

  told_all : (c : ℕ) (q : Spot → Bool) (l : List Spot) (ws : List Warning) → Such l → Told ws → Told (warn_all c q l ws)
  told_all c q [] ws g h = h
  told_all c q (s ∷ l) ws g h = told_all c q l (warn_if (q s) c s ws) g.1 (told_if (q s) c s ws g.0 h)

  told_idle : (u : ℕ → Bool) (top : Bool) (r : Chamber) (es : List Entry) (ws : List Warning) → Entries es → Told ws
      → Told (idle_room u top r es ws)
  told_idle u top r [] ws g h = h
  told_idle u top r (e ∷ es) ws g h =
      told_idle u top r es (warn_if (not (spared_room u top r e)) (unused e.sort) e.spot ws) g.1
      (told_if (not (spared_room u top r e)) (unused e.sort) e.spot ws g.0 h)

  told_farewell : (u : ℕ → Bool) (top : Bool) (r : Chamber) (ws : List Warning) → In r → Told ws → Told (farewell_room u top r ws)
  told_farewell u top r ws g h =
      told_idle u top r r.entries (warn_all 4 (λ s. sets_name s.value r.entries) r.cant ws) g.entries
      (told_all 4 (λ s. sets_name s.value r.entries) r.cant ws g.cant h)

  -- ---- the walk keeps to such spots

  record Keeps (m : House) : Type 0 where
    here : In m.here
    above : All m.above
    out : Told m.out

  in_set : (o : Sort) (s : Spot) (r : Chamber) → T (p s) → In r → In (set_room o s r)
  in_set o s r t h = record {
    cant = h.cant;
    unbound = h.unbound;
    entries = entries_put (has_entry (record { sort = o; spot = s }) r.entries)
        (record { sort = o; spot = s; used = false; held = true; level = Definitely }) (resets s r.entries) t
        (entries_resets s r.entries h.entries);
  }

  in_mark : (x : ℕ) (r : Chamber) → In r → In (mark_room x r)
  in_mark x r h = record { cant = h.cant; unbound = h.unbound; entries = entries_marks x r.entries h.entries }

  in_cannot : (s : Spot) (r : Chamber) → T (p s) → In r → In (cannot_room s r)
  in_cannot s r t h = record {
    cant = each_put (inside same s r.cant) s r.cant t h.cant;
    unbound = h.unbound;
    entries = h.entries;
  }

  in_unbinds : (l : List Spot) (r : Chamber) → Such l → In r → In (unbinds_room l r)
  in_unbinds l r g h = record { cant = h.cant; unbound = each_adds l r.unbound g h.unbound; entries = h.entries }

  in_stop : (a : Abort) (r : Chamber) → In r → In (stop_room a r)
  in_stop a r h = record { cant = h.cant; unbound = h.unbound; entries = h.entries }

  in_back : (r fst : Chamber) → In fst → In (back_room r fst)
  in_back r fst h = record {
    cant = h.cant;
    unbound = h.unbound;
    entries = entries_restore (notes r.entries) fst.entries h.entries;
  }

  in_join : (fst two : Chamber) → In two → In (join_room fst two)
  in_join fst two h = record {
    cant = h.cant;
    unbound = h.unbound;
    entries = entries_merge fst.abort two.abort (notes fst.entries) two.entries h.entries;
  }

  all_step : (x : ℕ) (r : Chamber) (rs : List Chamber) (l : Looked) (v : Level) → In r → All rs → All l.rooms
      → All (look_step x r rs l v).rooms
  all_step x r rs l Absent h g i = (h, i)
  all_step x r rs l Maybe h g i = (in_mark x r h, g)
  all_step x r rs l Definitely h g i = (in_mark x r h, g)

  all_look : (x : ℕ) (rs : List Chamber) → All rs → All (look_out x rs).rooms
  all_look x [] h = tt
  all_look x (r ∷ rs) h = all_step x r rs (look_out x rs) (level_at x r.entries) h.0 h.1 (all_look x rs h.1)

  keeps_away : (s : Spot) (m : House) (l : Looked) (f : Found) → T (p s) → Keeps m → All l.rooms → Keeps (use_away s m l f)
  keeps_away s m l nowhere t h g = record {
    here = in_unbinds (s ∷ []) (cannot_room s m.here) (t, tt) (in_cannot s m.here t h.here);
    above = g;
    out = h.out;
  }
  keeps_away s m l surely t h g = record { here = in_cannot s m.here t h.here; above = g; out = h.out }
  keeps_away s m l perhaps t h g = record { here = in_cannot s m.here t h.here; above = g; out = told_warn 6 s m.out t h.out }

  keeps_use : (s : Spot) (m : House) (v : Level) → T (p s) → Keeps m → Keeps (use_level s m v)
  keeps_use s m Absent t h =
      let l = look_out s.value m.above in
      keeps_away s m l l.found t h (all_look s.value m.above h.above)
  keeps_use s m Maybe t h = record {
    here = in_mark s.value m.here h.here;
    above = h.above;
    out = told_warn 6 s m.out t h.out;
  }
  keeps_use s m Definitely t h = record { here = in_mark s.value m.here h.here; above = h.above; out = h.out }

  keeps_mid : (m fst : House) → Keeps fst → Keeps (mid m fst)
  keeps_mid m fst h = record { here = in_back m.here fst.here h.here; above = h.above; out = h.out }

  abbrev Stays : (House → House) → Type 0
  Stays f = (m : House) → Keeps m → Keeps (f m)

  keeps_branch : (f g : House → House) → Stays f → Stays g → Stays (branch_house f g)
  keeps_branch f g a b m h =
      let two = b (mid m (f m)) (keeps_mid m (f m) (a m h)) in
      record { here = in_join (f m).here (g (mid m (f m))).here two.here; above = two.above; out = two.out }

  keeps_round : (f : House → House) → Stays f → Stays (round_house f)
  keeps_round f a m h =
      let r = keeps_branch f same_house a (λ x y. y) m h in
      record {
        here = in_stop (unloop (branch_house f same_house m).here.abort) (branch_house f same_house m).here r.here;
        above = r.above;
        out = r.out;
      }

  keeps_rounds : (b : Bool) (f : House → House) → Stays f → Stays (rounds_house b f)
  keeps_rounds true f a m h = keeps_round f a (round_house f m) (keeps_round f a m h)
  keeps_rounds false f a m h = keeps_round f a m h

  keeps_enter : (m : House) → Keeps m → Keeps (enter_house m)
  keeps_enter m h = record { here = record { cant = tt; unbound = tt; entries = tt }; above = (h.here, h.above); out = h.out }

  keeps_leave : (u : ℕ → Bool) (m : House) (rs : List Chamber) → All rs → Keeps m → Keeps (leave_house u m rs)
  keeps_leave u m [] g h = h
  keeps_leave u m (r ∷ rs) g h = record {
    here = in_unbinds (passed_room m.here) r
        (each_keep (λ s. not (sets_name s.value m.here.entries)) m.here.unbound h.here.unbound) g.0;
    above = g.1;
    out = told_farewell u false m.here m.out h.here h.out;
  }

  -- a command that has the walk meet such spots alone
  abbrev pub At : Head → Type 0
  At h = T (p h.spot)

  abbrev pub Of : Cmd → Type 0
  Of c = Each At (met c)

  module _ (u : ℕ → Bool) where
    keeps_tour : (c : Cmd) (d : ℕ) → Of c → Stays (tour u d c)
    keeps_tour skip d o m h = h
    keeps_tour (a ⨟ b) d o m h =
        keeps_tour b d (each_right At (met a) (met b) o) (tour u d a m) (keeps_tour a d (each_left At (met a) (met b) o) m h)
    keeps_tour (use_of g) d o m h = keeps_use g.spot m (level_at g.spot.value m.here.entries) o.0 h
    keeps_tour (set_of x g) d o m h = record { here = in_set x g.spot m.here o.0 h.here; above = h.above; out = h.out }
    keeps_tour (stop w) d o m h = record { here = in_stop (stop_abort w) m.here h.here; above = h.above; out = h.out }
    keeps_tour (branch a b) d o m h = keeps_branch (tour u d a) (tour u d b) (keeps_tour a d (each_left At (met a) (met b) o))
        (keeps_tour b d (each_right At (met a) (met b) o)) m h
    keeps_tour (loop c) d o m h = keeps_rounds (leb (suc d) 5) (tour u (suc d) c) (keeps_tour c (suc d) o) m h
    keeps_tour (scope c) d o m h =
        let r = keeps_tour c d o (enter_house m) (keeps_enter m h) in
        keeps_leave u (tour u d c (enter_house m)) (tour u d c (enter_house m)).above r.above r

    rounds_every : (b : Bool) (E : House → Type 0) (f : House → House) → Stays f → ((m : House) → Keeps m → E m) → (m : House) → Keeps m
        → EveryRounds u Keeps b E f m
    rounds_every true E f a e m h =
        let r = keeps_round f a m h in (
          (e m h, keeps_mid m (f m) (a m h), r),
          (
            e (round_house f m) r,
            keeps_mid (round_house f m) (f (round_house f m))
                (a (round_house f m) r),
            keeps_round f a (round_house f m) r,
          ),
        )
    rounds_every false E f a e m h = (e m h, keeps_mid m (f m) (a m h), keeps_round f a m h)

    keeps_every : (c : Cmd) (d : ℕ) → Of c → (m : House) → Keeps m → Every u Keeps d c m
    keeps_every skip d o m h = h
    keeps_every (a ⨟ b) d o m h =
        let l = each_left At (met a) (met b) o in
        (keeps_every a d l m h, keeps_every b d (each_right At (met a) (met b) o) (tour u d a m) (keeps_tour a d l m h))
    keeps_every (use_of s) d o m h = (h, keeps_tour (use_of s) d o m h)
    keeps_every (set_of x s) d o m h = (h, keeps_tour (set_of x s) d o m h)
    keeps_every (stop w) d o m h = (h, keeps_tour (stop w) d o m h)
    keeps_every (branch a b) d o m h =
        let l = each_left At (met a) (met b) o in (
          keeps_every a d l m h,
          keeps_every b d (each_right At (met a) (met b) o) (mid m (tour u d a m)) (keeps_mid m (tour u d a m) (keeps_tour a d l m h)),
          keeps_tour (branch a b) d o m h,
        )
    keeps_every (loop c) d o m h =
        rounds_every (leb (suc d) 5) (Every u Keeps (suc d) c) (tour u (suc d) c) (keeps_tour c (suc d) o) (keeps_every c (suc d) o) m h
    keeps_every (scope c) d o m h = (h, keeps_every c d o (enter_house m) (keeps_enter m h), keeps_tour (scope c) d o m h)

-- ---- the spots of a tree

abbrev places : Forest → List Spot
places leaf = []
places (node h k s) = h.spot ∷ (places k ++ places s)

places_length : (f : Forest) → length (places f) ≡ nodes f
places_length leaf = refl
places_length (node h k s) =
    let a = places_length k in
    let b = places_length s in
    let e = length-append (places k) (places s) in
    omega arith

module _ (K : List Spot) where
  abbrev is_of : Spot → Bool
  is_of s = inside same s K

  abbrev Within : Forest → Type 0
  Within f = Meets.Within (λ h. T (is_of h.spot)) f

within : (K : List Spot) (f : Forest) → ((s : Spot) → T (inside same s (places f)) → T (inside same s K)) → Within K f
within K leaf g = tt
within K (node h k s) g = (
  let t = g h.spot (or_left (same h.spot h.spot) (inside same h.spot (places k ++ places s)) (same_exact h.spot)) in
      ((λ a. t), (λ a. t)),
  (
    within K k (λ a t. g a (or_right (same a h.spot) (inside same a (places k ++ places s))
        (inside_left same a (places k) (places s) t))),
    within K s (λ a t. g a (or_right (same a h.spot) (inside same a (places k ++ places s))
        (inside_right same a (places k) (places s) t))),
  ),
)

each_inside : (K l : List Spot) → Such (is_of K) l → (a : Spot) → T (inside same a l) → T (inside same a K)
each_inside K [] h a t = absurd t
each_inside K (s ∷ l) h a t =
    or_case (same a s) (inside same a l) (λ e. subst (λ (x : Spot). T (inside same x K)) (sym (same_sound a s e)) h.0)
    (each_inside K l h.1 a) t

spots_length : (ws : List Warning) → length (spots_of ws) ≡ length ws
spots_length [] = refl
spots_length (w ∷ ws) = ap suc (spots_length ws)

told_few : (x : Forest) (ws : List Warning) → Told (is_of (places x)) ws → length ws ≤ nodes x
told_few x ws h =
    let a = pigeon same same_sound same_exact (spots_of ws) (places x) h.once (each_inside (places x) (spots_of ws) h.here) in
    let b = spots_length ws in
    let c = places_length x in
    omega (arith, a, b, c)

begin : (p : Spot → Bool) → Keeps p start
begin p = record { here = record { cant = tt; unbound = tt; entries = tt }; above = tt; out = record { here = tt; once = tt } }

told_undefined : (p : Spot → Bool) (g : Option (ℕ → Bool)) (r : Chamber) (ws : List Warning) → In p r → Told p ws → Told p (undefined_room g r ws)
told_undefined p none r ws i h = h
told_undefined p (some given) r ws i h =
    told_all p 5 (λ s. not (given s.value)) (passed_room r) ws
    (each_keep p (λ s. not (sets_name s.value r.entries)) r.unbound i.unbound) h

-- the list of a command: each at a spot that the walk meets, none twice
told_tour : (p : Spot → Bool) (u : ℕ → Bool) (g : Option (ℕ → Bool)) (c : Cmd) → Of p c → Told p (names_tour u g c)
told_tour p u g c o =
    let m = tour u 0 c start in
    let k = keeps_tour p u c 0 o start (begin p) in
    told_undefined p g m.here (farewell_room u true m.here m.out) k.here
    (told_farewell p u true m.here m.out k.here k.out)

each_told : (p : Spot → Bool) (ws : List Warning) → Such p (spots_of ws) → Each (λ w. T (p w.spot)) ws
each_told p [] h = tt
each_told p (w ∷ ws) h = (h.0, each_told p ws h.1)

-- NAMES: what holds of every spot that the walk meets holds of every warning's
pub tour_hold : (p : Spot → Bool) (u : ℕ → Bool) (g : Option (ℕ → Bool)) (c : Cmd) → Of p c → Each (λ w. T (p w.spot)) (names_tour u g c)
tour_hold p u g c o = each_told p (names_tour u g c) (told_tour p u g c o).here

pub names_hold : (p : Spot → Bool) (u is_fail : ℕ → Bool) (g : Option (ℕ → Bool)) (f : Forest) → Of p (body is_fail f)
    → Each (λ w. T (p w.spot)) (names u is_fail g f)
names_hold p u is_fail g f o =
    subst (λ (ws : List Warning). Each (λ w. T (p w.spot)) ws) (tour_tree u is_fail g f) (tour_hold p u g (body is_fail f) o)

module _ (u is_fail : ℕ → Bool) (x : Forest) where
  own : Of (is_of (places x)) (body is_fail x)
  own = takes_met (λ h. T (is_of (places x) h.spot)) is_fail x (within (places x) x (λ s t. t)) (of_role 0)

  -- THE WARNINGS at every moment: at most one for each node
  pub out_nodes : Every u (λ m. length m.out ≤ nodes x) 0 (body is_fail x) start
  out_nodes =
      every_map u (Keeps (is_of (places x))) (λ m. length m.out ≤ nodes x) (λ m h. told_few x m.out h.out) (body is_fail x) 0 start
      (keeps_every (is_of (places x)) u (body is_fail x) 0 own start (begin (is_of (places x))))

  -- NAMES: at most one record a node
  pub names_few : (g : Option (ℕ → Bool)) → length (names u is_fail g x) ≤ nodes x
  names_few g =
      subst (λ (ws : List Warning). length ws ≤ nodes x) (tour_tree u is_fail g x)
      (told_few x (names_tour u g (body is_fail x)) (told_tour (is_of (places x)) u g (body is_fail x) own))
