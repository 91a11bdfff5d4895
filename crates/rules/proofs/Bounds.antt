-- How much the walk with marks holds at every moment, over all open scopes together.
use Prim.Native.Nat.{ℕ, zero, suc, ◌+◌, ◌-◌, ◌*◌, ◌≤◌, ◌<◌, max}
use native.Mathlib.Omega.{arith}
use mathlib.Core.Path.{◌≡◌, refl, sym, ◌∙◌, ap, subst}
use mathlib.Core.Bool.{Bool, true, false, ◌||◌, not, cond}
use mathlib.Core.List.{List, [], ◌∷◌, ◌++◌}
use lib.Dec.{leb, T, leb→le, nleb→lt}
use lib.ListN.{length, length-append}
use Rattle.tree.specs.Forest.{Spot}
use Rattle.rules.specs.Order.{Sort, Cmd, skip, ◌⨟◌, use_of, set_of, stop, branch, loop, scope}
use Rattle.rules.specs.Record.{keep}
use Rattle.rules.specs.Names.{Abort, stop_abort, unloop, same, Setting, Found, nowhere, surely, perhaps}
use Rattle.rules.specs.code.Marks.{put, inside, add, adds, same_setting, Level, Absent, Maybe, Definitely, Chamber, House, empty_room, settings_of, level_at, set_room, unbinds_room, stop_room, Looked, look_step, look_out, use_away, use_level, notes, back_room, join_room, branch_house, same_house, round_house, rounds_house, passed_room, sets_name, enter_house, leave_house, tour, mid, settings_in, cant_in, unbound_in, start, EveryRound, EveryRounds, Every, sum, total}
use Rattle.rules.proofs.Bools.{or_left, or_right, or_case, nor_left, nor_right, or_other, test, never}
use Rattle.rules.proofs.Once.{once, inside_from}
use Rattle.rules.proofs.Lean.{setting_sound, setting_exact}
use Rattle.rules.proofs.Spots.{same_sound, same_exact}
use Rattle.rules.proofs.Marked.{settings_set, settings_marks, settings_restore, settings_merge}

module _ {K : Type 0} (eq : K → K → Bool) where
  abbrev pub Sub : List K → List K → Type 0
  Sub l k = (a : K) → T (inside eq a l) → T (inside eq a k)

  abbrev pub Plain : List K → Type 0
  Plain [] = Unit {0}
  Plain (a ∷ l) = T (not (inside eq a l)) × Plain l

  pub inside_split : {P : Type 0} (a : K) (l k : List K) → (T (inside eq a l) → P) → (T (inside eq a k) → P) → T (inside eq a (l ++ k)) → P
  inside_split a [] k f g t = g t
  inside_split a (b ∷ l) k f g t = or_case (eq a b) (inside eq a (l ++ k)) (λ u. f (or_left (eq a b) (inside eq a l) u))
      (inside_split a l k (λ u. f (or_right (eq a b) (inside eq a l) u)) g) t

  pub inside_left : (a : K) (l k : List K) → T (inside eq a l) → T (inside eq a (l ++ k))
  inside_left a [] k t = absurd t
  inside_left a (b ∷ l) k t = or_case (eq a b) (inside eq a l) (or_left (eq a b) (inside eq a (l ++ k)))
      (λ u. or_right (eq a b) (inside eq a (l ++ k)) (inside_left a l k u)) t

  pub inside_right : (a : K) (l k : List K) → T (inside eq a k) → T (inside eq a (l ++ k))
  inside_right a [] k t = t
  inside_right a (b ∷ l) k t = or_right (eq a b) (inside eq a (l ++ k)) (inside_right a l k t)

  pub sub_left : (l k m : List K) → Sub (l ++ k) m → Sub l m
  sub_left l k m h a t = h a (inside_left a l k t)

  pub sub_right : (l k m : List K) → Sub (l ++ k) m → Sub k m
  sub_right l k m h a t = h a (inside_right a l k t)

  module _ (sound : (a b : K) → T (eq a b) → a ≡ b) (exact : (a : K) → T (eq a a)) where
    swap : (a b : K) → T (eq a b) → T (eq b a)
    swap a b t = subst (λ (c : K). T (eq c a)) (sound a b t) (exact a)

    plain_last : (a : K) (l : List K) → T (not (inside eq a l)) → Plain l → Plain (l ++ (a ∷ []))
    plain_last a [] n p = (tt, tt)
    plain_last a (b ∷ l) n p = (
      test (inside eq b (l ++ (a ∷ [])))
          (inside_split {P = T (not (inside eq b (l ++ (a ∷ []))))} b l (a ∷ []) (λ t. never (inside eq b l) t p.0)
          (λ t. or_case (eq b a) false (λ u. never (eq a b) (swap b a u) (nor_left (eq a b) (inside eq a l) n)) (λ u. absurd u) t))
          (λ t. t),
      plain_last a l (nor_right (eq a b) (inside eq a l) n) p.1,
    )

    pub plain_add : (a : K) (l : List K) → Plain l → Plain (add eq a l)
    plain_add a l p = go (inside eq a l) refl
      where
        go : (b : Bool) → inside eq a l ≡ b → Plain (put b a l)
        go true e = p
        go false e = plain_last a l (subst (λ (b : Bool). T (not b)) (sym e) tt) p

    pub plain_adds : (k l : List K) → Plain l → Plain (adds eq k l)
    plain_adds [] l p = p
    plain_adds (a ∷ k) l p = plain_adds k (add eq a l) (plain_add a l p)

    sub_put : (b : Bool) (a : K) (l m : List K) → T (inside eq a m) → Sub l m → Sub (put b a l) m
    sub_put true a l m i h = h
    sub_put false a l m i h = λ c t. inside_split c l (a ∷ []) (h c)
        (λ u. or_case (eq c a) false (λ v. subst (λ (d : K). T (inside eq d m)) (sound a c (swap c a v)) i) (λ v. absurd v) u) t

    pub sub_adds : (k l m : List K) → Sub k m → Sub l m → Sub (adds eq k l) m
    sub_adds [] l m g h = h
    sub_adds (a ∷ k) l m g h = sub_adds k (add eq a l) m (λ c t. g c (or_right (eq c a) (inside eq c k) t))
        (sub_put (inside eq a l) a l m (g a (or_left (eq a a) (inside eq a k) (exact a))) h)

    -- one entry taken out
    abbrev without : K → List K → List K
    without a [] = []
    without a (b ∷ l) = cond (eq a b) l (b ∷ without a l)

    without_length : (a : K) (l : List K) → T (inside eq a l) → suc (length (without a l)) ≡ length l
    without_length a [] t = absurd t
    without_length a (b ∷ l) t = go (eq a b) t (without_length a l)
      where
        go : (x : Bool) → T (x || inside eq a l) → (T (inside eq a l) → suc (length (without a l)) ≡ length l)
            → suc (length (cond x l (b ∷ without a l))) ≡ suc (length l)
        go true u f = refl
        go false u f = ap suc (f u)

    without_inside : (a c : K) (l : List K) → T (not (eq c a)) → T (inside eq c l) → T (inside eq c (without a l))
    without_inside a c [] n t = absurd t
    without_inside a c (b ∷ l) n t = go (eq a b) refl (without_inside a c l n)
      where
        go : (x : Bool) → eq a b ≡ x → (T (inside eq c l) → T (inside eq c (without a l))) → T (inside eq c (cond x l (b ∷ without a l)))
        go true e f = or_other (eq c b) (inside eq c l) (subst (λ (d : K). T (not (eq c d))) (sound a b (subst T (sym e) tt)) n) t
        go false e f = or_case (eq c b) (inside eq c l) (or_left (eq c b) (inside eq c (without a l)))
            (λ u. or_right (eq c b) (inside eq c (without a l)) (f u)) t

    pub pigeon : (l k : List K) → Plain l → Sub l k → length l ≤ length k
    pigeon [] k p h = omega arith
    pigeon (a ∷ l) k p h =
        let i : T (inside eq a k) = h a (or_left (eq a a) (inside eq a l) (exact a)) in
        let q : length l ≤ length (without a k) = pigeon l (without a k) p.1 (λ c t. without_inside a c k
        (test (eq c a) {P = T (not (eq c a))} (λ u. never (inside eq a l) (subst (λ (d : K). T (inside eq d l)) (sound c a u) t) p.0)
        (λ u. u))
        (h c (or_right (eq c a) (inside eq c l) t))) in
        let e : suc (length (without a k)) ≡ length k = without_length a k i in
        omega arith

-- what a step keeps of the scopes further out: all three lists
pub record SameRoom (a b : Chamber) : Type 0 where
  pub cant : b.cant ≡ a.cant
  pub unbound : b.unbound ≡ a.unbound
  pub settings : settings_of b.entries ≡ settings_of a.entries

pub data Kept : List Chamber → List Chamber → Type 0 where
  kept_nil : Kept [] []
  kept_cons : {a b : Chamber} {ps qs : List Chamber} → SameRoom a b → Kept ps qs → Kept (a ∷ ps) (b ∷ qs)

room_refl : (a : Chamber) → SameRoom a a
room_refl a = record { cant = refl; unbound = refl; settings = refl }

kept_refl : (rs : List Chamber) → Kept rs rs
kept_refl [] = kept_nil
kept_refl (r ∷ rs) = kept_cons (room_refl r) (kept_refl rs)

kept_trans : {xs ys zs : List Chamber} → Kept xs ys → Kept ys zs → Kept xs zs
kept_trans kept_nil kept_nil = kept_nil
kept_trans (kept_cons p ps) (kept_cons q qs) = kept_cons (record {
  cant = q.cant ∙ p.cant;
  unbound = q.unbound ∙ p.unbound;
  settings = q.settings ∙ p.settings;
}) (kept_trans ps qs)

look_keeps_step : (x : ℕ) (r : Chamber) (rs : List Chamber) (l : Looked) → Kept rs l.rooms → (v : Level)
    → Kept (r ∷ rs) (look_step x r rs l v).rooms
look_keeps_step x r rs l k Absent = kept_cons (room_refl r) k
look_keeps_step x r rs l k Maybe = kept_cons (record { cant = refl; unbound = refl; settings = settings_marks x r.entries })
    (kept_refl rs)
look_keeps_step x r rs l k Definitely = kept_cons (record { cant = refl; unbound = refl; settings = settings_marks x r.entries })
    (kept_refl rs)

look_keeps : (x : ℕ) (rs : List Chamber) → Kept rs (look_out x rs).rooms
look_keeps x [] = kept_nil
look_keeps x (r ∷ rs) = look_keeps_step x r rs (look_out x rs) (look_keeps x rs) (level_at x r.entries)

abbrev Keeps : (House → House) → Type 0
Keeps f = (m : House) → Kept m.above (f m).above

away_keeps : (s : Spot) (m : House) (l : Looked) → Kept m.above l.rooms → (f : Found) → Kept m.above (use_away s m l f).above
away_keeps s m l k nowhere = k
away_keeps s m l k surely = k
away_keeps s m l k perhaps = k

level_keeps : (s : Spot) (m : House) (v : Level) → Kept m.above (use_level s m v).above
level_keeps s m Absent = let l = look_out s.value m.above in away_keeps s m l (look_keeps s.value m.above) l.found
level_keeps s m Maybe = kept_refl m.above
level_keeps s m Definitely = kept_refl m.above

branch_keeps : (f g : House → House) → Keeps f → Keeps g → Keeps (branch_house f g)
branch_keeps f g kf kg m = kept_trans (kf m) (kg (mid m (f m)))

round_keeps : (f : House → House) → Keeps f → Keeps (round_house f)
round_keeps f kf m = branch_keeps f same_house kf (λ t. kept_refl t.above) m

rounds_keeps : (b : Bool) (f : House → House) → Keeps f → Keeps (rounds_house b f)
rounds_keeps true f kf m = kept_trans (round_keeps f kf m) (round_keeps f kf (round_house f m))
rounds_keeps false f kf m = round_keeps f kf m

leave_keeps : (u : ℕ → Bool) (r : Chamber) (rs ts : List Chamber) (m : House) → Kept (r ∷ rs) ts → Kept rs (leave_house u m ts).above
leave_keeps u r rs ts m (kept_cons p ps) = ps

module _ (u : ℕ → Bool) where
  pub tour_keeps : (c : Cmd) (d : ℕ) → Keeps (tour u d c)
  tour_keeps skip d m = kept_refl m.above
  tour_keeps (a ⨟ b) d m = kept_trans (tour_keeps a d m) (tour_keeps b d (tour u d a m))
  tour_keeps (use_of a) d m = level_keeps a.spot m (level_at a.spot.value m.here.entries)
  tour_keeps (set_of o a) d m = kept_refl m.above
  tour_keeps (stop w) d m = kept_refl m.above
  tour_keeps (branch a b) d m = branch_keeps (tour u d a) (tour u d b) (tour_keeps a d) (tour_keeps b d) m
  tour_keeps (loop c) d m = rounds_keeps (leb (suc d) 5) (tour u (suc d) c) (tour_keeps c (suc d)) m
  tour_keeps (scope c) d m = leave_keeps u m.here m.above (tour u d c (enter_house m)).above (tour u d c (enter_house m))
      (tour_keeps c d (enter_house m))

-- two facts at every moment
module _ (u : ℕ → Bool) (P Q : House → Type 0) where
  pair_rounds : (b : Bool) (E F G : House → Type 0) (f : House → House) → ((m : House) → E m → F m → G m) → (m : House)
      → EveryRounds u P b E f m → EveryRounds u Q b F f m → EveryRounds u (λ x. P x × Q x) b G f m
  pair_rounds true E F G f h m p q = (
    (h m p.0.0 q.0.0, (p.0.1, q.0.1), (p.0.2, q.0.2)),
    (h (round_house f m) p.1.0 q.1.0, (p.1.1, q.1.1), (p.1.2, q.1.2)),
  )
  pair_rounds false E F G f h m p q = (h m p.0 q.0, (p.1, q.1), (p.2, q.2))

  pub every_both : (c : Cmd) (d : ℕ) (m : House) → Every u P d c m → Every u Q d c m → Every u (λ x. P x × Q x) d c m
  every_both skip d m p q = (p, q)
  every_both (a ⨟ b) d m p q = (every_both a d m p.0 q.0, every_both b d (tour u d a m) p.1 q.1)
  every_both (use_of a) d m p q = ((p.0, q.0), (p.1, q.1))
  every_both (set_of o a) d m p q = ((p.0, q.0), (p.1, q.1))
  every_both (stop w) d m p q = ((p.0, q.0), (p.1, q.1))
  every_both (branch a b) d m p q = (every_both a d m p.0 q.0, every_both b d (mid m (tour u d a m)) p.1 q.1, (p.2, q.2))
  every_both (loop c) d m p q = pair_rounds (leb (suc d) 5) (Every u P (suc d) c) (Every u Q (suc d) c)
      (Every u (λ x. P x × Q x) (suc d) c) (tour u (suc d) c) (every_both c (suc d)) m p q
  every_both (scope c) d m p q = ((p.0, q.0), every_both c d (enter_house m) p.1 q.1, (p.2, q.2))

-- what follows from a fact, at every moment
module _ (u : ℕ → Bool) (P Q : House → Type 0) (to : (m : House) → P m → Q m) where
  map_rounds : (b : Bool) (E F : House → Type 0) (f : House → House) → ((m : House) → E m → F m) → (m : House)
      → EveryRounds u P b E f m → EveryRounds u Q b F f m
  map_rounds true E F f h m p = (
    (h m p.0.0, to (mid m (f m)) p.0.1, to (round_house f m) p.0.2),
    (
      h (round_house f m) p.1.0,
      to (mid (round_house f m) (f (round_house f m))) p.1.1,
      to (round_house f (round_house f m))
          p.1.2,
    ),
  )
  map_rounds false E F f h m p = (h m p.0, to (mid m (f m)) p.1, to (round_house f m) p.2)

  pub every_map : (c : Cmd) (d : ℕ) (m : House) → Every u P d c m → Every u Q d c m
  every_map skip d m p = to m p
  every_map (a ⨟ b) d m p = (every_map a d m p.0, every_map b d (tour u d a m) p.1)
  every_map (use_of a) d m p = (to m p.0, to (tour u d (use_of a) m) p.1)
  every_map (set_of o a) d m p = (to m p.0, to (tour u d (set_of o a) m) p.1)
  every_map (stop w) d m p = (to m p.0, to (tour u d (stop w) m) p.1)
  every_map (branch a b) d m p =
      (every_map a d m p.0, every_map b d (mid m (tour u d a m)) p.1, to (tour u d (branch a b) m) p.2)
  every_map (loop c) d m p = map_rounds (leb (suc d) 5) (Every u P (suc d) c) (Every u Q (suc d) c) (tour u (suc d) c)
      (every_map c (suc d)) m p
  every_map (scope c) d m p = (to m p.0, every_map c d (enter_house m) p.1, to (tour u d (scope c) m) p.2)

-- the keys of a command: of its uses, of its settings, and of its nested scopes' keys
abbrev pub gather : {K : Type 0} → (Spot → List K) → (Sort → Spot → List K) → (List K → List K) → Cmd → List K
gather f g h skip = []
gather f g h (a ⨟ b) = gather f g h a ++ gather f g h b
gather f g h (use_of a) = f a.spot
gather f g h (set_of o a) = g o a.spot
gather f g h (stop w) = []
gather f g h (branch a b) = gather f g h a ++ gather f g h b
gather f g h (loop c) = gather f g h c
gather f g h (scope c) = h (gather f g h c)

pub data Step {K : Type 0} (eq : K → K → Bool) (ks l k : List K) : Type 0 where
  stays : k ≡ l → Step eq ks l k
  joins : k ≡ adds eq ks l → Step eq ks l k

pub record Good {K : Type 0} (eq : K → K → Bool) (k l : List K) : Type 0 where
  pub plain : Plain eq l
  pub sub : Sub eq l k

good_to : {K : Type 0} (eq : K → K → Bool) {k l m : List K} → m ≡ l → Good eq k l → Good eq k m
good_to eq {k} {l} {m} e g = subst (Good eq k) (sym e) g

-- what a list of each scope must do: which keys join it where
pub record Laws {K : Type 0} (eq : K → K → Bool) (f : Spot → List K) (g : Sort → Spot → List K) (h : List K → List K) (list : Chamber
    → List K) : Type 0 where
  pub nil : list empty_room ≡ []
  pub kept : (a b : Chamber) → SameRoom a b → list b ≡ list a
  pub stop_law : (a : Abort) (r : Chamber) → list (stop_room a r) ≡ list r
  pub back : (r one : Chamber) → list (back_room r one) ≡ list one
  pub join : (one two : Chamber) → list (join_room one two) ≡ list two
  pub used : (s : Spot) (m : House) (v : Level) → Step eq (f s) (list m.here) (list (use_level s m v).here)
  pub set : (o : Sort) (s : Spot) (r : Chamber) → Step eq (g o s) (list r) (list (set_room o s r))
  pub left : (k : List K) (c : Cmd) (inner r : Chamber) → Sub eq (h (gather f g h c)) k → (Sub eq (gather f g h c) k → Good eq k (list inner))
      → Good eq k (list r)
      → Good eq k (list (unbinds_room (passed_room inner) r))

-- one more time, or not
abbrev pub again : Bool → ℕ → ℕ → ℕ
again true e w = e + w
again false e w = w

module _ {K : Type 0} (eq : K → K → Bool) (f : Spot → List K) (g : Sort → Spot → List K) (h : List K → List K) where
  -- how many different keys
  abbrev pub most : Cmd → ℕ
  most c = length (once eq (gather f g h c))

  -- the most that nested scopes hold at once, each its own keys
  abbrev pub deep : Cmd → ℕ
  deep skip = 0
  deep (a ⨟ b) = max (deep a) (deep b)
  deep (use_of a) = 0
  deep (set_of o a) = 0
  deep (stop w) = 0
  deep (branch a b) = max (deep a) (deep b)
  deep (loop c) = deep c
  deep (scope c) = most c + deep c

  -- by how much a total is raised on the way
  abbrev pub way : ℕ → Cmd → ℕ
  way d skip = 0
  way d (a ⨟ b) = max (way d a) (most a + way d b)
  way d (use_of a) = most (use_of a)
  way d (set_of o a) = most (set_of o a)
  way d (stop w) = 0
  way d (branch a b) = max (way d a) (max (most a + way d b) (most (branch a b)))
  way d (loop c) = again (leb (suc d) 5) (most c) (max (way (suc d) c) (most c))
  way d (scope c) = max (way d c) (most (scope c))

module _ {K : Type 0} (eq : K → K → Bool) (sound : (a b : K) → T (eq a b) → a ≡ b) (exact : (a : K) → T (eq a a))
    (f : Spot → List K) (g : Sort → Spot → List K) (h : List K → List K) (list : Chamber → List K) where
  good_step : (k ks l m : List K) → Sub eq ks k → Step eq ks l m → Good eq k l → Good eq k m
  good_step k ks l m s (stays e) q = good_to eq e q
  good_step k ks l m s (joins e) q = good_to eq e (record {
    plain = plain_adds eq sound exact ks l q.plain;
    sub = sub_adds eq sound exact ks l k s q.sub;
  })

  good_size : (k l : List K) → Good eq k l → length l ≤ length k
  good_size k l q = pigeon eq sound exact l k q.plain q.sub

  good_nil : (k : List K) → Good eq k []
  good_nil k = record { plain = tt; sub = λ a t. absurd t }

  module _ (w : Laws eq f g h list) where
    sum_kept : {rs ts : List Chamber} → Kept rs ts → sum list ts ≡ sum list rs
    sum_kept kept_nil = refl
    sum_kept (kept_cons {a = a} {b = b} {ps = ps} {qs = qs} p q) = let e : length (list b) ≡ length (list a) = ap length (w.kept a b p) in
        let i : sum list qs ≡ sum list ps = sum_kept q in omega arith

    abbrev Stays : List K → (House → House) → Type 0
    Stays k t = (m : House) → Good eq k (list m.here) → Good eq k (list (t m).here)

    branch_good : (k : List K) (a b : House → House) → Stays k a → Stays k b → Stays k (branch_house a b)
    branch_good k a b p q m i = good_to eq (w.join (a m).here (b (mid m (a m))).here)
        (q (mid m (a m)) (good_to eq (w.back m.here (a m).here) (p m i)))

    round_good : (k : List K) (a : House → House) → Stays k a → Stays k (round_house a)
    round_good k a p m i = good_to eq (w.stop_law (unloop (branch_house a same_house m).here.abort) (branch_house a same_house m).here)
        (branch_good k a same_house p (λ t j. j) m i)

    rounds_good : (b : Bool) (k : List K) (a : House → House) → Stays k a → Stays k (rounds_house b a)
    rounds_good true k a p m i = round_good k a p (round_house a m) (round_good k a p m i)
    rounds_good false k a p m i = round_good k a p m i

    leave_good : (u : ℕ → Bool) (k : List K) (c : Cmd) (m : House) (r : Chamber) (rs ts : List Chamber) → Kept (r ∷ rs) ts
        → Sub eq (gather f g h (scope c)) k
        → (Sub eq (gather f g h c) k → Good eq k (list m.here)) → Good eq k (list r) → Good eq k (list (leave_house u m ts).here)
    leave_good u k c m r rs ts (kept_cons {b = b} p ps) s i j = w.left k c m.here b s i (good_to eq (w.kept r b p) j)

    module _ (u : ℕ → Bool) where
      pub tour_good : (c : Cmd) (d : ℕ) (k : List K) → Sub eq (gather f g h c) k → Stays k (tour u d c)
      tour_good skip d k s m i = i
      tour_good (a ⨟ b) d k s m i = tour_good b d k (sub_right eq (gather f g h a) (gather f g h b) k s) (tour u d a m)
          (tour_good a d k (sub_left eq (gather f g h a) (gather f g h b) k s) m i)
      tour_good (use_of a) d k s m i = good_step k (f a.spot) (list m.here) (list (tour u d (use_of a) m).here) s
          (w.used a.spot m (level_at a.spot.value m.here.entries)) i
      tour_good (set_of o a) d k s m i = good_step k (g o a.spot) (list m.here) (list (set_room o a.spot m.here)) s (w.set o a.spot m.here) i
      tour_good (stop y) d k s m i = good_to eq (w.stop_law (stop_abort y) m.here) i
      tour_good (branch a b) d k s m i = branch_good k (tour u d a) (tour u d b)
          (tour_good a d k (sub_left eq (gather f g h a) (gather f g h b) k s))
          (tour_good b d k (sub_right eq (gather f g h a) (gather f g h b) k s)) m i
      tour_good (loop c) d k s m i = rounds_good (leb (suc d) 5) k (tour u (suc d) c) (tour_good c (suc d) k s) m i
      tour_good (scope c) d k s m i = leave_good u k c (tour u d c (enter_house m)) m.here m.above
          (tour u d c (enter_house m)).above (tour_keeps u c d (enter_house m)) s
          (λ q. tour_good c d k q (enter_house m) (good_to eq w.nil (good_nil k))) i

      -- THE BOUND of a list whose keys belong to one scope each
      abbrev Fits : ℕ → List K → ℕ → House → Type 0
      Fits n k e m = sum list m.above + (length k + e) ≤ n

      fits : (n : ℕ) (k : List K) (e : ℕ) (m : House) → Good eq k (list m.here) → Fits n k e m → total list m ≤ n
      fits n k e m i p = let q : length (list m.here) ≤ length k = good_size k (list m.here) i in omega arith

      fits_on : (n : ℕ) (k : List K) (e : ℕ) (m x : House) → Kept m.above x.above → Fits n k e m → Fits n k e x
      fits_on n k e m x p q = let s : sum list x.above ≡ sum list m.above = sum_kept p in omega arith

      round_fits : (n : ℕ) (k : List K) (e : ℕ) (E : House → Type 0) (t : House → House) → Stays k t → Keeps t
          → ((m : House) → Good eq k (list m.here) → Fits n k e m → E m) → (m : House) → Good eq k (list m.here) → Fits n k e m
          → EveryRound u (λ x. total list x ≤ n) E t m
      round_fits n k e E t s p q m i j = (
        q m i j,
        fits n k e (mid m (t m)) (good_to eq (w.back m.here (t m).here) (s m i)) (fits_on n k e m (mid m (t m)) (p m) j),
        fits n k e (round_house t m) (round_good k t s m i) (fits_on n k e m (round_house t m) (round_keeps t p m) j),
      )

      rounds_fit : (b : Bool) (n : ℕ) (k : List K) (e : ℕ) (E : House → Type 0) (t : House → House) → Stays k t → Keeps t
          → ((m : House) → Good eq k (list m.here) → Fits n k e m → E m) → (m : House) → Good eq k (list m.here) → Fits n k e m
          → EveryRounds u (λ x. total list x ≤ n) b E t m
      rounds_fit true n k e E t s p q m i j = (
        round_fits n k e E t s p q m i j,
        round_fits n k e E t s p q (round_house t m) (round_good k t s m i) (fits_on n k e m (round_house t m) (round_keeps t p m) j),
      )
      rounds_fit false n k e E t s p q m i j = round_fits n k e E t s p q m i j

      pub tour_fits : (c : Cmd) (d n : ℕ) (k : List K) (m : House) → Sub eq (gather f g h c) k → Good eq k (list m.here)
          → Fits n k (deep eq f g h c) m → Every u (λ x. total list x ≤ n) d c m
      tour_fits skip d n k m s i j = fits n k 0 m i j
      tour_fits (a ⨟ b) d n k m s i j = (
        tour_fits a d n k m (sub_left eq (gather f g h a) (gather f g h b) k s) i (omega arith),
        let y : Fits n k (deep eq f g h b) m = omega arith in
            tour_fits b d n k (tour u d a m) (sub_right eq (gather f g h a) (gather f g h b) k s)
            (tour_good a d k (sub_left eq (gather f g h a) (gather f g h b) k s) m i)
            (fits_on n k (deep eq f g h b) m (tour u d a m) (tour_keeps u a d m) y),
      )
      tour_fits (use_of t) d n k m s i j = (
        fits n k 0 m i j,
        fits n k 0 (tour u d (use_of t) m) (tour_good (use_of t) d k s m i)
            (fits_on n k 0 m (tour u d (use_of t) m) (tour_keeps u (use_of t) d m) j),
      )
      tour_fits (set_of o t) d n k m s i j = (fits n k 0 m i j, fits n k 0 (tour u d (set_of o t) m) (tour_good (set_of o t) d k s m i) j)
      tour_fits (stop y) d n k m s i j = (fits n k 0 m i j, fits n k 0 (tour u d (stop y) m) (tour_good (stop y) d k s m i) j)
      tour_fits (branch a b) d n k m s i j =
          let p : Good eq k (list (tour u d a m).here) = tour_good a d k (sub_left eq (gather f g h a) (gather f g h b) k s) m i in
          let y : Fits n k (deep eq f g h b) m = omega arith in (
            tour_fits a d n k m (sub_left eq (gather f g h a) (gather f g h b) k s) i (omega arith),
            tour_fits b d n k (mid m (tour u d a m)) (sub_right eq (gather f g h a) (gather f g h b) k s)
                (good_to eq (w.back m.here (tour u d a m).here) p)
                (fits_on n k (deep eq f g h b) m (mid m (tour u d a m)) (tour_keeps u a d m) y),
            fits n k (deep eq f g h b) (tour u d (branch a b) m) (tour_good (branch a b) d k s m i)
                (fits_on n k (deep eq f g h b) m (tour u d (branch a b) m) (tour_keeps u (branch a b) d m) y),
          )
      tour_fits (loop c) d n k m s i j = rounds_fit (leb (suc d) 5) n k (deep eq f g h c) (Every u (λ x. total list x ≤ n) (suc d) c)
          (tour u (suc d) c) (tour_good c (suc d) k s) (tour_keeps u c (suc d))
          (λ x. tour_fits c (suc d) n k x s) m i j
      tour_fits (scope c) d n k m s i j =
          let q : length (list m.here) ≤ length k = good_size k (list m.here) i in (
            fits n k (deep eq f g h (scope c)) m i j,
            tour_fits c d n (once eq (gather f g h c)) (enter_house m) (λ a t. inside_from eq sound exact a (gather f g h c) [] t)
                (good_to eq w.nil (good_nil (once eq (gather f g h c)))) (omega arith),
            fits n k (deep eq f g h (scope c)) (tour u d (scope c) m) (tour_good (scope c) d k s m i)
                (fits_on n k (deep eq f g h (scope c)) m (tour u d (scope c) m) (tour_keeps u (scope c) d m) j),
          )

      pub fits_always : (c : Cmd) → Every u (λ x. total list x ≤ most eq f g h c + deep eq f g h c) 0 c start
      fits_always c = tour_fits c 0 (most eq f g h c + deep eq f g h c) (once eq (gather f g h c)) start
          (λ a t. inside_from eq sound exact a (gather f g h c) [] t)
          (good_to eq w.nil (good_nil (once eq (gather f g h c)))) (omega arith)

      -- THE BOUND of any list: what the end raises, and what the way does
      end_good : (c : Cmd) (d : ℕ) (m : House) → Plain eq (list m.here)
          → Good eq (list m.here ++ once eq (gather f g h c)) (list (tour u d c m).here)
      end_good c d m p = let k = list m.here ++ once eq (gather f g h c) in
          tour_good c d k (λ a t. inside_right eq a (list m.here) (once eq (gather f g h c))
          (inside_from eq sound exact a (gather f g h c) [] t)) m
          (record { plain = p; sub = λ a t. inside_left eq a (list m.here) (once eq (gather f g h c)) t })

      good_raise : (l k : List K) (m x : House) → l ≡ list m.here → Good eq (l ++ k) (list x.here) → Kept m.above x.above
          → total list x ≤ total list m + length k
      good_raise l k m x e i p =
          let q : length (list x.here) ≤ length (l ++ k) = good_size (l ++ k) (list x.here) i in
          let r : length (l ++ k) ≡ length l + length k = length-append l k in
          let y : length l ≡ length (list m.here) = ap length e in
          let s : sum list x.above ≡ sum list m.above = sum_kept p in omega arith

      pub end_total : (c : Cmd) (d : ℕ) (m : House) → Plain eq (list m.here) → total list (tour u d c m) ≤ total list m + most eq f g h c
      end_total c d m p = good_raise (list m.here) (once eq (gather f g h c)) m (tour u d c m) refl (end_good c d m p)
          (tour_keeps u c d m)

      plain_empty : Plain eq (list empty_room)
      plain_empty = subst (Plain eq) (sym w.nil) tt

      plain_mid : (m x : House) → Plain eq (list x.here) → Plain eq (list (mid m x).here)
      plain_mid m x p = subst (Plain eq) (sym (w.back m.here x.here)) p

      total_mid : (m x : House) → total list (mid m x) ≡ total list x
      total_mid m x = ap (λ (l : List K). length l + sum list x.above) (w.back m.here x.here)

      total_enter : (m : House) → total list (enter_house m) ≡ total list m
      total_enter m = let e : length (list empty_room) ≡ 0 = ap length w.nil in omega arith

      -- a round of a loop whose body's keys are ks
      module _ (n : ℕ) (E : House → Type 0) (t : House → House) (ks : List K) (e : ℕ) (ends : (m : House) → Plain eq (list m.here)
          → Good eq (list m.here ++ ks) (list (t m).here)) (kt : Keeps t)
          (goes : (m : House) → Plain eq (list m.here) → total list m + e ≤ n → E m) where
        round_end : (m : House) → Plain eq (list m.here) → Good eq (list m.here ++ ks) (list (round_house t m).here)
        round_end m p = good_to eq (w.stop_law (unloop (branch_house t same_house m).here.abort) (branch_house t same_house m).here)
            (good_to eq (w.join (t m).here (mid m (t m)).here) (good_to eq (w.back m.here (t m).here) (ends m p)))

        round_raise : (m : House) → Plain eq (list m.here) → total list (round_house t m) ≤ total list m + length ks
        round_raise m p = good_raise (list m.here) ks m (round_house t m) refl (round_end m p) (round_keeps t kt m)

        round_way : (m : House) → Plain eq (list m.here) → total list m + max e (length ks) ≤ n
            → EveryRound u (λ x. total list x ≤ n) E t m
        round_way m p q =
            let a : total list (t m) ≤ total list m + length ks = good_raise (list m.here) ks m (t m) refl (ends m p) (kt m) in
            let b : total list (mid m (t m)) ≡ total list (t m) = total_mid m (t m) in
            let c : total list (round_house t m) ≤ total list m + length ks = round_raise m p in
            let x : total list m + e ≤ n = omega arith in
            (goes m p x, omega arith, omega arith)

        rounds_way : (b : Bool) (m : House) → Plain eq (list m.here) → total list m + again b (length ks) (max e (length ks)) ≤ n
            → EveryRounds u (λ x. total list x ≤ n) b E t m
        rounds_way true m p q =
            let c : total list (round_house t m) ≤ total list m + length ks = round_raise m p in
            (round_way m p (omega arith), round_way (round_house t m) (round_end m p).plain (omega arith))
        rounds_way false m p q = round_way m p q

      pub tour_way : (c : Cmd) (d n : ℕ) (m : House) → Plain eq (list m.here) → total list m + way eq f g h d c ≤ n
          → Every u (λ x. total list x ≤ n) d c m
      tour_way skip d n m p q = omega arith
      tour_way (a ⨟ b) d n m p q =
          let e : total list (tour u d a m) ≤ total list m + most eq f g h a = end_total a d m p in
          (tour_way a d n m p (omega arith), tour_way b d n (tour u d a m) (end_good a d m p).plain (omega arith))
      tour_way (use_of t) d n m p q = let e : total list (tour u d (use_of t) m) ≤ total list m + most eq f g h (use_of t) =
          end_total (use_of t) d m p in (omega arith, omega arith)
      tour_way (set_of o t) d n m p q = let e : total list (tour u d (set_of o t) m) ≤ total list m + most eq f g h (set_of o t) =
          end_total (set_of o t) d m p in (omega arith, omega arith)
      tour_way (stop y) d n m p q = let e : total list (tour u d (stop y) m) ≤ total list m + 0 = end_total (stop y) d m p in
          (omega arith, omega arith)
      tour_way (branch a b) d n m p q =
          let e : total list (tour u d a m) ≤ total list m + most eq f g h a = end_total a d m p in
          let x : total list (mid m (tour u d a m)) ≡ total list (tour u d a m) = total_mid m (tour u d a m) in
          let y : total list (tour u d (branch a b) m) ≤ total list m + most eq f g h (branch a b) = end_total (branch a b) d m p in (
            tour_way a d n m p (omega arith),
            tour_way b d n (mid m (tour u d a m)) (plain_mid m (tour u d a m) (end_good a d m p).plain)
                (omega arith),
            omega arith,
          )
      tour_way (loop c) d n m p q = rounds_way n (Every u (λ x. total list x ≤ n) (suc d) c) (tour u (suc d) c) (once eq (gather f g h c))
          (way eq f g h (suc d) c)
          (λ x. end_good c (suc d) x) (tour_keeps u c (suc d)) (λ x. tour_way c (suc d) n x) (leb (suc d) 5) m p q
      tour_way (scope c) d n m p q =
          let e : total list (enter_house m) ≡ total list m = total_enter m in
          let y : total list (tour u d (scope c) m) ≤ total list m + most eq f g h (scope c) = end_total (scope c) d m p in
          (omega arith, tour_way c d n (enter_house m) plain_empty (omega arith), omega arith)

      pub way_always : (c : Cmd) → Every u (λ x. total list x ≤ way eq f g h 0 c) 0 c start
      way_always c = let e : length (list empty_room) ≡ 0 = ap length w.nil in
          tour_way c 0 (way eq f g h 0 c) start plain_empty (omega arith)

-- THE THREE LISTS
away_settings : (s : Spot) (m : House) (l : Looked) (v : Found)
    → settings_of (use_away s m l v).here.entries ≡ settings_of m.here.entries
away_settings s m l nowhere = refl
away_settings s m l surely = refl
away_settings s m l perhaps = refl

use_settings : (s : Spot) (m : House) (v : Level) → settings_of (use_level s m v).here.entries ≡ settings_of m.here.entries
use_settings s m Absent = let l = look_out s.value m.above in away_settings s m l l.found
use_settings s m Maybe = settings_marks s.value m.here.entries
use_settings s m Definitely = settings_marks s.value m.here.entries

abbrev pub no_use {ℓ} : {A B : Type ℓ} → B → List A
no_use s = []

abbrev pub no_set {ℓ} : {A B C : Type ℓ} → B → C → List A
no_set o s = []

abbrev pub set_key : Sort → Spot → List Setting
set_key o s = record { sort = o; spot = s } ∷ []

abbrev pub use_key : Spot → List Spot
use_key s = s ∷ []

abbrev pub whole {ℓ} : {A : Type ℓ} → List A → List A
whole l = l

pub settings_laws : Laws same_setting no_use set_key no_use settings_in
settings_laws = record {
  nil = refl;
  kept = λ a b p. p.settings;
  stop_law = λ a r. refl;
  back = λ r one. settings_restore (notes r.entries) one.entries;
  join = λ one two. settings_merge one.abort two.abort (notes one.entries) two.entries;
  used = λ s m v. stays (use_settings s m v);
  set = λ o s r. joins (settings_set o s r.entries);
  left = λ k c inner r s i j. j;
}

away_cant : (s : Spot) (m : House) (l : Looked) (v : Found) → (use_away s m l v).here.cant ≡ add same s m.here.cant
away_cant s m l nowhere = refl
away_cant s m l surely = refl
away_cant s m l perhaps = refl

use_cant : (s : Spot) (m : House) (v : Level) → Step same (s ∷ []) m.here.cant (use_level s m v).here.cant
use_cant s m Absent = let l = look_out s.value m.above in joins (away_cant s m l l.found)
use_cant s m Maybe = stays refl
use_cant s m Definitely = stays refl

pub cant_laws : Laws same use_key no_set no_use cant_in
cant_laws = record {
  nil = refl;
  kept = λ a b p. p.cant;
  stop_law = λ a r. refl;
  back = λ r one. refl;
  join = λ one two. refl;
  used = use_cant;
  set = λ o s r. stays refl;
  left = λ k c inner r s i j. j;
}

away_unbound : (s : Spot) (m : House) (l : Looked) (v : Found) → Step same (s ∷ []) m.here.unbound (use_away s m l v).here.unbound
away_unbound s m l nowhere = joins refl
away_unbound s m l surely = stays refl
away_unbound s m l perhaps = stays refl

use_unbound : (s : Spot) (m : House) (v : Level) → Step same (s ∷ []) m.here.unbound (use_level s m v).here.unbound
use_unbound s m Absent = let l = look_out s.value m.above in away_unbound s m l l.found
use_unbound s m Maybe = stays refl
use_unbound s m Definitely = stays refl

sub_keep : (p : Spot → Bool) (l : List Spot) → Sub same (keep p l) l
sub_keep p [] a t = t
sub_keep p (s ∷ ss) a t = go (p s) t (sub_keep p ss a)
  where
    go : (b : Bool) → T (inside same a (elim b as (λ x. List Spot) [ true ↦ s ∷ keep p ss | false ↦ keep p ss ]))
        → (T (inside same a (keep p ss)) → T (inside same a ss)) → T (same a s || inside same a ss)
    go true v f = or_case (same a s) (inside same a (keep p ss)) (or_left (same a s) (inside same a ss))
        (λ y. or_right (same a s) (inside same a ss) (f y)) v
    go false v f = or_right (same a s) (inside same a ss) (f v)

leave_unbound : (k : List Spot) (inner r : Chamber) → Good same k inner.unbound → Good same k r.unbound
    → Good same k (adds same (passed_room inner) r.unbound)
leave_unbound k inner r i j = record {
  plain = plain_adds same same_sound same_exact (passed_room inner) r.unbound j.plain;
  sub = sub_adds same same_sound same_exact (passed_room inner) r.unbound k
      (λ a t. i.sub a (sub_keep (λ s. not (sets_name s.value inner.entries)) inner.unbound a t)) j.sub;
}

pub unbound_laws : Laws same use_key no_set whole unbound_in
unbound_laws = record {
  nil = refl;
  kept = λ a b p. p.unbound;
  stop_law = λ a r. refl;
  back = λ r one. refl;
  join = λ one two. refl;
  used = use_unbound;
  set = λ o s r. stays refl;
  left = λ k c inner r s i j. leave_unbound k inner r (i s) j;
}

-- once, and as often again
abbrev pub times : ℕ → ℕ → ℕ
times zero x = x
times (suc k) x = x + times k x

pub times_le : (k x : ℕ) → x ≤ times k x
times_le zero x = omega arith
times_le (suc k) x = let p = times_le k x in omega arith

pub times_add : (k x y : ℕ) → times k (x + y) ≡ times k x + times k y
times_add zero x y = refl
times_add (suc k) x y = let p : times k (x + y) ≡ times k x + times k y = times_add k x y in omega arith

times_two : {K : Type 0} (k a b e : ℕ) (l m : List K) → a ≤ times k (length l) → b ≤ times k (length m) → e ≤ length l
    → max a (e + b) ≤ times k (length (l ++ m))
times_two k a b e l m p q r = subst (λ (n : ℕ). max a (e + b) ≤ times k n) (sym (length-append l m))
    (let x : times k (length l + length m) ≡ times k (length l) + times k (length m) = times_add k (length l) (length m) in
    let y : length l ≤ times k (length l) = times_le k (length l) in omega arith)

again_times : (b : Bool) (d x e w : ℕ) → leb (suc d) 5 ≡ b → e ≤ x → w ≤ times (5 - suc d) x → again b e (max w e) ≤ times (5 - d) x
again_times true d x e w t p q = subst (λ (k : ℕ). e + max w e ≤ times k x) (let r : suc d ≤ 5 = leb→le (suc d) 5 (subst T (sym t) tt) in
    let z : suc (5 - suc d) ≡ 5 - d = omega arith in z)
    (let y : x ≤ times (5 - suc d) x = times_le (5 - suc d) x in omega arith)
again_times false d x e w t p q = subst (λ (k : ℕ). max w e ≤ times k x)
    (let r : 5 < suc d = nleb→lt (suc d) 5 (subst (λ (b : Bool). T (not b)) (sym t) tt) in let z : 5 - suc d ≡ 5 - d = omega arith in z)
    (let y : x ≤ times (5 - suc d) x = times_le (5 - suc d) x in omega arith)

-- counting commands
module _ {K : Type 0} (eq : K → K → Bool) where
  put_length : (b : Bool) (a : K) (l : List K) → length (put b a l) ≤ suc (length l)
  put_length true a l = omega arith
  put_length false a l = let e : length (l ++ (a ∷ [])) ≡ length l + 1 = length-append l (a ∷ []) in omega arith

  adds_length : (m l : List K) → length (adds eq m l) ≤ length m + length l
  adds_length [] l = omega arith
  adds_length (a ∷ m) l = let p : length (adds eq m (add eq a l)) ≤ length m + length (add eq a l) = adds_length m (add eq a l) in
      let q : length (add eq a l) ≤ suc (length l) = put_length (inside eq a l) a l in omega arith

  pub once_length : (l : List K) → length (once eq l) ≤ length l
  once_length l = let p : length (adds eq l []) ≤ length l + 0 = adds_length l [] in omega arith

  module _ (f : Spot → List K) (g : Sort → Spot → List K) where
    -- the keys of one scope and the most of its nested ones: no more than all
    spread : (c : Cmd) → length (gather f g no_use c) + deep eq f g no_use c ≤ length (gather f g whole c)
    spread skip = omega arith
    spread (a ⨟ b) = let p = spread a in let q = spread b in
        let x : length (gather f g no_use a ++ gather f g no_use b) ≡ length (gather f g no_use a) + length (gather f g no_use b) =
        length-append (gather f g no_use a) (gather f g no_use b) in
        let y : length (gather f g whole a ++ gather f g whole b) ≡ length (gather f g whole a) + length (gather f g whole b) =
        length-append (gather f g whole a) (gather f g whole b) in omega arith
    spread (use_of a) = omega arith
    spread (set_of o a) = omega arith
    spread (stop w) = omega arith
    spread (branch a b) = let p = spread a in let q = spread b in
        let x : length (gather f g no_use a ++ gather f g no_use b) ≡ length (gather f g no_use a) + length (gather f g no_use b) =
        length-append (gather f g no_use a) (gather f g no_use b) in
        let y : length (gather f g whole a ++ gather f g whole b) ≡ length (gather f g whole a) + length (gather f g whole b) =
        length-append (gather f g whole a) (gather f g whole b) in omega arith
    spread (loop c) = spread c
    spread (scope c) = let p = spread c in let q : most eq f g no_use c ≤ length (gather f g no_use c) =
        once_length (gather f g no_use c) in omega arith

    -- the way: at most one time more for each enclosing loop that is gone round twice
    way_times : (c : Cmd) (d : ℕ) → way eq f g whole d c ≤ times (5 - d) (length (gather f g whole c))
    way_times skip d = omega arith
    way_times (a ⨟ b) d = times_two (5 - d) (way eq f g whole d a) (way eq f g whole d b) (most eq f g whole a) (gather f g whole a)
        (gather f g whole b)
        (way_times a d) (way_times b d) (once_length (gather f g whole a))
    way_times (use_of a) d = let p : most eq f g whole (use_of a) ≤ length (f a.spot) = once_length (f a.spot) in
        let q : length (f a.spot) ≤ times (5 - d) (length (f a.spot)) = times_le (5 - d) (length (f a.spot)) in omega arith
    way_times (set_of o a) d = let p : most eq f g whole (set_of o a) ≤ length (g o a.spot) = once_length (g o a.spot) in
        let q : length (g o a.spot) ≤ times (5 - d) (length (g o a.spot)) = times_le (5 - d) (length (g o a.spot)) in omega arith
    way_times (stop w) d = omega arith
    way_times (branch a b) d = let p : max (way eq f g whole d a) (most eq f g whole a + way eq f g whole d b) ≤ times (5 - d)
        (length (gather f g whole a ++ gather f g whole b)) =
        times_two (5 - d) (way eq f g whole d a) (way eq f g whole d b) (most eq f g whole a) (gather f g whole a) (gather f g whole b)
        (way_times a d) (way_times b d) (once_length (gather f g whole a)) in
        let q : most eq f g whole (branch a b) ≤ length (gather f g whole a ++ gather f g whole b) =
        once_length (gather f g whole a ++ gather f g whole b) in
        let r : length (gather f g whole a ++ gather f g whole b) ≤ times (5 - d) (length (gather f g whole a ++ gather f g whole b)) =
        times_le (5 - d) (length (gather f g whole a ++ gather f g whole b)) in omega arith
    way_times (loop c) d = again_times (leb (suc d) 5) d (length (gather f g whole c)) (most eq f g whole c)
        (way eq f g whole (suc d) c) refl (once_length (gather f g whole c)) (way_times c (suc d))
    way_times (scope c) d = let p : way eq f g whole d c ≤ times (5 - d) (length (gather f g whole c)) = way_times c d in
        let q : most eq f g whole c ≤ length (gather f g whole c) = once_length (gather f g whole c) in
        let r : length (gather f g whole c) ≤ times (5 - d) (length (gather f g whole c)) =
        times_le (5 - d) (length (gather f g whole c)) in omega arith

-- THE BOUNDS, at every moment, over all open scopes together. A command's set commands and use commands, those of nested scopes too:
abbrev pub all_sets : Cmd → List Setting
all_sets = gather no_use set_key whole

abbrev pub all_uses : Cmd → List Spot
all_uses = gather use_key no_set whole

module _ (u : ℕ → Bool) where
  -- the entries: at most the set commands
  pub entries_bound : (c : Cmd) → Every u (λ m. total settings_in m ≤ length (all_sets c)) 0 c start
  entries_bound c = let p : length (gather no_use set_key no_use c) + deep same_setting no_use set_key no_use c ≤ length (all_sets c) =
      spread same_setting no_use set_key c in
      let q : most same_setting no_use set_key no_use c ≤ length (gather no_use set_key no_use c) =
      once_length same_setting (gather no_use set_key no_use c) in
      tour_fits same_setting setting_sound setting_exact no_use set_key no_use settings_in settings_laws u c 0 (length (all_sets c))
      (once same_setting (gather no_use set_key no_use c)) start
      (λ a t. inside_from same_setting setting_sound setting_exact a (gather no_use set_key no_use c) [] t) (record {
        plain = tt;
        sub = λ a t. absurd t;
      }) (omega arith)

  -- the can't-set uses: at most the use commands
  pub cant_bound : (c : Cmd) → Every u (λ m. total cant_in m ≤ length (all_uses c)) 0 c start
  cant_bound c = let p : length (gather use_key no_set no_use c) + deep same use_key no_set no_use c ≤ length (all_uses c) =
      spread same use_key no_set c in
      let q : most same use_key no_set no_use c ≤ length (gather use_key no_set no_use c) =
      once_length same (gather use_key no_set no_use c) in
      tour_fits same same_sound same_exact use_key no_set no_use cant_in cant_laws u c 0 (length (all_uses c))
      (once same (gather use_key no_set no_use c)) start
      (λ a t. inside_from same same_sound same_exact a (gather use_key no_set no_use c) [] t) (record {
        plain = tt;
        sub = λ a t. absurd t;
      }) (omega arith)

  -- the unbound uses of a part walked in any house: raised by at most its different uses in the end, and by (6 - d) times its use commands on the way
  pub unbound_end : (c : Cmd) (d : ℕ) (m : House) → Plain same m.here.unbound
      → total unbound_in (tour u d c m) ≤ total unbound_in m + length (once same (all_uses c))
  unbound_end c d m p = end_total same same_sound same_exact use_key no_set whole unbound_in unbound_laws u c d m p

  pub unbound_way : (c : Cmd) (d : ℕ) (m : House) → Plain same m.here.unbound
      → Every u (λ x. total unbound_in x ≤ total unbound_in m + times (5 - d) (length (all_uses c))) d c m
  unbound_way c d m p = let q : way same use_key no_set whole d c ≤ times (5 - d) (length (all_uses c)) =
      way_times same use_key no_set c d in
      tour_way same same_sound same_exact use_key no_set whole unbound_in unbound_laws u c d (total unbound_in m
      + times (5 - d) (length (all_uses c))) m p (omega arith)

  pub unbound_bound : (c : Cmd) → Every u (λ m. total unbound_in m ≤ 6 * length (all_uses c)) 0 c start
  unbound_bound c = let q : way same use_key no_set whole 0 c ≤ times 5 (length (all_uses c)) = way_times same use_key no_set c 0 in
      tour_way same same_sound same_exact use_key no_set whole unbound_in unbound_laws u c 0 (6 * length (all_uses c)) start tt
      (omega arith)
