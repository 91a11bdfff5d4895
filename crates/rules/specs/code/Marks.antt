-- The names walk as an engine holds it: what the contracts of crate names cite. Nobody has to believe it:
-- tour-names of proofs/Marked shows that it gives the list of Names, capacity of proofs/Seven how much it holds. Assumes nothing.
use Rattle.std.specs.Prelude.{ℕ, suc, ◌+◌, Bool, true, false, cond, ◌&&◌, ◌||◌, not, List, [], ◌∷◌, ◌++◌, eqb, leb, length}
use Rattle.std.proofs.Math.Option.{Option, none, some}
use Rattle.tree.specs.Forest.{Spot, Forest, Forest.none as leaf, node}
use Rattle.rules.specs.Order.{Sort, Cmd, skip, ◌⨟◌, use_of, set_of, stop, branch, loop, scope}
use Rattle.rules.specs.Record.{keep}
use Rattle.rules.specs.Names.{Abort, no_abort, aborts, smaller, stop_abort, unloop, same, has_name, Setting, Warning, warn, warn_if, warn_all, join_sure, unused, is_assign, Found, nowhere, surely, perhaps}

abbrev pub put {ℓ} : {A : Type ℓ} → Bool → A → List A → List A
put true a l = l
put false a l = l ++ (a ∷ [])

module _ {A : Type 0} (eq : A → A → Bool) where
  abbrev pub inside : A → List A → Bool
  inside a [] = false
  inside a (b ∷ bs) = eq a b || inside a bs

  abbrev pub add : A → List A → List A
  add a l = put (inside a l) a l

  abbrev pub adds : List A → List A → List A
  adds [] l = l
  adds (a ∷ ys) l = adds ys (add a l)

abbrev pub same_sort : Sort → Sort → Bool
same_sort Sort.load Sort.load = true
same_sort Sort.load Sort.assign = false
same_sort Sort.load Sort.argument = false
same_sort Sort.assign Sort.load = false
same_sort Sort.assign Sort.assign = true
same_sort Sort.assign Sort.argument = false
same_sort Sort.argument Sort.load = false
same_sort Sort.argument Sort.assign = false
same_sort Sort.argument Sort.argument = true

abbrev pub same_setting : Setting → Setting → Bool
same_setting a b = same_sort a.sort b.sort && same a.spot b.spot

pub data Level : Type 0 where
  Absent Maybe Definitely : Level

-- a setting: whether it is used, whether it is among its name's spans, and its name's standing.
-- Of several with one pair (and other sorts) the first has the marks, of several with one name the first has the standing.
pub record Entry : Type 0 where
  pub sort : Sort
  pub spot : Spot
  pub used : Bool
  pub held : Bool
  pub level : Level

pub record Chamber : Type 0 where
  pub cant : List Spot
  pub unbound : List Spot
  pub entries : List Entry
  pub abort : Abort

pub record House : Type 0 where
  pub here : Chamber
  pub above : List Chamber
  pub out : List Warning

abbrev pub empty_room : Chamber
empty_room = record { cant = []; unbound = []; entries = []; abort = no_abort }

abbrev pub setting_of : Entry → Setting
setting_of e = record { sort = e.sort; spot = e.spot }

abbrev pub settings_of : List Entry → List Setting
settings_of [] = []
settings_of (e ∷ es) = setting_of e ∷ settings_of es

-- the first entry at a spot of some kind
abbrev pub find : {B : Type 0} → (Spot → Bool) → (Entry → B) → B → List Entry → B
find q f z [] = z
find q f z (e ∷ es) = cond (q e.spot) (f e) (find q f z es)

abbrev pub level_at : ℕ → List Entry → Level
level_at x es = find (λ t. eqb x t.value) (λ e. e.level) Absent es

abbrev pub used_at : Spot → List Entry → Bool
used_at t es = find (same t) (λ e. e.used) false es

abbrev pub held_at : Spot → List Entry → Bool
held_at t es = find (same t) (λ e. e.held) false es

-- setting: the name's standing is Definitely, its one span this one; the entry joins if no entry has its pair and sort
abbrev pub reset : Spot → Entry → Entry
reset s e = record {
  sort = e.sort;
  spot = e.spot;
  used = e.used;
  held = cond (eqb e.spot.value s.value) (same s e.spot) e.held;
  level = cond (eqb e.spot.value s.value) Definitely e.level;
}

abbrev pub resets : Spot → List Entry → List Entry
resets s [] = []
resets s (e ∷ es) = reset s e ∷ resets s es

abbrev pub has_entry : Setting → List Entry → Bool
has_entry k [] = false
has_entry k (e ∷ es) = same_setting k (setting_of e) || has_entry k es

abbrev pub set_entry : Sort → Spot → List Entry → List Entry
set_entry o s es = put (has_entry (record { sort = o; spot = s }) es) (record {
  sort = o;
  spot = s;
  used = false;
  held = true;
  level = Definitely;
}) (resets s es)

abbrev pub set_room : Sort → Spot → Chamber → Chamber
set_room o s r = record { cant = r.cant; unbound = r.unbound; entries = set_entry o s r.entries; abort = r.abort }

-- found: the spans of the name become used
abbrev pub marks : ℕ → List Entry → List Entry
marks x [] = []
marks x (e ∷ es) = record {
  sort = e.sort;
  spot = e.spot;
  used = e.used || (eqb x e.spot.value && e.held);
  held = e.held;
  level = e.level;
} ∷ marks x es

abbrev pub mark_room : ℕ → Chamber → Chamber
mark_room x r = record { cant = r.cant; unbound = r.unbound; entries = marks x r.entries; abort = r.abort }

abbrev pub cannot_room : Spot → Chamber → Chamber
cannot_room s r = record { cant = add same s r.cant; unbound = r.unbound; entries = r.entries; abort = r.abort }

abbrev pub unbinds_room : List Spot → Chamber → Chamber
unbinds_room ss r = record { cant = r.cant; unbound = adds same ss r.unbound; entries = r.entries; abort = r.abort }

abbrev pub stop_room : Abort → Chamber → Chamber
stop_room a r = record { cant = r.cant; unbound = r.unbound; entries = r.entries; abort = a }

pub record Looked : Type 0 where
  pub found : Found
  pub rooms : List Chamber

abbrev pub look_step : ℕ → Chamber → List Chamber → Looked → Level → Looked
look_step x r rs l Absent = record { found = l.found; rooms = r ∷ l.rooms }
look_step x r rs l Maybe = record { found = perhaps; rooms = mark_room x r ∷ rs }
look_step x r rs l Definitely = record { found = surely; rooms = mark_room x r ∷ rs }

abbrev pub look_out : ℕ → List Chamber → Looked
look_out x [] = record { found = nowhere; rooms = [] }
look_out x (r ∷ rs) = look_step x r rs (look_out x rs) (level_at x r.entries)

abbrev pub use_away : Spot → House → Looked → Found → House
use_away s m l nowhere = record { here = unbinds_room (s ∷ []) (cannot_room s m.here); above = l.rooms; out = m.out }
use_away s m l surely = record { here = cannot_room s m.here; above = l.rooms; out = m.out }
use_away s m l perhaps = record { here = cannot_room s m.here; above = l.rooms; out = warn 6 s m.out }

abbrev pub use_level : Spot → House → Level → House
use_level s m Absent = let l = look_out s.value m.above in use_away s m l l.found
use_level s m Maybe = record { here = mark_room s.value m.here; above = m.above; out = warn 6 s m.out }
use_level s m Definitely = record { here = mark_room s.value m.here; above = m.above; out = m.out }

-- a branch: the spans and standings of the innermost scope are put by, an entry's each, and those of later entries are none
pub record Note : Type 0 where
  pub held : Bool
  pub level : Level

abbrev pub notes : List Entry → List Note
notes [] = []
notes (e ∷ es) = record { held = e.held; level = e.level } ∷ notes es

abbrev pub first_note : List Note → Note
first_note [] = record { held = false; level = Absent }
first_note (n ∷ ns) = n

abbrev pub later_notes : List Note → List Note
later_notes [] = []
later_notes (n ∷ ns) = ns

abbrev pub restore : List Note → List Entry → List Entry
restore ns [] = []
restore ns (e ∷ es) = record { sort = e.sort; spot = e.spot; used = e.used; held = (first_note ns).held; level = (first_note ns).level }
    ∷ restore (later_notes ns) es

abbrev pub has_level : Level → Bool
has_level Absent = false
has_level Maybe = true
has_level Definitely = true

abbrev pub sure_level : Level → Bool
sure_level Absent = false
sure_level Maybe = false
sure_level Definitely = true

abbrev pub level_if : Bool → Bool → Level
level_if false b = Absent
level_if true true = Definitely
level_if true false = Maybe

abbrev pub join_level : Abort → Abort → Level → Level → Level
join_level a b x y = level_if (has_level x || has_level y) (join_sure (aborts a) (aborts b) (sure_level x) (sure_level y))

abbrev pub merge : Abort → Abort → List Note → List Entry → List Entry
merge a b ns [] = []
merge a b ns (e ∷ es) = record {
  sort = e.sort;
  spot = e.spot;
  used = e.used;
  held = (first_note ns).held || e.held;
  level = join_level a b (first_note ns).level e.level;
}
    ∷ merge a b (later_notes ns) es

abbrev pub back_room : Chamber → Chamber → Chamber
back_room r one = record {
  cant = one.cant;
  unbound = one.unbound;
  entries = restore (notes r.entries) one.entries;
  abort = r.abort;
}

abbrev pub join_room : Chamber → Chamber → Chamber
join_room one two = record {
  cant = two.cant;
  unbound = two.unbound;
  entries = merge one.abort two.abort (notes one.entries) two.entries;
  abort = smaller one.abort two.abort;
}

abbrev pub branch_house : (House → House) → (House → House) → House → House
branch_house f g m =
    let one = f m in
    let two = g (record { here = back_room m.here one.here; above = one.above; out = one.out }) in
    record { here = join_room one.here two.here; above = two.above; out = two.out }

abbrev pub same_house : House → House
same_house m = m

abbrev pub round_house : (House → House) → House → House
round_house f m = let r = branch_house f same_house m in
    record { here = stop_room (unloop r.here.abort) r.here; above = r.above; out = r.out }

abbrev pub rounds_house : Bool → (House → House) → House → House
rounds_house true f m = round_house f (round_house f m)
rounds_house false f m = round_house f m

-- leaving
abbrev pub spared_level : (ℕ → Bool) → Bool → Chamber → Entry → Bool
spared_level u true r e = is_assign e.sort && (not (u e.spot.value) && held_at e.spot r.entries)
spared_level u false r e = u e.spot.value

abbrev pub spared_room : (ℕ → Bool) → Bool → Chamber → Entry → Bool
spared_room u top r e = used_at e.spot r.entries || (has_name e.spot.value r.unbound || spared_level u top r e)

abbrev pub idle_room : (ℕ → Bool) → Bool → Chamber → List Entry → List Warning → List Warning
idle_room u top r [] ws = ws
idle_room u top r (e ∷ es) ws = idle_room u top r es (warn_if (not (spared_room u top r e)) (unused e.sort) e.spot ws)

abbrev pub sets_name : ℕ → List Entry → Bool
sets_name x [] = false
sets_name x (e ∷ es) = eqb x e.spot.value || sets_name x es

abbrev pub farewell_room : (ℕ → Bool) → Bool → Chamber → List Warning → List Warning
farewell_room u top r ws = idle_room u top r r.entries (warn_all 4 (λ s. sets_name s.value r.entries) r.cant ws)

abbrev pub passed_room : Chamber → List Spot
passed_room r = keep (λ s. not (sets_name s.value r.entries)) r.unbound

abbrev pub enter_house : House → House
enter_house m = record { here = empty_room; above = m.here ∷ m.above; out = m.out }

abbrev pub leave_house : (ℕ → Bool) → House → List Chamber → House
leave_house u m [] = m
leave_house u m (r ∷ rs) = record {
  here = unbinds_room (passed_room m.here) r;
  above = rs;
  out = farewell_room u false m.here m.out;
}

abbrev pub undefined_room : Option (ℕ → Bool) → Chamber → List Warning → List Warning
undefined_room none r ws = ws
undefined_room (some given) r ws = warn_all 5 (λ s. not (given s.value)) (passed_room r) ws

module _ (underscore : ℕ → Bool) where
  abbrev pub tour : ℕ → Cmd → House → House
  tour depth skip m = m
  tour depth (a ⨟ b) m = tour depth b (tour depth a m)
  tour depth (use_of h) m = use_level h.spot m (level_at h.spot.value m.here.entries)
  tour depth (set_of o h) m = record { here = set_room o h.spot m.here; above = m.above; out = m.out }
  tour depth (stop why) m = record { here = stop_room (stop_abort why) m.here; above = m.above; out = m.out }
  tour depth (branch a b) m = branch_house (tour depth a) (tour depth b) m
  tour depth (loop c) m = rounds_house (leb (suc depth) 5) (tour (suc depth) c) m
  tour depth (scope c) m = let r = tour depth c (enter_house m) in leave_house underscore r r.above

  abbrev pub names_tour : Option (ℕ → Bool) → Cmd → List Warning
  names_tour globals c =
      let m = tour 0 c (record { here = empty_room; above = []; out = [] }) in
      undefined_room globals m.here (farewell_room underscore true m.here m.out)

-- nodes, and nodes of a role with what is below them
abbrev pub nodes : Forest → ℕ
nodes leaf = 0
nodes (node h k s) = suc (nodes k) + nodes s

-- the second side's start
abbrev pub mid : House → House → House
mid m one = record { here = back_room m.here one.here; above = one.above; out = one.out }

abbrev pub settings_in : Chamber → List Setting
settings_in r = settings_of r.entries

abbrev pub cant_in : Chamber → List Spot
cant_in r = r.cant

abbrev pub unbound_in : Chamber → List Spot
unbound_in r = r.unbound

-- a list of each open scope, together
module _ {K : Type 0} (list : Chamber → List K) where
  abbrev pub sum : List Chamber → ℕ
  sum [] = 0
  sum (r ∷ rs) = length (list r) + sum rs

  abbrev pub total : House → ℕ
  total m = length (list m.here) + sum m.above

abbrev pub start : House
start = record { here = empty_room; above = []; out = [] }

-- P at every moment of the walk of a command
module _ (u : ℕ → Bool) (P : House → Type 0) where
  abbrev pub EveryRound : (House → Type 0) → (House → House) → House → Type 0
  EveryRound E f m = E m × P (mid m (f m)) × P (round_house f m)

  abbrev pub EveryRounds : Bool → (House → Type 0) → (House → House) → House → Type 0
  EveryRounds true E f m = EveryRound E f m × EveryRound E f (round_house f m)
  EveryRounds false E f m = EveryRound E f m

  abbrev pub Every : ℕ → Cmd → House → Type 0
  Every d skip m = P m
  Every d (a ⨟ b) m = Every d a m × Every d b (tour u d a m)
  Every d (use_of s) m = P m × P (tour u d (use_of s) m)
  Every d (set_of o s) m = P m × P (tour u d (set_of o s) m)
  Every d (stop w) m = P m × P (tour u d (stop w) m)
  Every d (branch a b) m = Every d a m × Every d b (mid m (tour u d a m)) × P (tour u d (branch a b) m)
  Every d (loop c) m = EveryRounds (leb (suc d) 5) (Every (suc d) c) (tour u (suc d) c) m
  Every d (scope c) m = P m × Every d c (enter_house m) × P (tour u d (scope c) m)
