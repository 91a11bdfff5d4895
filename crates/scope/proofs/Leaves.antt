-- Leaving: late and idle warn, and what unbound uses pass on, as rules' Marks says. Assumes nothing.
use Prim.Native.Nat.{ℕ, zero, suc, ◌+◌, ◌-◌, ◌≤◌, ◌<◌}
use native.Mathlib.Omega.{arith}
use mathlib.Core.Path.{◌≡◌, refl, sym, ap, ◌∙◌}
use mathlib.Core.Bool.{Bool, true, false, not, ◌||◌, ◌&&◌}
use mathlib.Core.List.{List, [], ◌∷◌}
use lib.Dec.{eqb}
use lib.ListN.{length, get_or, length-append}
use borrow.Author.Tests.{lt-ltb}
use Rattle.tree.specs.Bytes.{kind_at, value_at}
use Rattle.tree.specs.Forest.{Spot, node_spot}
use Rattle.tree.specs.Table.{table_of, underscored}
use Rattle.rules.specs.Order.{Sort}
use Rattle.rules.specs.Names.{same, has_name as named, Warning, warned, warn, warn_new, warn_if, warn_all, unused, is_assign}
use Rattle.rules.specs.code.Marks as marks
use Rattle.rules.specs.code.Marks.{sets_name, spared_room, spared_level, idle_room, farewell_room, used_at, held_at}
use Rattle.scope.specs.Lists.{places}
use Rattle.scope.specs.State.{sort_of, held_of, node_in, used_in, spot_in, entry_in, room_of, out_of, no_entry, Fits}
use Rattle.scope.specs.Words.{Lines, alike_at, find_in, is_in, warn_words, warn_count, warn_lines, late_lines, uses_lines, late_of, spared_at, spared_in, idle_lines, idles_in, idle_of, farewell_of}
use Rattle.scope.specs.declared.table.Like.TheVariants.{Name, Spot as TheSpot}
use Rattle.scope.specs.declared.Entry.{Entry}
use Rattle.scope.specs.declared.Scope.{Scope}
use Rattle.scope.proofs.Lists.{places_cons, places_none}
use Rattle.scope.proofs.Find.{find_self}
use Rattle.scope.proofs.Seeks.{any_places, sets_any, named_any, find_places}
use Rattle.scope.proofs.Cells.{same_spots, same_entry, same_entries, warned_list}
use Rattle.scope.proofs.Notes.{warn_else, warn_length, warn_count_is, warn_room, out_length}
use Rattle.scope.proofs.Steps.{idle_here}
use Rattle.rules.specs.Outcome.{work_words}

-- words that only warnings changed: all but those from 3072 up to 5120
pub record Only (w v : List ℕ) : Type 0 where
  pub below : (k : ℕ) → k < 3072 → get_or v k 0 ≡ get_or w k 0
  pub above : (k : ℕ) → 5120 ≤ k → get_or v k 0 ≡ get_or w k 0
  pub long : length v ≡ length w

pub only_then : (w v u : List ℕ) → Only w v → Only v u → Only w u
only_then w v u a b = record { below = λ k h. b.below k h ∙ a.below k h; above = λ k h. b.above k h ∙ a.above k h; long = b.long ∙ a.long }

pub only_none : (w : List ℕ) → Only w w
only_none w = record { below = λ k h. refl; above = λ k h. refl; long = refl }

pub warn_only : (t w : List ℕ) (n code i : ℕ) → Only w (warn_words t w n code i)
warn_only t w n code i =
    record {
      below = λ k h. warn_else t w n code i k (λ z y. omega arith) (λ z y. omega arith);
      above = λ k h. warn_else t w n code i k (λ z y. omega arith) (λ z y. omega arith);
      long = warn_length t w n code i;
    }

-- lines that warn: the words are those of w but for the warnings, and the list is ws
pub record Warns (t w : List ℕ) (l : Lines) (ws : List Warning) : Type 0 where
  pub only : Only w l.words
  pub small : l.count ≤ 1024
  pub list : length ws ≤ 1024 → out_of t l.words l.count ≡ ws

-- warnings only gather
pub warn_grows : (code : ℕ) (s : Spot) (ws : List Warning) → length ws ≤ length (warn code s ws)
warn_grows code s ws = go (warned s ws)
  where
    go : (x : Bool) → length ws ≤ length (warn_new code s ws x)
    go true = omega arith
    go false = omega (arith, length-append ws (record { code = code; spot = s } ∷ []))

pub if_grows : (b : Bool) (code : ℕ) (s : Spot) (ws : List Warning) → length ws ≤ length (warn_if b code s ws)
if_grows true code s ws = warn_grows code s ws
if_grows false code s ws = omega arith

pub all_grows : (code : ℕ) (p : Spot → Bool) (ss : List Spot) (ws : List Warning) → length ws ≤ length (warn_all code p ss ws)
all_grows code p [] ws = omega arith
all_grows code p (s ∷ ss) ws = let a = if_grows (p s) code s ws in let b = all_grows code p ss (warn_if (p s) code s ws) in omega arith

-- one warning more, if so
module _ (t w v : List ℕ) (n : ℕ) (o : Only w v) (l : work_words ≤ length w) (h : n ≤ 1024) (ws : List Warning) (e : length ws ≤ 1024 → out_of t v n ≡ ws) where
  pub warns_so : (code i : ℕ) → Warns t w (record { words = warn_words t v n code i; count = warn_count t v n i }) (warn code (node_spot t i) ws)
  warns_so code i =
      record {
        only = only_then w v (warn_words t v n code i) o (warn_only t v n code i);
        small = warn_count_is t v n code i h;
        list = λ k.
            let g = warn_grows code (node_spot t i) ws in
            let q = e (omega arith) in
            warned_list t v n code i (omega (arith, o.long)) (λ z. omega (arith, warn_room code (node_spot t i) (out_of t v n) z (rw q k), out_length t v n)) ∙ ap (warn code (node_spot t i)) q;
      }

  pub warns_not : Warns t w (record { words = v; count = n }) ws
  warns_not = record { only = o; small = h; list = e }

-- what a scope reads of its words, where only warnings changed
module _ (t w v : List ℕ) (s : Scope) (f : Fits w s) (o : Only w v) where
  pub only_entries : places (entry_in t v s.entries) s.first s.settings ≡ places (entry_in t w s.entries) s.first s.settings
  only_entries = same_entries t w v s.entries s.entries s.first s.settings (λ k p q. o.below k (omega (arith, f.settings))) (λ k p q. o.below k (omega (arith, f.settings))) (λ k p q. refl)

  only_looses : places (spot_in t v) s.loose s.looses ≡ places (spot_in t w) s.loose s.looses
  only_looses = same_spots t w v s.loose s.looses (λ k p q. o.above k (omega (arith, f.loose_from)))

  only_room : room_of t v s ≡ room_of t w s
  unfolding room_of
  only_room = rw (only_entries, only_looses, same_spots t w v s.cant s.cants (λ k p q. o.above k (omega (arith, f.cant_from))))

pub sets_in : (t w : List ℕ) (es : List Entry) (a b i : ℕ) → a ≤ b → sets_name (value_at t i) (places (entry_in t w es) a b) ≡ is_in t w Name a b i
unfolding find_in alike_at entry_in node_spot
sets_in t w es a b i h = sets_any (value_at t i) (places (entry_in t w es) a b) ∙ any_places (λ e. eqb (value_at t i) e.spot.value) (entry_in t w es) a b h

-- can't-set uses whose name is set here
module _ (t w : List ℕ) (s : Scope) (f : Fits w s) where
  abbrev es : List marks.Entry
  es = places (entry_in t w s.entries) s.first s.settings

  late_step : (v : List ℕ) (n i : ℕ) → Only w v → n ≤ 1024 → (ws : List Warning) → (length ws ≤ 1024 → out_of t v n ≡ ws)
      → Warns t w (late_lines t s.first s.settings v n i) (warn_if (sets_name (value_at t i) es) 4 (node_spot t i) ws)
  unfolding late_lines warn_lines
  late_step v n i o h ws e =
      go (is_in t v Name s.first s.settings i) refl
    where
      same_sets : sets_name (value_at t i) es ≡ is_in t v Name s.first s.settings i
      same_sets = ap (sets_name (value_at t i)) (sym (only_entries t w v s f o)) ∙ sets_in t v s.entries s.first s.settings i f.first

      go : (x : Bool) → is_in t v Name s.first s.settings i ≡ x → Warns t w (late_lines t s.first s.settings v n i) (warn_if (sets_name (value_at t i) es) 4 (node_spot t i) ws)
      go true q = rw (same_sets, q) (warns_so t w v n o f.words h ws e 4 i)
      go false q = rw (same_sets, q) (warns_not t w v n o f.words h ws e)

  lates : (m k : ℕ) (v : List ℕ) (n : ℕ) → s.cant ≤ k → k + m ≡ s.cants → Only w v → n ≤ 1024 → (ws : List Warning) → (length ws ≤ 1024 → out_of t v n ≡ ws)
      → Warns t w (uses_lines true t s.first s.settings v n k m) (warn_all 4 (λ x. sets_name x.value es) (places (spot_in t w) k s.cants) ws)
  unfolding uses_lines spot_in node_spot
  lates zero k v n a b o h ws e =
      rw (places_none (spot_in t w) k s.cants (omega arith)) (warns_not t w v n o f.words h ws e)
  lates (suc m) k v n a b o h ws e =
      let i = node_in v k in
      let z : node_in v k ≡ node_in w k = o.above k (omega (arith, f.cant_from)) in
      let d = late_step v n i o h ws e in
      let l = late_lines t s.first s.settings v n i in
      rw (places_cons (spot_in t w) k s.cants (omega arith))
      (rw (← z) (lates m (k + 1) l.words l.count (omega arith) (omega arith) d.only d.small (warn_if (sets_name (value_at t i) es) 4 (node_spot t i) ws) d.list))

  late_warns : (ws : List Warning) → out_of t w s.warnings ≡ ws
      → Warns t w (late_of t w s) (warn_all 4 (λ x. sets_name x.value es) (places (spot_in t w) s.cant s.cants) ws)
  unfolding late_of
  late_warns ws e = lates (s.cants - s.cant) s.cant w s.warnings (omega arith) (omega (arith, f.cant)) (only_none w) f.warnings ws (λ h. e)

-- settings that are not used
assign_code : (o : Sort) → eqb (unused o) 2 ≡ is_assign o
assign_code Sort.load = refl
assign_code Sort.assign = refl
assign_code Sort.argument = refl

named_in : (t w : List ℕ) (a b i : ℕ) → a ≤ b → named (value_at t i) (places (spot_in t w) a b) ≡ is_in t w Name a b i
unfolding find_in alike_at spot_in node_spot
named_in t w a b i h = named_any (value_at t i) (places (spot_in t w) a b) ∙ any_places (λ x. eqb (value_at t i) x.value) (spot_in t w) a b h

-- the first entry with the pair of the setting at place j has its marks
module _ (t w : List ℕ) (xs : List Entry) (a b j : ℕ) (h : a ≤ j) (l : j < b) where
  abbrev spot_place : ℕ
  spot_place = find_in t w TheSpot a b (node_in w j)

  used_first : used_at (node_spot t (node_in w j)) (places (entry_in t w xs) a b) ≡ eqb (used_in w spot_place) 1
  unfolding find_in alike_at entry_in
  used_first =
      find_places (same (node_spot t (node_in w j))) (λ e. e.used) false (entry_in t w xs) a b (omega arith)
      ∙ rw (lt-ltb (find_in t w TheSpot a b (node_in w j)) b (omega (arith, find_self t w j a b h l)))

  held_first : held_at (node_spot t (node_in w j)) (places (entry_in t w xs) a b) ≡ held_of (get_or xs spot_place no_entry).standing
  unfolding find_in alike_at entry_in
  held_first =
      find_places (same (node_spot t (node_in w j))) (λ e. e.held) false (entry_in t w xs) a b (omega arith)
      ∙ rw (lt-ltb (find_in t w TheSpot a b (node_in w j)) b (omega (arith, find_self t w j a b h l)))

module _ (t v : List ℕ) (s : Scope) (top : Bool) (j : ℕ) (h : s.first ≤ j) (l : j < s.settings) (z : s.loose ≤ s.looses) where
  abbrev p : ℕ
  p = find_in t v TheSpot s.first s.settings (node_in v j)

  named_here : named (node_spot t (node_in v j)).value (places (spot_in t v) s.loose s.looses) ≡ is_in t v Name s.loose s.looses (node_in v j)
  unfolding node_spot
  named_here = named_in t v s.loose s.looses (node_in v j) z

  level_here : (top : Bool) → spared_level (underscored (table_of t)) top (room_of t v s) (entry_in t v s.entries j) ≡ spared_at t top (held_of (get_or s.entries p no_entry).standing) (node_in v j)
  unfolding room_of entry_in spared_at node_spot
  level_here true =
      rw (assign_code (sort_of (kind_at t (node_in v j)))) (ap (λ (x : Bool). is_assign (sort_of (kind_at t (node_in v j))) && (not (underscored (table_of t) (value_at t (node_in v j))) && x))
      (held_first t v s.entries s.first s.settings j h l))
  level_here false = refl

  used_here : used_at (node_spot t (node_in v j)) (room_of t v s).entries ≡ eqb (used_in v p) 1
  unfolding room_of
  used_here = used_first t v s.entries s.first s.settings j h l

  named_room : named (node_spot t (node_in v j)).value (room_of t v s).unbound ≡ is_in t v Name s.loose s.looses (node_in v j)
  unfolding room_of
  named_room = named_here

  entry_spot : (entry_in t v s.entries j).spot ≡ node_spot t (node_in v j)
  unfolding entry_in
  entry_spot = refl

  or3 : {a b c x y z : Bool} → a ≡ x → b ≡ y → c ≡ z → (a || (b || c)) ≡ (x || (y || z))
  or3 e f g = rw (e, f, g)

  spared_same : spared_room (underscored (table_of t)) top (room_of t v s) (entry_in t v s.entries j)
      ≡ spared_in t v top (held_of (get_or s.entries p no_entry).standing) s.loose s.looses p (node_in v j)
  unfolding spared_in
  spared_same =
      or3 (ap (λ (x : Spot). used_at x (room_of t v s).entries) entry_spot ∙ used_here) (ap (λ (x : Spot). named x.value (room_of t v s).unbound) entry_spot ∙ named_room) (level_here top)

module _ (t w : List ℕ) (s : Scope) (f : Fits w s) (top : Bool) where
  abbrev u : ℕ → Bool
  u = underscored (table_of t)

  entry_same : (v : List ℕ) (j : ℕ) → Only w v → j < s.settings → entry_in t v s.entries j ≡ entry_in t w s.entries j
  entry_same v j o l = same_entry t w v s.entries s.entries j (o.below j (omega (arith, f.settings))) (o.below (1024 + j) (omega (arith, f.settings))) refl

  idle_by : (v : List ℕ) (n j : ℕ) → Only w v → n ≤ 1024 → (ws : List Warning) → (length ws ≤ 1024 → out_of t v n ≡ ws) → (x : Bool)
      → Warns t w (idle_lines t x v n (node_in v j)) (warn_if (not x) (unused (entry_in t v s.entries j).sort) (entry_in t v s.entries j).spot ws)
  unfolding idle_lines warn_lines entry_in
  idle_by v n j o h ws e true = warns_not t w v n o f.words h ws e
  idle_by v n j o h ws e false = warns_so t w v n o f.words h ws e (unused (sort_of (kind_at t (node_in v j)))) (node_in v j)

  idle_step : (v : List ℕ) (n j : ℕ) → Only w v → s.first ≤ j → j < s.settings → n ≤ 1024 → (ws : List Warning) → (length ws ≤ 1024 → out_of t v n ≡ ws)
      → Warns t w (idle_here t top s v n (node_in v j))
      (warn_if (not (spared_room u top (room_of t w s) (entry_in t w s.entries j))) (unused (entry_in t w s.entries j).sort) (entry_in t w s.entries j).spot ws)
  idle_step v n j o a b h ws e =
      let q = find_in t v TheSpot s.first s.settings (node_in v j) in
      rw (← entry_same v j o b, ← only_room t w v s f o, spared_same t v s top j a b f.loose)
      (idle_by v n j o h ws e (spared_in t v top (held_of (get_or s.entries q no_entry).standing) s.loose s.looses q (node_in v j)))

  idles : (m j : ℕ) (v : List ℕ) (n : ℕ) → s.first ≤ j → j + m ≡ s.settings → Only w v → n ≤ 1024 → (ws : List Warning) → (length ws ≤ 1024 → out_of t v n ≡ ws)
      → Warns t w (idles_in t top s v n j m) (idle_room u top (room_of t w s) (places (entry_in t w s.entries) j s.settings) ws)
  unfolding idles_in
  idles zero j v n a b o h ws e =
      rw (places_none (entry_in t w s.entries) j s.settings (omega arith)) (warns_not t w v n o f.words h ws e)
  idles (suc m) j v n a b o h ws e =
      let d = idle_step v n j o a (omega arith) h ws e in
      let l = idle_here t top s v n (node_in v j) in
      rw (places_cons (entry_in t w s.entries) j s.settings (omega arith))
      (idles m (j + 1) l.words l.count (omega arith) (omega arith) d.only d.small
      (warn_if (not (spared_room u top (room_of t w s) (entry_in t w s.entries j))) (unused (entry_in t w s.entries j).sort) (entry_in t w s.entries j).spot ws) d.list)

  -- the warnings of a scope that is left
  pub farewell_warns : Warns t w (farewell_of t top w s) (farewell_room u top (room_of t w s) (out_of t w s.warnings))
  unfolding farewell_of idle_of room_of
  farewell_warns =
      let d = late_warns t w s f (out_of t w s.warnings) refl in
      idles (s.settings - s.first) s.first (late_of t w s).words (late_of t w s).count (omega arith) (omega (arith, f.first)) d.only d.small
      (warn_all 4 (λ x. sets_name x.value (es t w s f)) (places (spot_in t w) s.cant s.cants) (out_of t w s.warnings)) d.list
