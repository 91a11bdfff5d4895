-- What a scope state and the words of the work room stand for: the house of rules' Marks. Assumes nothing.
use Rattle.std.specs.Prelude.{ℕ, ◌+◌, ◌≤◌, ◌<◌, ◌≡◌, Bool, true, false, List, [], ◌∷◌, eqb, length, get_or}
use Rattle.tree.specs.Bytes.{pick, kind_at}
use Rattle.tree.specs.Forest.{Spot, node_spot}
use Rattle.rules.specs.Order.{Sort}
use Rattle.rules.specs.Names as rules
use Rattle.rules.specs.Names.{Warning}
use Rattle.rules.specs.code.Marks as marks
use Rattle.rules.specs.code.Marks.{Chamber, House}
use Rattle.scope.specs.Lists.{places}
use Rattle.scope.specs.declared.Abort.{Abort}
use Rattle.scope.specs.declared.Abort.TheVariants.{Runs, Loop, Function}
use Rattle.scope.specs.declared.Standing.{Standing}
use Rattle.scope.specs.declared.Standing.TheVariants.{Absent, Maybe, Definitely, HeldAbsent, HeldMaybe, HeldDefinitely}
use Rattle.scope.specs.declared.Entry.{Entry}
use Rattle.scope.specs.declared.Scope.{Scope}
use Rattle.rules.specs.Outcome.{work_words}

abbrev pub abort_of : Abort → rules.Abort
abort_of Runs = rules.no_abort
abort_of Loop = rules.loop_abort
abort_of Function = rules.function_abort

abbrev pub level_of : Standing → marks.Level
level_of Absent = marks.Absent
level_of Maybe = marks.Maybe
level_of Definitely = marks.Definitely
level_of HeldAbsent = marks.Absent
level_of HeldMaybe = marks.Maybe
level_of HeldDefinitely = marks.Definitely

abbrev pub held_of : Standing → Bool
held_of Absent = false
held_of Maybe = false
held_of Definitely = false
held_of HeldAbsent = true
held_of HeldMaybe = true
held_of HeldDefinitely = true

-- the sort of a setting by its node's kind: a parameter, a loaded name, else a target's name
unfoldable pub sort_of : ℕ → Sort
sort_of k = pick (eqb k 47) Sort.load (pick (eqb k 43) Sort.argument Sort.assign)

-- an entry that is not among its name's spans, the name absent
abbrev pub no_entry : Entry
no_entry = record { standing = Absent }

-- the node, the used mark and the scope's first place of the setting at a place; warnings: the node and the code
abbrev pub node_in : List ℕ → ℕ → ℕ
node_in w k = get_or w k 0

abbrev pub used_in : List ℕ → ℕ → ℕ
used_in w k = get_or w (1024 + k) 0

abbrev pub base_in : List ℕ → ℕ → ℕ
base_in w k = get_or w (2048 + k) 0

unfoldable pub spot_in : List ℕ → List ℕ → ℕ → Spot
spot_in t w k = node_spot t (get_or w k 0)

unfoldable pub entry_in : List ℕ → List ℕ → List Entry → ℕ → marks.Entry
entry_in t w es k =
    record {
      sort = sort_of (kind_at t (get_or w k 0));
      spot = node_spot t (get_or w k 0);
      used = eqb (used_in w k) 1;
      held = held_of (get_or es k no_entry).standing;
      level = level_of (get_or es k no_entry).standing;
    }

unfoldable pub warning_in : List ℕ → List ℕ → ℕ → Warning
warning_in t w k = record { code = get_or w (4096 + k) 0; spot = node_spot t (get_or w (3072 + k) 0) }

unfoldable pub room_of : List ℕ → List ℕ → Scope → Chamber
room_of t w s =
    record {
      cant = places (spot_in t w) s.cant s.cants;
      unbound = places (spot_in t w) s.loose s.looses;
      entries = places (entry_in t w s.entries) s.first s.settings;
      abort = abort_of s.abort;
    }

unfoldable pub rooms_of : List ℕ → List ℕ → List Scope → List Chamber
rooms_of t w [] = []
rooms_of t w (s ∷ ss) = room_of t w s ∷ rooms_of t w ss

unfoldable pub out_of : List ℕ → List ℕ → ℕ → List Warning
out_of t w n = places (warning_in t w) 0 n

-- outer: the states of the scopes outside, as they were when left for the one inside
unfoldable pub house_of : List ℕ → List ℕ → Scope → List Scope → House
house_of t w s outer = record { here = room_of t w s; above = rooms_of t w outer; out = out_of t w s.warnings }

-- the counters are in bounds, no place past the last setting has a standing, and each setting knows its scope's first place
pub record Fits (w : List ℕ) (s : Scope) : Type 0 where
  pub words : work_words ≤ length w
  pub wide : length s.entries ≡ 1024
  pub first : s.first ≤ s.settings
  pub settings : s.settings ≤ 1024
  pub cant_from : 5120 ≤ s.cant
  pub cant : s.cant ≤ s.cants
  pub cants : s.cants ≤ 6144
  pub loose_from : 6144 ≤ s.loose
  pub loose : s.loose ≤ s.looses
  pub looses : s.looses ≤ 13312
  pub warnings : s.warnings ≤ 1024
  pub clean : (k : ℕ) → s.settings ≤ k → get_or s.entries k no_entry ≡ no_entry
  pub own : (k : ℕ) → s.first ≤ k → k < s.settings → base_in w k ≡ s.first

-- s stands inside the scopes outer
unfoldable pub Inside : List ℕ → Scope → List Scope → Type 0
Inside w s [] = (s.first ≡ 0) × (s.cant ≡ 5120) × (s.loose ≡ 6144)
Inside w s (o ∷ outer) =
    (s.first ≡ o.settings)
    × (s.cant ≡ o.cants)
    × (s.loose ≡ o.looses)
    × ((k : ℕ) → k < o.settings → get_or s.entries k no_entry ≡ get_or o.entries k no_entry)
    × Fits w o
    × Inside w o outer

-- r goes on where s was, in the same scope: what lies outside it stays
pub record Kept (w : List ℕ) (s : Scope) (v : List ℕ) (r : Scope) : Type 0 where
  pub first : r.first ≡ s.first
  pub cant : r.cant ≡ s.cant
  pub loose : r.loose ≡ s.loose
  pub settings : s.settings ≤ r.settings
  pub cants : s.cants ≤ r.cants
  pub looses : s.looses ≤ r.looses
  pub entries : (k : ℕ) → k < s.first → get_or r.entries k no_entry ≡ get_or s.entries k no_entry
  pub bases : (k : ℕ) → k < s.first → base_in v k ≡ base_in w k
