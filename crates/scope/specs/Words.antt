-- The steps of the methods on the words and the entries, as the code takes them: proofs/ has what they do to the house. Assumes nothing.
use Rattle.std.specs.Prelude.{ℕ, zero, suc, ◌+◌, ◌-◌, Bool, true, false, ◌&&◌, ◌||◌, not, List, Option, Some, None, eqb, ltb, get_or, set, replicate}
use Rattle.tree.specs.Bytes.{pick, kind_at, value_at, global_count}
use Rattle.tree.specs.Forest.{node_spot}
use Rattle.tree.specs.Table.{table_of, underscored, is_global}
use Rattle.rules.specs.Names.{same, unused, Setting}
use Rattle.rules.specs.Names as rules
use Rattle.rules.specs.code.Marks.{same_setting}
use Rattle.scope.specs.Lists.{seek}
use Rattle.scope.specs.State.{sort_of, held_of, no_entry, node_in, used_in, base_in}
use Rattle.scope.specs.declared.table.Like.{Like}
use Rattle.scope.specs.declared.table.Like.TheVariants.{Name, Spot, Setting as TheSetting}
use Rattle.scope.specs.declared.Abort.{Abort}
use Rattle.scope.specs.declared.Abort.TheVariants.{Runs, Loop, Function}
use Rattle.scope.specs.declared.Standing.{Standing}
use Rattle.scope.specs.declared.Standing.TheVariants.{Absent, Maybe, Definitely, HeldAbsent, HeldMaybe, HeldDefinitely}
use Rattle.scope.specs.declared.Entry.{Entry}
use Rattle.scope.specs.declared.Scope.{Scope}

-- node a is like node b
abbrev pub setting_at : List ℕ → ℕ → Setting
setting_at t i = record { sort = sort_of (kind_at t i); spot = node_spot t i }

unfoldable pub alike_at : List ℕ → Like → ℕ → ℕ → Bool
alike_at t Name a b = eqb (value_at t a) (value_at t b)
alike_at t Spot a b = same (node_spot t a) (node_spot t b)
alike_at t TheSetting a b = same_setting (setting_at t a) (setting_at t b)

-- the first place from a up to b of a node like node i, or b; whether there is one
unfoldable pub find_in : List ℕ → List ℕ → Like → ℕ → ℕ → ℕ → ℕ
find_in t w how a b i = seek (λ k. alike_at t how i (node_in w k)) a b

abbrev pub is_in : List ℕ → List ℕ → Like → ℕ → ℕ → ℕ → Bool
is_in t w how a b i = ltb (find_in t w how a b i) b

abbrev pub found_in : List ℕ → List ℕ → Like → ℕ → ℕ → ℕ → Option ℕ
found_in t w how a b i = pick (is_in t w how a b i) (Some (find_in t w how a b i)) None

-- node i joins the list from a up to b, unless its pair is there or the list is at its end
unfoldable pub join_words : List ℕ → List ℕ → ℕ → ℕ → ℕ → ℕ → List ℕ
join_words t w a b end i = pick (is_in t w Spot a b i) w (pick (ltb b end) (set w b i) w)

unfoldable pub join_end : List ℕ → List ℕ → ℕ → ℕ → ℕ → ℕ → ℕ
join_end t w a b end i = pick (is_in t w Spot a b i) b (pick (ltb b end) (b + 1) b)

-- a warning joins the n there are
unfoldable pub warn_words : List ℕ → List ℕ → ℕ → ℕ → ℕ → List ℕ
warn_words t w n code i = pick (is_in t w Spot 3072 (3072 + n) i) w (pick (ltb n 1024) (set (set w (3072 + n) i) (4096 + n) code) w)

unfoldable pub warn_count : List ℕ → List ℕ → ℕ → ℕ → ℕ
warn_count t w n i = pick (is_in t w Spot 3072 (3072 + n) i) n (pick (ltb n 1024) (n + 1) n)

-- words, and how many warnings they hold
pub record Lines : Type 0 where
  pub words : List ℕ
  pub count : ℕ

unfoldable pub warn_lines : List ℕ → List ℕ → ℕ → ℕ → ℕ → Lines
warn_lines t w n code i = record { words = warn_words t w n code i; count = warn_count t w n i }

abbrev pub standing_if : Bool → Bool → Bool → Standing
standing_if false false s = Absent
standing_if false true false = Maybe
standing_if false true true = Definitely
standing_if true false s = HeldAbsent
standing_if true true false = HeldMaybe
standing_if true true true = HeldDefinitely

-- setting
abbrev pub sure_entry : Bool → Entry
sure_entry b = record { standing = standing_if b true true }

unfoldable pub reset_of : List ℕ → Entry → ℕ → ℕ → Entry
reset_of t e k i = pick (alike_at t Name k i) (sure_entry (alike_at t Spot i k)) e

unfoldable pub resets_in : List ℕ → List ℕ → ℕ → List Entry → ℕ → ℕ → List Entry
resets_in t w i es j zero = es
resets_in t w i es j (suc n) = resets_in t w i (set es j (reset_of t (get_or es j no_entry) (node_in w j) i)) (j + 1) n

abbrev pub with_entries : List Entry → Scope → Scope
with_entries es s =
    record {
      entries = es;
      abort = s.abort;
      first = s.first;
      settings = s.settings;
      cant = s.cant;
      cants = s.cants;
      loose = s.loose;
      looses = s.looses;
      warnings = s.warnings;
    }

abbrev pub with_settings : ℕ → Scope → Scope
with_settings n s =
    record {
      entries = s.entries;
      abort = s.abort;
      first = s.first;
      settings = n;
      cant = s.cant;
      cants = s.cants;
      loose = s.loose;
      looses = s.looses;
      warnings = s.warnings;
    }

abbrev pub with_cants : ℕ → Scope → Scope
with_cants n s =
    record {
      entries = s.entries;
      abort = s.abort;
      first = s.first;
      settings = s.settings;
      cant = s.cant;
      cants = n;
      loose = s.loose;
      looses = s.looses;
      warnings = s.warnings;
    }

abbrev pub with_looses : ℕ → Scope → Scope
with_looses n s =
    record {
      entries = s.entries;
      abort = s.abort;
      first = s.first;
      settings = s.settings;
      cant = s.cant;
      cants = s.cants;
      loose = s.loose;
      looses = n;
      warnings = s.warnings;
    }

abbrev pub with_warnings : ℕ → Scope → Scope
with_warnings n s =
    record {
      entries = s.entries;
      abort = s.abort;
      first = s.first;
      settings = s.settings;
      cant = s.cant;
      cants = s.cants;
      loose = s.loose;
      looses = s.looses;
      warnings = n;
    }

abbrev pub with_abort : Abort → Scope → Scope
with_abort a s =
    record {
      entries = s.entries;
      abort = a;
      first = s.first;
      settings = s.settings;
      cant = s.cant;
      cants = s.cants;
      loose = s.loose;
      looses = s.looses;
      warnings = s.warnings;
    }

unfoldable pub added_words : List ℕ → List ℕ → Scope → ℕ → List ℕ
added_words t w s i =
    pick (is_in t w TheSetting s.first s.settings i) w
    (pick (ltb s.settings 1024) (set (set (set w s.settings i) (1024 + s.settings) 0) (2048 + s.settings) s.first) w)

unfoldable pub added_scope : List ℕ → List ℕ → Scope → ℕ → Scope
added_scope t w s i =
    pick (is_in t w TheSetting s.first s.settings i) s
    (pick (ltb s.settings 1024) (with_settings (s.settings + 1) s) s)

unfoldable pub settled_scope : List ℕ → List ℕ → Scope → ℕ → Scope
settled_scope t w s i = with_entries (resets_in t w i s.entries s.first (s.settings - s.first)) s

-- using: the spans of the name at the n places from j on become used
unfoldable pub mark_words : List ℕ → Bool → List ℕ → ℕ → ℕ → List ℕ
mark_words t held w j i = pick (held && alike_at t Name i (node_in w j)) (set w (1024 + j) 1) w

unfoldable pub marks_in : List ℕ → List Entry → ℕ → List ℕ → ℕ → ℕ → List ℕ
marks_in t es i w j zero = w
marks_in t es i w j (suc n) = marks_in t es i (mark_words t (held_of (get_or es j no_entry).standing) w j i) (j + 1) n

unfoldable pub marks_of : List ℕ → List Entry → ℕ → List ℕ → ℕ → ℕ → List ℕ
marks_of t es i w a b = marks_in t es i w a (b - a)

-- the standing of node i's name at the places from a up to b
unfoldable pub standing_in : List ℕ → List ℕ → List Entry → ℕ → ℕ → ℕ → Standing
standing_in t w es a b i = pick (is_in t w Name a b i) (get_or es (find_in t w Name a b i) no_entry).standing Absent

abbrev pub present_of : Standing → Bool
present_of Absent = false
present_of Maybe = true
present_of Definitely = true
present_of HeldAbsent = false
present_of HeldMaybe = true
present_of HeldDefinitely = true

abbrev pub sure_of : Standing → Bool
sure_of Absent = false
sure_of Maybe = false
sure_of Definitely = true
sure_of HeldAbsent = false
sure_of HeldMaybe = false
sure_of HeldDefinitely = true

-- where the settings of the nearest scope end that lies below place b and has a standing for node i's name, or 0; n: at least as many as scopes
unfoldable pub outward_in : List ℕ → List ℕ → List Entry → ℕ → ℕ → ℕ → ℕ
outward_in t w es i b zero = 0
outward_in t w es i b (suc n) =
    elim (ltb 0 b) [
      | false ↦ 0
      | true ↦ elim (ltb (base_in w (b - 1)) b) [
        | false ↦ 0
        | true ↦ elim (present_of (standing_in t w es (base_in w (b - 1)) b i)) [
          | true ↦ b
          | false ↦ outward_in t w es i (base_in w (b - 1)) n
        ]
      ]
    ]

-- a branch
abbrev pub aborts_of : Abort → Bool
aborts_of Runs = false
aborts_of Loop = true
aborts_of Function = true

abbrev pub unloop_of : Abort → Abort
unloop_of Runs = Runs
unloop_of Loop = Runs
unloop_of Function = Function

abbrev pub smaller_of : Abort → Abort → Abort
smaller_of Runs b = Runs
smaller_of Loop Runs = Runs
smaller_of Loop Loop = Loop
smaller_of Loop Function = Loop
smaller_of Function b = b

abbrev pub join_standing : Bool → Bool → Bool → Standing → Standing → Standing
join_standing h a b x y = standing_if h (present_of x || present_of y) (rules.join_sure a b (sure_of x) (sure_of y))

abbrev pub joined_of : Bool → Bool → Entry → Entry → Entry
joined_of a b p q = record { standing = join_standing (held_of p.standing || held_of q.standing) a b p.standing q.standing }

unfoldable pub merges_in : Bool → Bool → List Entry → List Entry → ℕ → ℕ → List Entry
merges_in a b os es j zero = es
merges_in a b os es j (suc n) = merges_in a b os (set es j (joined_of a b (get_or os j no_entry) (get_or es j no_entry))) (j + 1) n

unfoldable pub merged_scope : Bool → Bool → Scope → Scope → Scope
merged_scope a b one s = with_entries (merges_in a b one.entries s.entries s.first (s.settings - s.first)) s

unfoldable pub join_scope : Scope → Scope → Scope
join_scope one s = with_abort (smaller_of one.abort s.abort) (merged_scope (aborts_of one.abort) (aborts_of s.abort) one s)

unfoldable pub back_scope : Scope → Scope → Scope
back_scope s one = with_abort s.abort (with_entries s.entries one)

unfoldable pub enter_scope : Scope → Scope
enter_scope s =
    record {
      entries = s.entries;
      abort = Runs;
      first = s.settings;
      settings = s.settings;
      cant = s.cants;
      cants = s.cants;
      loose = s.looses;
      looses = s.looses;
      warnings = s.warnings;
    }

-- leaving: a can't-set use whose name is set at a place from a up to b
unfoldable pub late_lines : List ℕ → ℕ → ℕ → List ℕ → ℕ → ℕ → Lines
late_lines t a b w n i = pick (is_in t w Name a b i) (warn_lines t w n 4 i) (record { words = w; count = n })

unfoldable pub spared_at : List ℕ → Bool → Bool → ℕ → Bool
spared_at t true held i = eqb (unused (sort_of (kind_at t i))) 2 && (not (underscored (table_of t) (value_at t i)) && held)
spared_at t false held i = underscored (table_of t) (value_at t i)

unfoldable pub spared_in : List ℕ → List ℕ → Bool → Bool → ℕ → ℕ → ℕ → ℕ → Bool
spared_in t w top held a b p i = eqb (used_in w p) 1 || (is_in t w Name a b i || spared_at t top held i)

unfoldable pub idle_lines : List ℕ → Bool → List ℕ → ℕ → ℕ → Lines
idle_lines t spared w n i = pick spared (record { words = w; count = n }) (warn_lines t w n (unused (sort_of (kind_at t i))) i)

unfoldable pub idles_in : List ℕ → Bool → Scope → List ℕ → ℕ → ℕ → ℕ → Lines
idles_in t top s w n j zero = record { words = w; count = n }
idles_in t top s w n j (suc m) =
    let p = find_in t w Spot s.first s.settings (node_in w j) in
    let l = idle_lines t (spared_in t w top (held_of (get_or s.entries p no_entry).standing) s.loose s.looses p (node_in w j)) w n (node_in w j) in
    idles_in t top s l.words l.count (j + 1) m

unfoldable pub pass_lines : List ℕ → ℕ → ℕ → ℕ → List ℕ → ℕ → ℕ → Lines
pass_lines t a b z w e i =
    pick (is_in t w Name a b i) (record { words = w; count = e })
    (record { words = join_words t w z e 13312 i; count = join_end t w z e 13312 i })

unfoldable pub passes_in : List ℕ → ℕ → ℕ → ℕ → List ℕ → ℕ → ℕ → ℕ → Lines
passes_in t a b z w e k zero = record { words = w; count = e }
passes_in t a b z w e k (suc m) =
    let l = pass_lines t a b z w e (node_in w k) in
    passes_in t a b z l.words l.count (k + 1) m

unfoldable pub unknown_lines : List ℕ → ℕ → ℕ → List ℕ → ℕ → ℕ → Lines
unknown_lines t a b w n i =
    pick (is_in t w Name a b i || is_global t (value_at t i)) (record { words = w; count = n }) (warn_lines t w n 5 i)

-- the m uses at the words from k on: can't-set ones where late, else unbound ones
abbrev pub use_lines : Bool → List ℕ → ℕ → ℕ → List ℕ → ℕ → ℕ → Lines
use_lines late t a b w n i = pick late (late_lines t a b w n i) (unknown_lines t a b w n i)

unfoldable pub uses_lines : Bool → List ℕ → ℕ → ℕ → List ℕ → ℕ → ℕ → ℕ → Lines
uses_lines late t a b w n k zero = record { words = w; count = n }
uses_lines late t a b w n k (suc m) =
    let l = use_lines late t a b w n (node_in w k) in
    uses_lines late t a b l.words l.count (k + 1) m

-- ---- the methods
unfoldable pub new_scope : Scope
new_scope =
    record {
      entries = replicate 1024 no_entry;
      abort = Runs;
      first = 0;
      settings = 0;
      cant = 5120;
      cants = 5120;
      loose = 6144;
      looses = 6144;
      warnings = 0;
    }

unfoldable pub set_scope : List ℕ → List ℕ → Scope → ℕ → Scope
set_scope t w s i = settled_scope t (added_words t w s i) (added_scope t w s i) i

unfoldable pub cannot_words : List ℕ → List ℕ → Scope → ℕ → List ℕ
cannot_words t w s i = join_words t w s.cant s.cants 6144 i

unfoldable pub cannot_scope : List ℕ → List ℕ → Scope → ℕ → Scope
cannot_scope t w s i = with_cants (join_end t w s.cant s.cants 6144 i) s

unfoldable pub unbinds_words : List ℕ → List ℕ → Scope → ℕ → List ℕ
unbinds_words t w s i = join_words t w s.loose s.looses 13312 i

unfoldable pub unbinds_scope : List ℕ → List ℕ → Scope → ℕ → Scope
unbinds_scope t w s i = with_looses (join_end t w s.loose s.looses 13312 i) s

unfoldable pub taken_words : List ℕ → List ℕ → Scope → ℕ → ℕ → ℕ → Standing → List ℕ
taken_words t w s a b i st =
    pick (sure_of st) (marks_of t s.entries i w a b) (warn_words t (marks_of t s.entries i w a b) s.warnings 6 i)

unfoldable pub taken_scope : List ℕ → List ℕ → Scope → ℕ → ℕ → ℕ → Standing → Scope
taken_scope t w s a b i st =
    pick (sure_of st) s (with_warnings (warn_count t (marks_of t s.entries i w a b) s.warnings i) s)

unfoldable pub away_words : List ℕ → List ℕ → Scope → ℕ → ℕ → List ℕ
away_words t w s b i =
    pick (eqb b 0) (unbinds_words t (cannot_words t w s i) (cannot_scope t w s i) i)
    (cannot_words t (taken_words t w s (base_in w (b - 1)) b i (standing_in t w s.entries (base_in w (b - 1)) b i))
    (taken_scope t w s (base_in w (b - 1)) b i (standing_in t w s.entries (base_in w (b - 1)) b i)) i)

unfoldable pub away_scope : List ℕ → List ℕ → Scope → ℕ → ℕ → Scope
away_scope t w s b i =
    pick (eqb b 0) (unbinds_scope t (cannot_words t w s i) (cannot_scope t w s i) i)
    (cannot_scope t (taken_words t w s (base_in w (b - 1)) b i (standing_in t w s.entries (base_in w (b - 1)) b i))
    (taken_scope t w s (base_in w (b - 1)) b i (standing_in t w s.entries (base_in w (b - 1)) b i)) i)

unfoldable pub outward_of : List ℕ → List ℕ → Scope → ℕ → ℕ
outward_of t w s i = outward_in t w s.entries i s.first s.first

unfoldable pub used_words : List ℕ → List ℕ → Scope → ℕ → List ℕ
used_words t w s i =
    pick (present_of (standing_in t w s.entries s.first s.settings i))
    (taken_words t w s s.first s.settings i (standing_in t w s.entries s.first s.settings i))
    (away_words t w s (outward_of t w s i) i)

unfoldable pub used_scope : List ℕ → List ℕ → Scope → ℕ → Scope
used_scope t w s i =
    pick (present_of (standing_in t w s.entries s.first s.settings i))
    (taken_scope t w s s.first s.settings i (standing_in t w s.entries s.first s.settings i))
    (away_scope t w s (outward_of t w s i) i)

unfoldable pub late_of : List ℕ → List ℕ → Scope → Lines
late_of t w s = uses_lines true t s.first s.settings w s.warnings s.cant (s.cants - s.cant)

unfoldable pub idle_of : List ℕ → Bool → List ℕ → ℕ → Scope → Lines
idle_of t top w n s = idles_in t top s w n s.first (s.settings - s.first)

unfoldable pub farewell_of : List ℕ → Bool → List ℕ → Scope → Lines
farewell_of t top w s = idle_of t top (late_of t w s).words (late_of t w s).count s

unfoldable pub passed_of : List ℕ → List ℕ → ℕ → Scope → Lines
passed_of t w z s = passes_in t s.first s.settings z w s.loose s.loose (s.looses - s.loose)

unfoldable pub leave_words : List ℕ → List ℕ → Scope → Scope → List ℕ
leave_words t w s outside = (passed_of t (farewell_of t false w s).words outside.loose s).words

unfoldable pub leave_scope : List ℕ → List ℕ → Scope → Scope → Scope
leave_scope t w s outside =
    with_looses (passed_of t (farewell_of t false w s).words outside.loose s).count
    (with_warnings (farewell_of t false w s).count outside)

unfoldable pub unknown_of : List ℕ → List ℕ → ℕ → Scope → Lines
unknown_of t w n s = uses_lines false t s.first s.settings w n s.loose (s.looses - s.loose)

unfoldable pub closed_of : List ℕ → List ℕ → Scope → Lines
closed_of t w s =
    pick (eqb (global_count t) 65535) (farewell_of t true w s)
    (unknown_of t (farewell_of t true w s).words (farewell_of t true w s).count s)
