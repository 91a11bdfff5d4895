-- The steps of the methods, case by case, as the code meets the cases. Assumes nothing.
use Prim.Native.Nat.{ℕ, zero, suc, ◌+◌, ◌-◌, ◌≤◌, ◌<◌}
use native.Mathlib.Omega.{arith}
use native.Mathlib.Decide.{dec_lt}
use mathlib.Core.Path.{◌≡◌, refl, sym, subst, ◌∙◌}
use mathlib.Core.Bool.{Bool, true, false, and-false}
use mathlib.Core.List.{List}
use lib.Dec.{eqb, ltb}
use lib.ListN.{get_or, set}
use borrow.Author.Tests.{lt-ltb, le-ltb, eq-eqb, ne_eqb, ltb-true}
use Rattle.tree.specs.Bytes.{pick, kind_at, value_at}
use Rattle.tree.specs.Table.{table_of, underscored, is_global}
use Rattle.rules.specs.Order.{Sort}
use Rattle.rules.specs.Names.{unused}
use Rattle.scope.specs.State.{sort_of, held_of, no_entry, node_in, base_in}
use Rattle.scope.specs.Words.{alike_at, find_in, is_in, join_words, join_end, warn_words, warn_count, warn_lines, Lines, reset_of, resets_in, with_settings, with_warnings, added_words, added_scope, mark_words, marks_in, marks_of, standing_in, present_of, sure_of, outward_in, joined_of, merges_in, late_lines, use_lines, uses_lines, spared_at, spared_in, idle_lines, idles_in, pass_lines, passes_in, unknown_lines, taken_scope}
use Rattle.scope.specs.declared.table.Like.TheVariants.{Name, Spot, Setting as TheSetting}
use Rattle.scope.specs.declared.Standing.{Standing}
use Rattle.scope.specs.declared.Entry.{Entry}
use Rattle.scope.specs.declared.Scope.{Scope}

module _ (t w : List ℕ) (a b end i : ℕ) where
  pub join_there : find_in t w Spot a b i < b → (b ≡ join_end t w a b end i) × (w ≡ join_words t w a b end i)
  unfolding join_end join_words
  join_there h = (rw (lt-ltb (find_in t w Spot a b i) b h), rw (lt-ltb (find_in t w Spot a b i) b h))

  pub join_new : b ≤ find_in t w Spot a b i → b < end → (b + 1 ≡ join_end t w a b end i) × (set w b i ≡ join_words t w a b end i)
  unfolding join_end join_words
  join_new h k = (rw (le-ltb (find_in t w Spot a b i) b h, lt-ltb b end k), rw (le-ltb (find_in t w Spot a b i) b h, lt-ltb b end k))

  pub join_full : b ≤ find_in t w Spot a b i → end ≤ b → (b ≡ join_end t w a b end i) × (w ≡ join_words t w a b end i)
  unfolding join_end join_words
  join_full h k = (rw (le-ltb (find_in t w Spot a b i) b h, le-ltb b end k), rw (le-ltb (find_in t w Spot a b i) b h, le-ltb b end k))

module _ (t w : List ℕ) (n code i : ℕ) where
  pub warn_there : find_in t w Spot 3072 (3072 + n) i < 3072 + n → (n ≡ warn_count t w n i) × (w ≡ warn_words t w n code i)
  unfolding warn_count warn_words
  warn_there h = (rw (lt-ltb (find_in t w Spot 3072 (3072 + n) i) (3072 + n) h), rw (lt-ltb (find_in t w Spot 3072 (3072 + n) i) (3072 + n) h))

  pub warn_more : 3072 + n ≤ find_in t w Spot 3072 (3072 + n) i → n < 1024
      → (n + 1 ≡ warn_count t w n i) × (set (set w (3072 + n) i) (4096 + n) code ≡ warn_words t w n code i)
  unfolding warn_count warn_words
  warn_more h k = (rw (le-ltb (find_in t w Spot 3072 (3072 + n) i) (3072 + n) h, lt-ltb n 1024 k), rw (le-ltb (find_in t w Spot 3072 (3072 + n) i) (3072 + n) h, lt-ltb n 1024 k))

  pub warn_full : 3072 + n ≤ find_in t w Spot 3072 (3072 + n) i → 1024 ≤ n → (n ≡ warn_count t w n i) × (w ≡ warn_words t w n code i)
  unfolding warn_count warn_words
  warn_full h k = (rw (le-ltb (find_in t w Spot 3072 (3072 + n) i) (3072 + n) h, le-ltb n 1024 k), rw (le-ltb (find_in t w Spot 3072 (3072 + n) i) (3072 + n) h, le-ltb n 1024 k))

-- a warning as the code adds it: the node joins the list of warnings, and where it is new its code stands beside it
pub warn_joins : (t w : List ℕ) (n code i e : ℕ) (v : List ℕ) → n ≤ 1024 → e ≡ join_end t w 3072 (3072 + n) 4096 i → v ≡ join_words t w 3072 (3072 + n) 4096 i
    → (e - 3072 ≡ warn_count t w n i) × (e - 3072 ≤ 1024) × (3072 + n < e → set v (4096 + n) code ≡ warn_words t w n code i) × (e ≤ 3072 + n → v ≡ warn_words t w n code i)
warn_joins t w n code i e v l p q = go (dec_lt (find_in t w Spot 3072 (3072 + n) i) (3072 + n)) (dec_lt n 1024)
  where
    go : Dec (find_in t w Spot 3072 (3072 + n) i < 3072 + n) → Dec (n < 1024)
        → (e - 3072 ≡ warn_count t w n i) × (e - 3072 ≤ 1024) × (3072 + n < e → set v (4096 + n) code ≡ warn_words t w n code i) × (e ≤ 3072 + n → v ≡ warn_words t w n code i)
    go (yes h) k =
        let j = join_there t w 3072 (3072 + n) 4096 i h in
        let m = warn_there t w n code i h in
        let d : e ≡ 3072 + n = p ∙ sym j.0 in
        let s : e - 3072 ≡ n = omega arith in
        (s ∙ m.0, omega arith, λ z. absurd (omega arith), λ z. q ∙ sym j.1 ∙ m.1)
    go (no h) (yes k) =
        let j = join_new t w 3072 (3072 + n) 4096 i (omega arith) (omega arith) in
        let m = warn_more t w n code i (omega arith) k in
        let d : e ≡ 3072 + n + 1 = p ∙ sym j.0 in
        let s : e - 3072 ≡ n + 1 = omega arith in
        (s ∙ m.0, omega arith, λ z. rw (q, ← j.1) m.1, λ z. absurd (omega arith))
    go (no h) (no k) =
        let j = join_full t w 3072 (3072 + n) 4096 i (omega arith) (omega arith) in
        let m = warn_full t w n code i (omega arith) (omega arith) in
        let d : e ≡ 3072 + n = p ∙ sym j.0 in
        let s : e - 3072 ≡ n = omega arith in
        (s ∙ m.0, omega arith, λ z. absurd (omega arith), λ z. q ∙ sym j.1 ∙ m.1)

module _ (t w : List ℕ) (s : Scope) (i : ℕ) where
  pub added_there : find_in t w TheSetting s.first s.settings i < s.settings → (s ≡ added_scope t w s i) × (w ≡ added_words t w s i)
  unfolding added_scope added_words
  added_there h = (rw (lt-ltb (find_in t w TheSetting s.first s.settings i) s.settings h), rw (lt-ltb (find_in t w TheSetting s.first s.settings i) s.settings h))

  pub added_new : s.settings ≤ find_in t w TheSetting s.first s.settings i → s.settings < 1024
      → (with_settings (s.settings + 1) s ≡ added_scope t w s i)
      × (set (set (set w s.settings i) (1024 + s.settings) 0) (2048 + s.settings) s.first ≡ added_words t w s i)
  unfolding added_scope added_words
  added_new h k = (rw (le-ltb (find_in t w TheSetting s.first s.settings i) s.settings h, lt-ltb s.settings 1024 k), rw (le-ltb (find_in t w TheSetting s.first s.settings i) s.settings h, lt-ltb s.settings 1024 k))

  pub added_full : s.settings ≤ find_in t w TheSetting s.first s.settings i → 1024 ≤ s.settings → (s ≡ added_scope t w s i) × (w ≡ added_words t w s i)
  unfolding added_scope added_words
  added_full h k = (rw (le-ltb (find_in t w TheSetting s.first s.settings i) s.settings h, le-ltb s.settings 1024 k), rw (le-ltb (find_in t w TheSetting s.first s.settings i) s.settings h, le-ltb s.settings 1024 k))

-- one more place of a walk over places
less_one : (j m : ℕ) → j < m → m - j ≡ suc (m - (j + 1))
less_one j m h = omega arith

pub resets_end : (t w : List ℕ) (i : ℕ) (es : List Entry) (j m : ℕ) → m ≤ j → resets_in t w i es j (m - j) ≡ es
unfolding resets_in
resets_end t w i es j m h = let e : m - j ≡ 0 = omega arith in rw e

pub resets_next : (t w : List ℕ) (i : ℕ) (es : List Entry) (j m : ℕ) → j < m
    → resets_in t w i es j (m - j) ≡ resets_in t w i (set es j (reset_of t (get_or es j no_entry) (node_in w j) i)) (j + 1) (m - (j + 1))
unfolding resets_in
resets_next t w i es j m h = rw (less_one j m h, resets_in)

pub marks_end : (t : List ℕ) (es : List Entry) (i : ℕ) (w : List ℕ) (j m : ℕ) → m ≤ j → marks_of t es i w j m ≡ w
unfolding marks_of marks_in
marks_end t es i w j m h = let e : m - j ≡ 0 = omega arith in rw e

pub marks_next : (t : List ℕ) (es : List Entry) (i : ℕ) (w : List ℕ) (j m : ℕ) → j < m
    → marks_of t es i w j m ≡ marks_of t es i (mark_words t (held_of (get_or es j no_entry).standing) w j i) (j + 1) m
unfolding marks_of marks_in
marks_next t es i w j m h = rw (less_one j m h, marks_in)

pub merges_end : (a b : Bool) (os es : List Entry) (j m : ℕ) → m ≤ j → merges_in a b os es j (m - j) ≡ es
unfolding merges_in
merges_end a b os es j m h = let e : m - j ≡ 0 = omega arith in rw e

pub merges_next : (a b : Bool) (os es : List Entry) (j m : ℕ) → j < m
    → merges_in a b os es j (m - j) ≡ merges_in a b os (set es j (joined_of a b (get_or os j no_entry) (get_or es j no_entry))) (j + 1) (m - (j + 1))
unfolding merges_in
merges_next a b os es j m h = rw (less_one j m h, merges_in)

pub uses_end : (late : Bool) (t : List ℕ) (a b : ℕ) (w : List ℕ) (n k m : ℕ) → m ≤ k → uses_lines late t a b w n k (m - k) ≡ record { words = w; count = n }
unfolding uses_lines
uses_end late t a b w n k m h = let e : m - k ≡ 0 = omega arith in rw e

pub uses_next : (late : Bool) (t : List ℕ) (a b : ℕ) (w : List ℕ) (n k m : ℕ) → k < m
    → uses_lines late t a b w n k (m - k) ≡ uses_lines late t a b (use_lines late t a b w n (node_in w k)).words (use_lines late t a b w n (node_in w k)).count (k + 1) (m - (k + 1))
unfolding uses_lines
uses_next late t a b w n k m h = rw (less_one k m h, uses_lines)

pub passes_end : (t : List ℕ) (a b z : ℕ) (w : List ℕ) (e k m : ℕ) → m ≤ k → passes_in t a b z w e k (m - k) ≡ record { words = w; count = e }
unfolding passes_in
passes_end t a b z w e k m h = let q : m - k ≡ 0 = omega arith in rw q

pub passes_next : (t : List ℕ) (a b z : ℕ) (w : List ℕ) (e k m : ℕ) → k < m
    → passes_in t a b z w e k (m - k) ≡ passes_in t a b z (pass_lines t a b z w e (node_in w k)).words (pass_lines t a b z w e (node_in w k)).count (k + 1) (m - (k + 1))
unfolding passes_in
passes_next t a b z w e k m h = rw (less_one k m h, passes_in)

-- what one idle setting warns
abbrev pub idle_here : List ℕ → Bool → Scope → List ℕ → ℕ → ℕ → Lines
idle_here t top s w n i =
    idle_lines t (spared_in t w top (held_of (get_or s.entries (find_in t w Spot s.first s.settings i) no_entry).standing) s.loose s.looses (find_in t w Spot s.first s.settings i) i) w n i

pub idles_end : (t : List ℕ) (top : Bool) (s : Scope) (w : List ℕ) (n j m : ℕ) → m ≤ j → idles_in t top s w n j (m - j) ≡ record { words = w; count = n }
unfolding idles_in
idles_end t top s w n j m h = let e : m - j ≡ 0 = omega arith in rw e

pub idles_next : (t : List ℕ) (top : Bool) (s : Scope) (w : List ℕ) (n j m : ℕ) → j < m
    → idles_in t top s w n j (m - j) ≡ idles_in t top s (idle_here t top s w n (node_in w j)).words (idle_here t top s w n (node_in w j)).count (j + 1) (m - (j + 1))
unfolding idles_in
idles_next t top s w n j m h = rw (less_one j m h, idles_in)

-- the tests of one line
module _ (t : List ℕ) (a b : ℕ) (w : List ℕ) (n i : ℕ) where
  pub late_so : find_in t w Name a b i < b → warn_lines t w n 4 i ≡ late_lines t a b w n i
  unfolding late_lines
  late_so h = rw (lt-ltb (find_in t w Name a b i) b h)

  pub late_not : b ≤ find_in t w Name a b i → record { words = w; count = n } ≡ late_lines t a b w n i
  unfolding late_lines
  late_not h = rw (le-ltb (find_in t w Name a b i) b h)

  pub unknown_set : find_in t w Name a b i < b → record { words = w; count = n } ≡ unknown_lines t a b w n i
  unfolding unknown_lines
  unknown_set h = rw (lt-ltb (find_in t w Name a b i) b h)

  pub unknown_given : b ≤ find_in t w Name a b i → is_global t (value_at t i) ≡ true → record { words = w; count = n } ≡ unknown_lines t a b w n i
  unfolding unknown_lines
  unknown_given h e = rw (le-ltb (find_in t w Name a b i) b h, e)

  pub unknown_so : b ≤ find_in t w Name a b i → is_global t (value_at t i) ≡ false → warn_lines t w n 5 i ≡ unknown_lines t a b w n i
  unfolding unknown_lines
  unknown_so h e = rw (le-ltb (find_in t w Name a b i) b h, e)

module _ (t : List ℕ) (a b z : ℕ) (w : List ℕ) (e i : ℕ) where
  pub pass_not : find_in t w Name a b i < b → record { words = w; count = e } ≡ pass_lines t a b z w e i
  unfolding pass_lines
  pass_not h = rw (lt-ltb (find_in t w Name a b i) b h)

  pub pass_so : b ≤ find_in t w Name a b i → record { words = join_words t w z e 13312 i; count = join_end t w z e 13312 i } ≡ pass_lines t a b z w e i
  unfolding pass_lines
  pass_so h = rw (le-ltb (find_in t w Name a b i) b h)

module _ (t : List ℕ) (w : List ℕ) (n i : ℕ) where
  pub idle_not : (b : Bool) → b ≡ true → record { words = w; count = n } ≡ idle_lines t b w n i
  unfolding idle_lines
  idle_not b e = rw e

  pub idle_so : (b : Bool) → b ≡ false → warn_lines t w n (unused (sort_of (kind_at t i))) i ≡ idle_lines t b w n i
  unfolding idle_lines
  idle_so b e = rw e

module _ (t : List ℕ) (held : Bool) (w : List ℕ) (j i : ℕ) where
  pub mark_so : held ≡ true → alike_at t Name i (node_in w j) ≡ true → set w (1024 + j) 1 ≡ mark_words t held w j i
  unfolding mark_words
  mark_so e q = rw (e, q)

  pub mark_other : held ≡ true → alike_at t Name i (node_in w j) ≡ false → w ≡ mark_words t held w j i
  unfolding mark_words
  mark_other e q = rw (e, q)

  pub mark_not : held ≡ false → w ≡ mark_words t held w j i
  unfolding mark_words
  mark_not e = rw e

pub code_small : (k : ℕ) → unused (sort_of k) < 65536
unfolding sort_of
code_small k = go (eqb k 47) (eqb k 43)
  where
    go : (a b : Bool) → unused (pick a Sort.load (pick b Sort.argument Sort.assign)) < 65536
    go true b = omega arith
    go false true = omega arith
    go false false = omega arith

module _ (t : List ℕ) (held : Bool) (i : ℕ) where
  pub spared_sort : (unused (sort_of (kind_at t i)) ≡ 2 → ⊥) → false ≡ spared_at t true held i
  unfolding spared_at
  spared_sort h = rw (ne_eqb (unused (sort_of (kind_at t i))) 2 h)

  pub spared_under : unused (sort_of (kind_at t i)) ≡ 2 → underscored (table_of t) (value_at t i) ≡ true → false ≡ spared_at t true held i
  unfolding spared_at
  spared_under e u = rw (eq-eqb (unused (sort_of (kind_at t i))) 2 e, u)

  pub spared_held : unused (sort_of (kind_at t i)) ≡ 2 → underscored (table_of t) (value_at t i) ≡ false → held ≡ spared_at t true held i
  unfolding spared_at
  spared_held e u = rw (eq-eqb (unused (sort_of (kind_at t i))) 2 e, u)

  pub spared_other : held ≡ false → false ≡ spared_at t true held i
  unfolding spared_at
  spared_other e = rw (e, and-false, and-false)

  pub spared_below : underscored (table_of t) (value_at t i) ≡ spared_at t false held i
  unfolding spared_at
  spared_below = refl

module _ (t w : List ℕ) (es : List Entry) (i : ℕ) where
  pub outward_none : (n : ℕ) → outward_in t w es i 0 n ≡ 0
  unfolding outward_in
  outward_none zero = refl
  outward_none (suc n) = refl

  out_step : (b n : ℕ) → 0 < b → base_in w (b - 1) < b → present_of (standing_in t w es (base_in w (b - 1)) b i) ≡ false
      → outward_in t w es i b (suc n) ≡ outward_in t w es i (base_in w (b - 1)) n
  unfolding outward_in
  out_step b n p h e = rw (outward_in, lt-ltb 0 b p, lt-ltb (base_in w (b - 1)) b h, e)

  out_here : (b n : ℕ) → 0 < b → base_in w (b - 1) < b → present_of (standing_in t w es (base_in w (b - 1)) b i) ≡ true
      → outward_in t w es i b (suc n) ≡ b
  unfolding outward_in
  out_here b n p h e = rw (outward_in, lt-ltb 0 b p, lt-ltb (base_in w (b - 1)) b h, e)

  out_bad : (b n : ℕ) → 0 < b → b ≤ base_in w (b - 1) → outward_in t w es i b (suc n) ≡ 0
  unfolding outward_in
  out_bad b n p h = rw (outward_in, lt-ltb 0 b p, le-ltb (base_in w (b - 1)) b h)

  enough : (n m b : ℕ) → b ≤ n → b ≤ m → outward_in t w es i b n ≡ outward_in t w es i b m
  enough zero m b p q = let e : b ≡ 0 = omega arith in rw e (outward_none zero ∙ sym (outward_none m))
  enough (suc n) zero b p q = let e : b ≡ 0 = omega arith in rw e (outward_none (suc n) ∙ sym (outward_none zero))
  enough (suc n) (suc m) b p q = go (dec_lt 0 b) (dec_lt (base_in w (b - 1)) b) (λ h. enough n m (base_in w (b - 1)) (omega arith) (omega arith)) (present_of (standing_in t w es (base_in w (b - 1)) b i)) refl
    where
      go : Dec (0 < b) → Dec (base_in w (b - 1) < b) → (base_in w (b - 1) < b → outward_in t w es i (base_in w (b - 1)) n ≡ outward_in t w es i (base_in w (b - 1)) m)
          → (x : Bool) → present_of (standing_in t w es (base_in w (b - 1)) b i) ≡ x → outward_in t w es i b (suc n) ≡ outward_in t w es i b (suc m)
      go (no h) k f x e = let z : b ≡ 0 = omega arith in rw z (outward_none (suc n) ∙ sym (outward_none (suc m)))
      go (yes h) (no k) f x e = out_bad b n h (omega arith) ∙ sym (out_bad b m h (omega arith))
      go (yes h) (yes k) f true e = out_here b n h k e ∙ sym (out_here b m h k e)
      go (yes h) (yes k) f false e = out_step b n h k e ∙ f k ∙ sym (out_step b m h k e)

  one_less : (b : ℕ) → 0 < b → b ≡ suc (b - 1)
  one_less b h = omega arith

  pub outward_bad : (b : ℕ) → 0 < b → b ≤ base_in w (b - 1) → outward_in t w es i b b ≡ 0
  outward_bad b p h = enough b (suc b) b (omega arith) (omega arith) ∙ out_bad b b p h

  pub outward_here : (b : ℕ) → 0 < b → base_in w (b - 1) < b → present_of (standing_in t w es (base_in w (b - 1)) b i) ≡ true → outward_in t w es i b b ≡ b
  outward_here b p h e = enough b (suc b) b (omega arith) (omega arith) ∙ out_here b b p h e

  pub outward_on : (b : ℕ) → 0 < b → base_in w (b - 1) < b → present_of (standing_in t w es (base_in w (b - 1)) b i) ≡ false
      → outward_in t w es i b b ≡ outward_in t w es i (base_in w (b - 1)) (base_in w (b - 1))
  outward_on b p h e = enough b (suc b) b (omega arith) (omega arith) ∙ out_step b b p h e ∙ enough b (base_in w (b - 1)) (base_in w (b - 1)) (omega arith) (omega arith)

pub added_small : (t w : List ℕ) (s : Scope) (i : ℕ) → s.settings ≤ 1024 → (added_scope t w s i).settings ≤ 1024
unfolding added_scope
added_small t w s i h = go (is_in t w TheSetting s.first s.settings i) (ltb s.settings 1024) refl
  where
    go : (a b : Bool) → ltb s.settings 1024 ≡ b → (pick a s (pick b (with_settings (s.settings + 1) s) s)).settings ≤ 1024
    go true b e = h
    go false true e = omega (arith, ltb-true s.settings 1024 e)
    go false false e = h

-- a use that is taken moves no counter but that of warnings
pub taken_cants : (t w : List ℕ) (s : Scope) (a b i : ℕ) (st : Standing) (n : ℕ) → s.cant ≤ s.cants → s.cants ≤ n
    → ((taken_scope t w s a b i st).cant ≤ (taken_scope t w s a b i st).cants) × ((taken_scope t w s a b i st).cants ≤ n)
unfolding taken_scope
taken_cants t w s a b i st n p q = go (sure_of st)
  where
    go : (x : Bool) → ((pick x s (with_warnings (warn_count t (marks_of t s.entries i w a b) s.warnings i) s)).cant ≤ (pick x s (with_warnings (warn_count t (marks_of t s.entries i w a b) s.warnings i) s)).cants)
        × ((pick x s (with_warnings (warn_count t (marks_of t s.entries i w a b) s.warnings i) s)).cants ≤ n)
    go true = (p, q)
    go false = (p, q)

module _ (t w : List ℕ) (es : List Entry) (i : ℕ) where
  -- where a search outward can end
  abbrev Ends : ℕ → ℕ → Type 0
  Ends b e = (e ≤ b) × (0 < e → base_in w (e - 1) < e)

  pub outward_ends : (n b : ℕ) → Ends b (outward_in t w es i b n)
  unfolding outward_in
  outward_ends zero b = (omega arith, λ h. absurd (omega arith))
  outward_ends (suc n) b = go (dec_lt 0 b) (dec_lt (base_in w (b - 1)) b) (present_of (standing_in t w es (base_in w (b - 1)) b i)) refl (outward_ends n (base_in w (b - 1)))
    where
      go : Dec (0 < b) → Dec (base_in w (b - 1) < b) → (x : Bool) → present_of (standing_in t w es (base_in w (b - 1)) b i) ≡ x
          → Ends (base_in w (b - 1)) (outward_in t w es i (base_in w (b - 1)) n) → Ends b (outward_in t w es i b (suc n))
      go (no h) k x e r = let z : b ≡ 0 = omega arith in subst (λ (y : ℕ). Ends b (outward_in t w es i y (suc n))) (sym z) (rw (outward_none t w es i (suc n)) (omega arith, λ h. absurd (omega arith)))
      go (yes h) (no k) x e r = rw (out_bad t w es i b n h (omega arith)) (omega arith, λ h. absurd (omega arith))
      go (yes h) (yes k) true e r = rw (out_here t w es i b n h k e) (omega arith, λ z. k)
      go (yes h) (yes k) false e r = rw (out_step t w es i b n h k e) (omega (arith, r.0), r.1)
