-- Leaving a scope: its unbound uses pass on, and the scope outside goes on. Assumes nothing.
use Prim.Native.Nat.{ℕ, zero, suc, ◌+◌, ◌-◌, ◌≤◌, ◌<◌}
use native.Mathlib.Omega.{arith}
use mathlib.Core.Path.{◌≡◌, refl, sym, ap, subst, ◌∙◌}
use mathlib.Core.Bool.{Bool, true, false, not}
use mathlib.Core.List.{List, [], ◌∷◌}
use lib.ListN.{length, get_or, length-append}
use Rattle.tree.specs.Bytes.{pick, value_at}
use Rattle.tree.specs.Forest.{Spot, node_spot}
use Rattle.tree.specs.Table.{table_of, underscored}
use Rattle.rules.specs.Record.{keep}
use Rattle.rules.specs.Names.{same}
use Rattle.rules.specs.code.Marks as marks
use Rattle.rules.specs.code.Marks.{put, inside, add, adds, sets_name, leave_house, farewell_room, passed_room, unbinds_room}
use Rattle.rules.proofs.Lists.{keep_so, keep_not}
use Rattle.scope.specs.Lists.{places}
use Rattle.scope.specs.State.{node_in, base_in, spot_in, entry_in, room_of, rooms_of, out_of, house_of, Fits, Inside, Kept}
use Rattle.scope.specs.Words.{Lines, is_in, join_words, join_end, pass_lines, passes_in, passed_of, farewell_of, leave_words, leave_scope}
use Rattle.scope.specs.declared.table.Like.TheVariants.{Name}
use Rattle.scope.specs.declared.Scope.{Scope}
use Rattle.scope.proofs.Lists.{places_none, places_cons, places_length}
use Rattle.scope.proofs.Cells.{same_spots, same_entries, same_warnings, joined_list, join_else, join_length, join_end_is, join_next}
use Rattle.scope.proofs.Frames.{rooms_same}
use Rattle.scope.proofs.Leaves.{Warns, sets_in, farewell_warns}

adds_grows : (ys l : List Spot) → length l ≤ length (adds same ys l)
adds_grows [] l = omega arith
adds_grows (y ∷ ys) l = let a = put_grows (inside same y l) in let b = adds_grows ys (add same y l) in omega arith
  where
    put_grows : (x : Bool) → length l ≤ length (put x y l)
    put_grows true = omega arith
    put_grows false = omega (arith, length-append l (y ∷ []))

-- words v, where the list from z up to e is l, and the words below z and from k up to m are those of w
record Passes (t w v : List ℕ) (z e k m : ℕ) (l : List Spot) : Type 0 where
  low : (j : ℕ) → j < z → get_or v j 0 ≡ get_or w j 0
  rest : (j : ℕ) → k ≤ j → j < m → get_or v j 0 ≡ get_or w j 0
  long : length v ≡ length w
  from : z ≤ e
  upto : e ≤ k
  list : places (spot_in t v) z e ≡ l

module _ (t w : List ℕ) (r : Scope) (f : Fits w r) (z : ℕ) (y : 6144 ≤ z) where
  abbrev here : List marks.Entry
  here = places (entry_in t w r.entries) r.first r.settings

  abbrev unset : Spot → Bool
  unset x = not (sets_name x.value here)

  sets_same : (v : List ℕ) (i : ℕ) → ((j : ℕ) → j < z → get_or v j 0 ≡ get_or w j 0) → sets_name (value_at t i) here ≡ is_in t v Name r.first r.settings i
  sets_same v i h =
      ap (sets_name (value_at t i)) (sym (same_entries t w v r.entries r.entries r.first r.settings (λ k p q. h k (omega (arith, f.settings))) (λ k p q. h k (omega (arith, f.settings))) (λ k p q. refl)))
      ∙ sets_in t v r.entries r.first r.settings i f.first

  pass_step : (v : List ℕ) (e k : ℕ) (l : List Spot) → k < r.looses → Passes t w v z e k r.looses l → (x : Bool) → is_in t v Name r.first r.settings (node_in v k) ≡ x
      → Passes t w (pick x v (join_words t v z e 13312 (node_in v k))) z (pick x e (join_end t v z e 13312 (node_in v k))) (k + 1) r.looses (pick x l (add same (node_spot t (node_in v k)) l))
  pass_step v e k l h p true q =
      record { low = p.low; rest = λ j a b. p.rest j (omega arith) b; long = p.long; from = p.from; upto = omega (arith, p.upto); list = p.list }
  pass_step v e k l h p false q =
      let i = node_in v k in
      let n = join_end_is t v z e 13312 i (omega (arith, p.upto, f.looses)) in
      record {
        low = λ j a. join_else t v z e 13312 i j (λ c d. omega (arith, p.from)) ∙ p.low j a;
        rest = λ j a b. join_else t v z e 13312 i j (λ c d. omega (arith, p.upto)) ∙ p.rest j (omega arith) b;
        long = join_length t v z e 13312 i ∙ p.long;
        from = omega (arith, p.from, n.0);
        upto = omega (arith, p.upto, join_next t v z e 13312 i);
        list = joined_list t v z e 13312 i p.from (omega (arith, p.upto, p.long, f.looses, f.words)) (λ c. omega (arith, p.upto, f.looses)) ∙ ap (add same (node_spot t i)) p.list;
      }

  -- a use more or none, kept or not
  adds_by : (x : Spot) (ss l : List Spot) (b : Bool) → sets_name x.value here ≡ b → adds same (keep unset (x ∷ ss)) l ≡ adds same (keep unset ss) (pick b l (add same x l))
  adds_by x ss l true e = ap (λ (k : List Spot). adds same k l) (keep_not unset x ss (ap not e))
  adds_by x ss l false e = ap (λ (k : List Spot). adds same k l) (keep_so unset x ss (ap not e))

  pass_lines_are : (v : List ℕ) (e i : ℕ) (b : Bool) → is_in t v Name r.first r.settings i ≡ b
      → pass_lines t r.first r.settings z v e i ≡ record { words = pick b v (join_words t v z e 13312 i); count = pick b e (join_end t v z e 13312 i) }
  unfolding pass_lines
  pass_lines_are v e i true q = rw q
  pass_lines_are v e i false q = rw q

  spot_same : (v : List ℕ) (k : ℕ) → get_or v k 0 ≡ get_or w k 0 → spot_in t w k ≡ node_spot t (node_in v k)
  unfolding spot_in
  spot_same v k e = rw e

  value_spot : (i : ℕ) → (node_spot t i).value ≡ value_at t i
  unfolding node_spot
  value_spot i = refl

  passes : (m k : ℕ) (v : List ℕ) (e : ℕ) (l : List Spot) → k + m ≡ r.looses → Passes t w v z e k r.looses l
      → Passes t w (passes_in t r.first r.settings z v e k m).words z (passes_in t r.first r.settings z v e k m).count r.looses r.looses
      (adds same (keep unset (places (spot_in t w) k r.looses)) l)
  unfolding passes_in
  passes zero k v e l h p =
      let q : k ≡ r.looses = omega arith in
      rw (places_none (spot_in t w) k r.looses (omega arith))
      (record { low = p.low; rest = λ j a b. absurd (omega arith); long = p.long; from = p.from; upto = omega (arith, p.upto); list = p.list })
  passes (suc m) k v e l h p =
      let i = node_in v k in
      let b = is_in t v Name r.first r.settings i in
      let x = spot_same v k (p.rest k (omega arith) (omega arith)) in
      let n : sets_name (node_spot t i).value here ≡ b = ap (λ (y : ℕ). sets_name y here) (value_spot i) ∙ sets_same v i p.low in
      let d = pass_step v e k l (omega arith) p b refl in
      let rest = places (spot_in t w) (k + 1) r.looses in
      let c : places (spot_in t w) k r.looses ≡ node_spot t i ∷ rest = places_cons (spot_in t w) k r.looses (omega arith) ∙ ap (λ (a : Spot). a ∷ rest) x in
      let g : adds same (keep unset (places (spot_in t w) k r.looses)) l ≡ adds same (keep unset rest) (pick b l (add same (node_spot t i) l)) =
      ap (λ (a : List Spot). adds same (keep unset a) l) c ∙ adds_by (node_spot t i) rest l b n in
      subst (λ (a : List Spot). Passes t w (passes_in t r.first r.settings z v e k (suc m)).words z (passes_in t r.first r.settings z v e k (suc m)).count r.looses r.looses a) (sym g)
      (subst (λ (a : Lines). Passes t w (passes_in t r.first r.settings z a.words a.count (k + 1) m).words z (passes_in t r.first r.settings z a.words a.count (k + 1) m).count r.looses r.looses
      (adds same (keep unset rest) (pick b l (add same (node_spot t i) l)))) (sym (pass_lines_are v e i b refl))
      (passes m (k + 1) (pick b v (join_words t v z e 13312 i)) (pick b e (join_end t v z e 13312 i)) (pick b l (add same (node_spot t i) l)) (omega arith) d))

  passed_is : z ≤ r.loose
      → Passes t w (passed_of t w z r).words z (passed_of t w z r).count r.looses r.looses (adds same (keep unset (places (spot_in t w) r.loose r.looses)) (places (spot_in t w) z r.loose))
  unfolding passed_of
  passed_is h =
      passes (r.looses - r.loose) r.loose w r.loose (places (spot_in t w) z r.loose) (omega (arith, f.loose))
      (record { low = λ j a. refl; rest = λ j a b. refl; long = refl; from = h; upto = omega arith; list = refl })

-- the scope r is left for s, the one outside
module _ (t w : List ℕ) (r s : Scope) (f : Fits w r) (outside : Fits w s) (loose : r.loose ≡ s.looses) where
  abbrev u : ℕ → Bool
  u = underscored (table_of t)

  farewell : Warns t w (farewell_of t false w r) (farewell_room u false (room_of t w r) (out_of t w r.warnings))
  farewell = farewell_warns t w r f false

  -- after the warnings
  abbrev v : List ℕ
  v = (farewell_of t false w r).words

  later : Fits v r
  later =
      let o = farewell.only in
      record {
        words = omega (arith, f.words, o.long);
        wide = f.wide;
        first = f.first;
        settings = f.settings;
        cant_from = f.cant_from;
        cant = f.cant;
        cants = f.cants;
        loose_from = f.loose_from;
        loose = f.loose;
        looses = f.looses;
        warnings = f.warnings;
        clean = f.clean;
        own = λ k p q. o.below (2048 + k) (omega (arith, f.settings)) ∙ f.own k p q;
      }

  gone : Passes t v (leave_words t w r s) s.loose (passed_of t v s.loose r).count r.looses r.looses
      (adds same (keep (unset t v r later s.loose outside.loose_from) (places (spot_in t v) r.loose r.looses)) (places (spot_in t v) s.loose r.loose))
  unfolding leave_words Inside
  gone = passed_is t v r later s.loose outside.loose_from (omega (arith, outside.loose, loose))

  -- words below the list that grows: only warnings changed them
  leave_cell : (k : ℕ) → k < s.loose → get_or (leave_words t w r s) k 0 ≡ get_or v k 0
  leave_cell k h = gone.low k h

  pub leave_low : (k : ℕ) → k < 3072 → get_or (leave_words t w r s) k 0 ≡ get_or w k 0
  leave_low k h = leave_cell k (omega (arith, outside.loose_from)) ∙ farewell.only.below k h

  pub leave_fits : Fits (leave_words t w r s) (leave_scope t w r s)
  unfolding leave_scope
  leave_fits =
      record {
        words = omega (arith, f.words, farewell.only.long, gone.long);
        wide = outside.wide;
        first = outside.first;
        settings = outside.settings;
        cant_from = outside.cant_from;
        cant = outside.cant;
        cants = outside.cants;
        loose_from = outside.loose_from;
        loose = gone.from;
        looses = omega (arith, gone.upto, f.looses);
        warnings = farewell.small;
        clean = outside.clean;
        own = λ k p q. leave_low (2048 + k) (omega (arith, outside.settings)) ∙ outside.own k p q;
      }

  -- words that no warning reaches and that lie below the growing list
  leave_high : (k : ℕ) → 5120 ≤ k → k < s.loose → get_or (leave_words t w r s) k 0 ≡ get_or w k 0
  leave_high k h l = leave_cell k l ∙ farewell.only.above k h

  entries_same : places (entry_in t v r.entries) r.first r.settings ≡ places (entry_in t w r.entries) r.first r.settings
  entries_same =
      same_entries t w v r.entries r.entries r.first r.settings (λ k p q. farewell.only.below k (omega (arith, f.settings))) (λ k p q. farewell.only.below k (omega (arith, f.settings))) (λ k p q. refl)

  unbound_same : places (spot_in t (leave_words t w r s)) s.loose (passed_of t v s.loose r).count
      ≡ adds same (keep (λ x. not (sets_name x.value (places (entry_in t w r.entries) r.first r.settings))) (places (spot_in t w) r.loose r.looses)) (places (spot_in t w) s.loose s.looses)
  unfolding Inside
  unbound_same =
      let a = same_spots t w v r.loose r.looses (λ k p q. farewell.only.above k (omega (arith, f.loose_from))) in
      let b = same_spots t w v s.loose r.loose (λ k p q. farewell.only.above k (omega (arith, outside.loose_from))) in
      let c : places (spot_in t w) s.loose r.loose ≡ places (spot_in t w) s.loose s.looses = ap (places (spot_in t w) s.loose) loose in
      gone.list
      ∙ ap (λ (x : List marks.Entry). adds same (keep (λ y. not (sets_name y.value x)) (places (spot_in t v) r.loose r.looses)) (places (spot_in t v) s.loose r.loose)) entries_same
      ∙ ap (λ (x : List Spot). adds same (keep (λ y. not (sets_name y.value (places (entry_in t w r.entries) r.first r.settings))) x) (places (spot_in t v) s.loose r.loose)) a
      ∙ ap (adds same (keep (λ y. not (sets_name y.value (places (entry_in t w r.entries) r.first r.settings))) (places (spot_in t w) r.loose r.looses))) (b ∙ c)

  left_room : room_of t (leave_words t w r s) (leave_scope t w r s) ≡ unbinds_room (passed_room (room_of t w r)) (room_of t w s)
  unfolding leave_scope room_of
  left_room =
      rw (
        unbound_same,
        same_spots t w (leave_words t w r s) s.cant s.cants (λ k p q. leave_high k (omega (arith, outside.cant_from)) (omega (arith, outside.cants, outside.loose_from))),
        same_entries t w (leave_words t w r s) s.entries s.entries s.first s.settings (λ k p q. leave_low k (omega (arith, outside.settings))) (λ k p q. leave_low k (omega (arith, outside.settings))) (λ k p q. refl),
      )

  left_rooms : (outer : List Scope) → Inside w s outer → rooms_of t (leave_words t w r s) outer ≡ rooms_of t w outer
  left_rooms outer i =
      rooms_same t w (leave_words t w r s) outer s i
      (record {
        nodes = λ k h. leave_low k (omega (arith, outside.first, outside.settings));
        used = λ k h. leave_low (1024 + k) (omega (arith, outside.first, outside.settings));
        cants = λ k p q. leave_high k p (omega (arith, outside.cant, outside.cants, outside.loose_from));
        looses = λ k p q. leave_high k (omega arith) q;
      })

  left_out : length (farewell_room u false (room_of t w r) (out_of t w r.warnings)) ≤ 1024
      → out_of t (leave_words t w r s) (farewell_of t false w r).count ≡ farewell_room u false (room_of t w r) (out_of t w r.warnings)
  left_out h =
      same_warnings t v (leave_words t w r s) (farewell_of t false w r).count
      (λ k p q. leave_cell k (omega (arith, outside.loose_from, farewell.small))) (λ k p q. leave_cell k (omega (arith, outside.loose_from, farewell.small)))
      ∙ farewell.list h

  left_warnings : length (farewell_room u false (room_of t w r) (out_of t w r.warnings)) ≤ 1024
      → out_of t (leave_words t w r s) (leave_scope t w r s).warnings ≡ farewell_room u false (room_of t w r) (out_of t w r.warnings)
  unfolding leave_scope
  left_warnings h = left_out h

  -- the house after a scope is left
  pub leave_house_is : (outer : List Scope) → Inside w s outer → length (farewell_room u false (room_of t w r) (out_of t w r.warnings)) ≤ 1024
      → house_of t (leave_words t w r s) (leave_scope t w r s) outer ≡ leave_house u (house_of t w r (s ∷ outer)) (house_of t w r (s ∷ outer)).above
  unfolding house_of rooms_of
  leave_house_is outer i h = rw (left_room, left_rooms outer i, left_warnings h)

  -- s goes on where it was when the scope inside was entered, with the words w₀
  pub leave_kept : (w₀ : List ℕ) → ((k : ℕ) → k < s.first → base_in w k ≡ base_in w₀ k) → Kept w₀ s (leave_words t w r s) (leave_scope t w r s)
  unfolding leave_scope Inside
  leave_kept w₀ h =
      record {
        first = refl;
        cant = refl;
        loose = refl;
        settings = omega arith;
        cants = omega arith;
        looses = omega (arith, loose, gone.from, outside.loose, places_length (spot_in t (leave_words t w r s)) s.loose (passed_of t v s.loose r).count, ap length gone.list, adds_grows (keep (unset t v r later s.loose outside.loose_from) (places (spot_in t v) r.loose r.looses)) (places (spot_in t v) s.loose r.loose), places_length (spot_in t v) s.loose r.loose);
        entries = λ k q. refl;
        bases = λ k q. leave_low (2048 + k) (omega (arith, outside.first, outside.settings)) ∙ h k q;
      }
