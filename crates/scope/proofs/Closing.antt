-- The module is left: the list is that of rules' names-tour. Assumes nothing.
use Prim.Native.Nat.{ℕ, zero, suc, ◌+◌, ◌-◌, ◌≤◌}
use native.Mathlib.Omega.{arith}
use mathlib.Core.Path.{◌≡◌, refl, sym, ap, subst, ◌∙◌}
use mathlib.Core.Bool.{Bool, true, false, not}
use mathlib.Core.List.{List, ◌∷◌}
use lib.Dec.{eqb}
use lib.ListN.{length, get_or}
use Rattle.tree.specs.Bytes.{pick, value_at, global_count}
use Rattle.tree.specs.Forest.{Spot, node_spot}
use Rattle.tree.specs.Table.{table_of, underscored, is_global, unless, globals_of}
use Rattle.rules.specs.Record.{keep}
use Rattle.rules.specs.Names.{Warning, warn, warn_if, warn_all}
use Rattle.rules.specs.code.Marks as marks
use Rattle.rules.specs.code.Marks.{sets_name, farewell_room, undefined_room}
use Rattle.rules.proofs.Lists.{keep_so, keep_not}
use Rattle.scope.specs.Lists.{places}
use Rattle.scope.specs.State.{node_in, spot_in, entry_in, room_of, out_of, Fits}
use Rattle.scope.specs.Words.{is_in, warn_lines, unknown_lines, uses_lines, unknown_of, farewell_of, closed_of}
use Rattle.scope.specs.declared.table.Like.TheVariants.{Name}
use Rattle.scope.specs.declared.Scope.{Scope}
use Rattle.scope.proofs.Lists.{places_none, places_cons}
use Rattle.scope.proofs.Leaves.{Only, Warns, warns_so, warns_not, only_entries, sets_in, farewell_warns}

module _ (t w : List ℕ) (s : Scope) (f : Fits w s) where
  abbrev here : List marks.Entry
  here = places (entry_in t w s.entries) s.first s.settings

  abbrev unset : Spot → Bool
  unset x = not (sets_name x.value here)

  abbrev ungiven : Spot → Bool
  ungiven x = not (is_global t x.value)

  spot_same : (v : List ℕ) (k : ℕ) → get_or v k 0 ≡ get_or w k 0 → spot_in t w k ≡ node_spot t (node_in v k)
  unfolding spot_in
  spot_same v k e = rw e

  value_spot : (i : ℕ) → (node_spot t i).value ≡ value_at t i
  unfolding node_spot
  value_spot i = refl

  -- the list after one more unbound use, set here or not, given or not
  abbrev told : Spot → List Warning → Bool → Bool → List Warning
  told x ws a b = pick a ws (pick b ws (warn 5 x ws))

  unknown_lines_are : (v : List ℕ) (n i : ℕ) → Only w v → n ≤ 1024 → (ws : List Warning) → (length ws ≤ 1024 → out_of t v n ≡ ws)
      → (a b : Bool) → is_in t v Name s.first s.settings i ≡ a → is_global t (value_at t i) ≡ b
      → Warns t w (unknown_lines t s.first s.settings v n i) (told (node_spot t i) ws a b)
  unfolding unknown_lines warn_lines
  unknown_lines_are v n i o h ws e true b p q = rw p (warns_not t w v n o f.words h ws e)
  unknown_lines_are v n i o h ws e false true p q = rw (p, q) (warns_not t w v n o f.words h ws e)
  unknown_lines_are v n i o h ws e false false p q = rw (p, q) (warns_so t w v n o f.words h ws e 5 i)

  all_by : (x : Spot) (ss : List Spot) (ws : List Warning) (a b : Bool) → sets_name x.value here ≡ a → is_global t x.value ≡ b
      → warn_all 5 ungiven (keep unset (x ∷ ss)) ws ≡ warn_all 5 ungiven (keep unset ss) (told x ws a b)
  all_by x ss ws true b p q = ap (λ (k : List Spot). warn_all 5 ungiven k ws) (keep_not unset x ss (ap not p))
  all_by x ss ws false true p q =
      ap (λ (k : List Spot). warn_all 5 ungiven k ws) (keep_so unset x ss (ap not p)) ∙ ap (λ (c : Bool). warn_all 5 ungiven (keep unset ss) (warn_if (not c) 5 x ws)) q
  all_by x ss ws false false p q =
      ap (λ (k : List Spot). warn_all 5 ungiven k ws) (keep_so unset x ss (ap not p)) ∙ ap (λ (c : Bool). warn_all 5 ungiven (keep unset ss) (warn_if (not c) 5 x ws)) q

  unknowns : (m k : ℕ) (v : List ℕ) (n : ℕ) → s.loose ≤ k → k + m ≡ s.looses → Only w v → n ≤ 1024 → (ws : List Warning) → (length ws ≤ 1024 → out_of t v n ≡ ws)
      → Warns t w (uses_lines false t s.first s.settings v n k m) (warn_all 5 ungiven (keep unset (places (spot_in t w) k s.looses)) ws)
  unfolding uses_lines
  unknowns zero k v n a b o h ws e = rw (places_none (spot_in t w) k s.looses (omega arith)) (warns_not t w v n o f.words h ws e)
  unknowns (suc m) k v n a b o h ws e =
      let i = node_in v k in
      let x = is_in t v Name s.first s.settings i in
      let y = is_global t (value_at t i) in
      let rest = places (spot_in t w) (k + 1) s.looses in
      let z : spot_in t w k ≡ node_spot t i = spot_same v k (o.above k (omega (arith, f.loose_from))) in
      let c : places (spot_in t w) k s.looses ≡ node_spot t i ∷ rest = places_cons (spot_in t w) k s.looses (omega arith) ∙ ap (λ (q : Spot). q ∷ rest) z in
      let p : sets_name (node_spot t i).value here ≡ x =
      ap (λ (q : ℕ). sets_name q here) (value_spot i) ∙ ap (sets_name (value_at t i)) (sym (only_entries t w v s f o)) ∙ sets_in t v s.entries s.first s.settings i f.first in
      let g = ap (λ (q : List Spot). warn_all 5 ungiven (keep unset q) ws) c ∙ all_by (node_spot t i) rest ws x y p (ap (is_global t) (value_spot i)) in
      let d = unknown_lines_are v n i o h ws e x y refl refl in
      let l = unknown_lines t s.first s.settings v n i in
      subst (λ (q : List Warning). Warns t w (uses_lines false t s.first s.settings v n k (suc m)) q) (sym g)
      (unknowns m (k + 1) l.words l.count (omega arith) (omega arith) d.only d.small (told (node_spot t i) ws x y) d.list)

  -- what stands in the words once the module is left: the list of names-tour, where it fits
  pub closed_warns : Warns t w (closed_of t w s) (undefined_room (globals_of t) (room_of t w s) (farewell_room (underscored (table_of t)) true (room_of t w s) (out_of t w s.warnings)))
  unfolding closed_of unknown_of room_of
  closed_warns = go (eqb (global_count t) 65535)
    where
      d : Warns t w (farewell_of t true w s) (farewell_room (underscored (table_of t)) true (room_of t w s) (out_of t w s.warnings))
      d = farewell_warns t w s f true

      go : (x : Bool)
          → Warns t w (pick x (farewell_of t true w s) (uses_lines false t s.first s.settings (farewell_of t true w s).words (farewell_of t true w s).count s.loose (s.looses - s.loose)))
          (undefined_room (unless x (is_global t)) (room_of t w s) (farewell_room (underscored (table_of t)) true (room_of t w s) (out_of t w s.warnings)))
      go true = d
      go false =
          unknowns (s.looses - s.loose) s.loose (farewell_of t true w s).words (farewell_of t true w s).count (omega arith) (omega (arith, f.loose)) d.only d.small
          (farewell_room (underscored (table_of t)) true (room_of t w s) (out_of t w s.warnings)) d.list
