-- What the walk needs of the methods of a scope state. Assumes nothing.
use Prim.Native.Nat.{ℕ, ◌≤◌, ◌<◌}
use mathlib.Core.Path.{◌≡◌}
use mathlib.Core.Bool.{true}
use mathlib.Core.List.{List, [], ◌∷◌}
use lib.ListN.{length, get_or}
use Rattle.tree.specs.Bytes.{kind_at}
use Rattle.tree.specs.Forest.{node_head}
use Rattle.tree.specs.Table.{table_of, underscored, globals_of}
use Rattle.rules.specs.Order.{use_of, set_of}
use Rattle.rules.specs.code.Marks.{House, leave_house, mid, farewell_room, undefined_room}
use Rattle.rules.specs.Names.{Warning}
use Rattle.scope.specs.State.{sort_of, no_entry, out_of, house_of, Fits, Inside, Kept}
use Rattle.scope.specs.Words.{added_words, set_scope, used_words, used_scope, back_scope, join_scope, enter_scope, leave_words, leave_scope, closed_of}
use Rattle.scope.specs.Does.{RoomFor}
use Rattle.names.specs.Walk.{Goes}
use Rattle.scope.specs.declared.Scope.{Scope}
use Rattle.scope.proofs.Sides.{both}

-- the module is left
abbrev pub closing : List ℕ → House → List Warning
closing t m = undefined_room (globals_of t) m.here (farewell_room (underscored (table_of t)) true m.here m.out)

pub record Methods (t : List ℕ) : Type 0 where
  pub set : (d : ℕ) (w : List ℕ) (s : Scope) (i : ℕ) → Fits w s → i < 1024
      → Goes t d (set_of (sort_of (kind_at t i)) (node_head t i)) w s (added_words t w s i) (set_scope t w s i)
  pub used : (d : ℕ) (w : List ℕ) (s : Scope) (i : ℕ) → Fits w s → i < 1024
      → Goes t d (use_of (node_head t i)) w s (used_words t w s i) (used_scope t w s i)
  pub back : {w v : List ℕ} {s one : Scope} → Fits w s → Fits v one → Kept w s v one → (outer : List Scope)
      → house_of t v (back_scope s one) outer ≡ mid (house_of t w s outer) (house_of t v one outer)
  pub join_fits : {x : List ℕ} (one two : Scope) → Fits x two → Fits x (join_scope one two)
  pub join_below : (one two : Scope) (k : ℕ) → k < two.first → get_or (join_scope one two).entries k no_entry ≡ get_or two.entries k no_entry
  pub join : {v x : List ℕ} {one two : Scope} → Fits v one → Fits x two → two.first ≡ one.first → one.settings ≤ two.settings
      → (outer : List Scope) → house_of t x (join_scope one two) outer ≡ both (house_of t v one outer) (house_of t x two outer)
  pub leave_fits : {w v : List ℕ} {s b : Scope} → Fits w s → Fits v b → Kept w (enter_scope s) v b → Fits (leave_words t v b s) (leave_scope t v b s)
  pub leave_kept : {w v : List ℕ} {s b : Scope} → Fits w s → Fits v b → Kept w (enter_scope s) v b → Kept w s (leave_words t v b s) (leave_scope t v b s)
  pub leave : {w v : List ℕ} {s b : Scope} → Fits w s → Fits v b → Kept w (enter_scope s) v b → (outer : List Scope) → Inside w s outer
      → RoomFor (house_of t v b (s ∷ outer))
      → RoomFor (leave_house (underscored (table_of t)) (house_of t v b (s ∷ outer)) (house_of t v b (s ∷ outer)).above)
      → house_of t (leave_words t v b s) (leave_scope t v b s) outer
      ≡ leave_house (underscored (table_of t)) (house_of t v b (s ∷ outer)) (house_of t v b (s ∷ outer)).above
  pub closed : {w : List ℕ} {s : Scope} → Fits w s → Inside w s [] → RoomFor (house_of t w s []) → length (closing t (house_of t w s [])) ≤ 1024
      → out_of t (closed_of t w s).words (closed_of t w s).count ≡ closing t (house_of t w s [])
