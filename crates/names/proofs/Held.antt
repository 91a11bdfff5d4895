-- The methods do what the walk needs. Assumes nothing.
use Prim.Native.Nat.{ℕ, ◌≤◌, ◌<◌}
use native.Mathlib.Omega.{arith}
use mathlib.Core.Path.{◌≡◌}
use mathlib.Core.List.{List, [], ◌∷◌}
use lib.ListN.{length}
use Rattle.tree.specs.Forest.{node_head}
use Rattle.rules.specs.code.Marks.{House}
use Rattle.scope.specs.State.{base_in, room_of, rooms_of, out_of, house_of, Fits, Kept}
use Rattle.scope.specs.Words.{enter_scope, closed_of}
use Rattle.scope.specs.Does.{Does, RoomFor}
use Rattle.scope.specs.declared.Scope.{Scope}
use Rattle.scope.proofs.Kept.{fits_over, inside_over}
use Rattle.names.proofs.Methods.{Methods, closing}
use Rattle.scope.proofs.Sides.{back_house, join_fits, join_below, join_house}
use Rattle.scope.proofs.Sets.{set_does}
use Rattle.scope.proofs.Uses.{used_does}
use Rattle.scope.proofs.Passing as passing
use Rattle.scope.proofs.Closing.{closed_warns}

-- asked for less
weaker : {t : List ℕ} {P Q : House → Type 0} {f : House → House} {w v : List ℕ} {s r : Scope} → ((m : House) → Q m → P m) → Does t P f w s v r → Does t Q f w s v r
weaker to d = record { fits = d.fits; kept = d.kept; house = λ outer i q. d.house outer i (to _ q) }

-- the scope outside, once the one inside has gone through
module _ {w v : List ℕ} {s b : Scope} (f : Fits w s) (g : Fits v b) (k : Kept w (enter_scope s) v b) where
  outside : Fits v s
  unfolding enter_scope
  outside = fits_over g.words k.bases f

  loose : b.loose ≡ s.looses
  unfolding enter_scope
  loose = k.loose

  bases : (j : ℕ) → j < s.first → base_in v j ≡ base_in w j
  unfolding enter_scope
  bases j h = k.bases j (omega (arith, f.first))

left_out : (t v : List ℕ) (b s : Scope) (outer : List Scope) → RoomFor (Rattle.rules.specs.code.Marks.leave_house (Rattle.tree.specs.Table.underscored (Rattle.tree.specs.Table.table_of t)) (house_of t v b (s ∷ outer)) (house_of t v b (s ∷ outer)).above)
    → length (Rattle.rules.specs.code.Marks.farewell_room (Rattle.tree.specs.Table.underscored (Rattle.tree.specs.Table.table_of t)) (mathlib.Core.Bool.Bool.false) (room_of t v b) (out_of t v b.warnings)) ≤ 1024
unfolding house_of rooms_of
left_out t v b s outer p = p.3

closes : (t w : List ℕ) (s : Scope) → Fits w s → length (closing t (house_of t w s [])) ≤ 1024
    → out_of t (closed_of t w s).words (closed_of t w s).count ≡ closing t (house_of t w s [])
unfolding house_of
closes t w s f few = (closed_warns t w s f).list few

pub methods : (t : List ℕ) → Methods t
unfolding node_head
methods t =
    record {
      set = λ d w s i f h. record { does = weaker (λ m p. p.1) (set_does t w s i f) };
      used = λ d w s i f h. record { does = weaker (λ m p. p.1) (used_does t w s i f) };
      back = back_house t;
      join_fits = join_fits;
      join_below = join_below;
      join = join_house t;
      leave_fits = λ {w} {v} {s} {b} f g k. passing.leave_fits t v b s g (outside f g k) (loose f g k);
      leave_kept = λ {w} {v} {s} {b} f g k. passing.leave_kept t v b s g (outside f g k) (loose f g k) w (bases f g k);
      leave = λ {w} {v} {s} {b} f g k outer i p q.
          passing.leave_house_is t v b s g (outside f g k) (loose f g k) outer (inside_over outer w v s g.words (bases f g k) i) (left_out t v b s outer q);
      closed = λ {w} {s} f i p few. closes t w s f few;
    }
