-- Two tests of value numbers that agree on every number a node can hold give the same list. Assumes nothing.
use Prim.Native.Nat.{ℕ, ◌<◌}
use mathlib.Core.Path.{◌≡◌, refl, ap, ap₂, ◌∙◌}
use mathlib.Core.Bool.{Bool, true, false, cond, ◌&&◌, ◌||◌, not}
use mathlib.Core.List.{List, [], ◌∷◌, ◌++◌}
use mathlib.Core.Option.{Option, none, some}
use lib.Dec.{eqb}
use Rattle.tree.specs.Forest.{Head, Forest, Forest.none as leaf, node}
use Rattle.tree.proofs.Fields.{Small, small_node}
use Rattle.rules.specs.Record.{Rec, listed}
use Rattle.rules.specs.Visit.{look, has, spot_at, last_of}
use Rattle.rules.specs.Order.{fail_named, fail_called}
use Rattle.rules.specs.Flow.{the_body, returns, first_valued, type_reason, reason, ends_part, ends, missing, bare_recs, check_for, check, returns_walk, Reached, Course, in_list, one_by_one, only, both, on_through, stopping, after_stop, reached_part, reached, redundant_walk, below_root, loads, effect_walk, flow}
use Rattle.rules.specs.Record.{or_else}

module _ (p q : ℕ → Bool) (agree : (v : ℕ) → v < 65536 → p v ≡ q v) where
  named_same : (f : Forest) → Small f → fail_named p f ≡ fail_named q f
  named_same leaf w = refl
  named_same (node h k s) (small_node a u v) =
      ap₂ (λ (x y : Bool). (eqb 7 h.role && (eqb 20 h.kind && x)) || y) (agree h.spot.value a) (named_same s v)

  called_same : (f : Forest) → Small f → fail_called p f ≡ fail_called q f
  called_same leaf w = refl
  called_same (node h k s) (small_node a u v) =
      ap₂ (λ (x y : Bool). (eqb 4 h.role && (eqb 23 h.kind && x)) || y) (named_same k u) (called_same s v)

  ends_part_same : (z : ℕ) (k : Forest) (down : ℕ → Bool) → fail_called p k ≡ fail_called q k → ends_part p z k down ≡ ends_part q z k down
  ends_part_same z k down e = ap (λ (b : Bool). look z ((4, true) ∷ (5, b) ∷ (8, down 0) ∷ (10, down 1 && down 2) ∷ []) false) e

  ends_same : (f : Forest) → Small f → (r : ℕ) → ends p r f ≡ ends q r f
  ends_same leaf w r = refl
  ends_same (node h k s) (small_node a u v) r =
      let down : ◌≡◌ {A = ℕ → Bool} (λ x. ends p x k) (λ x. ends q x k) = λ i x. ends_same k u x i in
      ap₂ (λ (x y : Bool). last_of (eqb r h.role) (has r s) x y)
      (ends_part_same h.kind k (λ x. ends p x k) (called_same k u) ∙ ap (ends_part q h.kind k) down)
      (ends_same s v r)

  reach_part_same : (z : ℕ) (k : Forest) (down : Course → Reached) → fail_called p k ≡ fail_called q k → reached_part p z k down ≡ reached_part q z k down
  reach_part_same z k down e =
      ap (λ (b : Bool). look z ((1, stopping true) ∷ (2, stopping true) ∷ (4, stopping true) ∷ (5, stopping b) ∷ (8, down in_list)
      ∷ (10, both (down (only 1)) (down (only 2))) ∷ []) (on_through (down one_by_one))) e

  reach_same : (f : Forest) → Small f → (m : Course) → reached p m f ≡ reached q m f
  reach_same leaf w m = refl
  reach_same (node h k s) (small_node a u v) m = go m (λ x. reach_same k u x) (λ x. reach_same s v x)
    where
      here : ((x : Course) → reached p x k ≡ reached q x k) → reached_part p h.kind k (λ x. reached p x k) ≡ reached_part q h.kind k (λ x. reached q x k)
      here f =
          let down : ◌≡◌ {A = Course → Reached} (λ x. reached p x k) (λ x. reached q x k) = λ i x. f x i in
          reach_part_same h.kind k (λ x. reached p x k) (called_same k u) ∙ ap (reached_part q h.kind k) down

      go : (m : Course) → ((x : Course) → reached p x k ≡ reached q x k) → ((x : Course) → reached p x s ≡ reached q x s) → reached p m (node h k s) ≡ reached q m (node h k s)
      go in_list f g =
          ap₂ (λ (x y : Reached). elim x.stops [
            | true ↦ record { stops = true; recs = x.recs ++ after_stop s }
            | false ↦ record { stops = y.stops; recs = x.recs ++ y.recs }
          ]) (here f) (g in_list)
      go one_by_one f g = ap₂ (λ (x y : Reached). record { stops = false; recs = x.recs ++ y.recs }) (here f) (g one_by_one)
      go (only r) f g = ap₂ (λ (x y : Reached). elim (eqb r h.role) [ true ↦ x | false ↦ y ]) (here f) (g (only r))

  type_same : (f : Forest) → Small f → type_reason p f ≡ type_reason q f
  type_same leaf w = refl
  type_same (node h k s) (small_node a u v) =
      ap₂ (λ (x : Bool) (y : Option Head). elim (eqb 3 h.role) [
        | false ↦ y
        | true ↦ cond (eqb 20 h.kind && x) none (some h)
      ]) (agree h.spot.value a) (type_same s v)

  reason_same : (f : Forest) → Small f → reason p f ≡ reason q f
  reason_same f w = ap (λ (x : Option Head). or_else x (first_valued (returns the_body f))) (type_same f w)

module _ (p q : ℕ → Bool) (agree : (v : ℕ) → v < 65536 → p v ≡ q v) (p' q' : ℕ → Bool) (agree' : (v : ℕ) → v < 65536 → p' v ≡ q' v) where
  for_same : (h : Head) (k : Forest) → Small k → (o : Option Head) → check_for p p' h k o ≡ check_for q q' h k o
  for_same h k w none = refl
  for_same h k w (some why) =
      ap (λ (x : Bool). listed (not x) (missing h (spot_at 6 k) why ∷ []) (bare_recs h (spot_at 6 k) why (returns the_body k))) (ends_same p q agree k w 1)

  check_same : (z : ℕ) (h : Head) (k : Forest) → Small k → check p p' z h k ≡ check q q' z h k
  check_same z h k w = ap (λ (l : List Rec). look z ((12, l) ∷ []) []) (for_same h k w (reason p' k) ∙ ap (check_for q q' h k) (reason_same p' q' agree' k w))

  walk_same : (f : Forest) → Small f → returns_walk p p' f ≡ returns_walk q q' f
  walk_same leaf w = refl
  walk_same (node h k s) (small_node a u v) =
      ap₂ (λ (x y : List Rec). x ++ y) (check_same h.kind h k u) (ap₂ (λ (x y : List Rec). x ++ y) (walk_same k u) (walk_same s v))

  pub flow_same : (is-string : ℕ → Bool) (f : Forest) → Small f → flow p p' is-string f ≡ flow q q' is-string f
  flow_same is-string f w =
      ap₂ (λ (x : List Rec) (y : Reached). x ++ (y.recs ++ (redundant_walk (below_root f) ++ ((loads is-string true f).recs ++ effect_walk is-string f))))
      (walk_same f w) (reach_same p q agree f w (only 0))
