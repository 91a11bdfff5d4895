-- Two tests for the name fail that agree on the values of a tree have the pass do the same. Assumes nothing.
use Prim.{Unit, tt}
use Prim.Native.Nat.{ℕ}
use mathlib.Core.Path.{◌≡◌, refl, ap, ap₂, fun_ext}
use mathlib.Core.Bool.{Bool, cond, ◌&&◌, ◌||◌}
use mathlib.Core.List.{List}
use lib.Dec.{eqb}
use Rattle.tree.specs.Bytes.{value_at}
use Rattle.tree.specs.Forest.{Head, Forest, none, node, node_spot, node_head, forest_of}
use Rattle.tree.specs.code.Part.{Part}
use Rattle.tree.proofs.Laws.{forest_none, forest_node, induct}
use Rattle.rules.specs.Order.{Cmd, skip, ◌⨟◌, stop, fails, Form, picked, part, form_of, step, takes, fail_named, fail_called, Want, of_role, every, first_over, first_bound, clauses}

module _ (P Q : ℕ → Bool) where
  abbrev Alike : Forest → Type 0
  Alike none = Unit {0}
  Alike (node h k s) = (P h.spot.value ≡ Q h.spot.value) × (Alike k × Alike s)

  named_alike : (x : Forest) → Alike x → fail_named P x ≡ fail_named Q x
  named_alike none a = refl
  named_alike (node h k s) a = ap₂ ◌||◌ (ap (λ (b : Bool). eqb 7 h.role && (eqb 20 h.kind && b)) a.0) (named_alike s a.1.1)

  called_alike : (x : Forest) → Alike x → fail_called P x ≡ fail_called Q x
  called_alike none a = refl
  called_alike (node h k s) a = ap₂ ◌||◌ (ap (λ (b : Bool). eqb 4 h.role && (eqb 23 h.kind && b)) (named_alike k a.1.0)) (called_alike s a.1.1)

  part_alike : (z : Form) (h : Head) (k : Forest) (d e : Want → Cmd) → fail_called P k ≡ fail_called Q k → d ≡ e → part P z h k d ≡ part Q z h k e
  part_alike Form.breaking h k d e c q = refl
  part_alike Form.returning h k d e c q = ap (λ (f : Want → Cmd). part Q Form.returning h k f) q
  part_alike Form.expression h k d e c q = ap₂ (λ (f : Want → Cmd) (b : Bool). f (of_role 4) ⨟ cond b (stop fails) skip) q c
  part_alike Form.assign h k d e c q = ap (λ (f : Want → Cmd). part Q Form.assign h k f) q
  part_alike Form.modify h k d e c q = ap (λ (f : Want → Cmd). part Q Form.modify h k f) q
  part_alike Form.statements h k d e c q = ap (λ (f : Want → Cmd). part Q Form.statements h k f) q
  part_alike Form.if h k d e c q = ap (λ (f : Want → Cmd). part Q Form.if h k f) q
  part_alike Form.if_else h k d e c q = ap (λ (f : Want → Cmd). part Q Form.if_else h k f) q
  part_alike Form.for h k d e c q = ap (λ (f : Want → Cmd). part Q Form.for h k f) q
  part_alike Form.def h k d e c q = ap (λ (f : Want → Cmd). part Q Form.def h k f) q
  part_alike Form.load h k d e c q = refl
  part_alike Form.identifier h k d e c q = refl
  part_alike Form.lambda h k d e c q = ap (λ (f : Want → Cmd). part Q Form.lambda h k f) q
  part_alike Form.comprehension h k d e c q = ap (λ (f : Want → Cmd). part Q Form.comprehension h k f) q
  part_alike Form.plain h k d e c q = ap (λ (f : Want → Cmd). part Q Form.plain h k f) q

  step_alike : (w : Want) (h : Head) (k : Forest) (d e on off : Want → Cmd) → fail_called P k ≡ fail_called Q k → d ≡ e → on ≡ off → step P w h k d on ≡ step Q w h k e off
  step_alike (of_role r) h k d e on off c q p = ap₂ (picked (eqb r h.role)) (part_alike (form_of h) h k d e c q) (ap (λ (f : Want → Cmd). f (of_role r)) p)
  step_alike every h k d e on off c q p = ap₂ ◌⨟◌ (part_alike (form_of h) h k d e c q) (ap (λ (f : Want → Cmd). f every) p)
  step_alike first_over h k d e on off c q p = ap₂ (λ (f g : Want → Cmd). step Q first_over h k f g) q p
  step_alike first_bound h k d e on off c q p = ap₂ (λ (f g : Want → Cmd). step Q first_bound h k f g) q p
  step_alike clauses h k d e on off c q p = ap₂ (λ (f g : Want → Cmd). step Q clauses h k f g) q p

  takes_alike : (x : Forest) → Alike x → (w : Want) → takes P w x ≡ takes Q w x
  takes_alike none a w = refl
  takes_alike (node h k s) a w =
      step_alike w h k (λ v. takes P v k) (λ v. takes Q v k) (λ v. takes P v s) (λ v. takes Q v s) (called_alike k a.1.0)
      (fun_ext (λ v. takes_alike k a.1.0 v)) (fun_ext (λ v. takes_alike s a.1.1 v))

  alike_all : {t : List ℕ} → ((j : ℕ) → P (value_at t j) ≡ Q (value_at t j)) → {i e : ℕ} → Part t i e → Alike (forest_of t i e)
  unfolding node_head node_spot
  alike_all {t} same p = induct (λ i e. Alike (forest_of t i e)) t (λ i e h. rw (forest_none t i e h) tt) (λ i e p lt a b. rw (forest_node p lt) (same i, (a, b))) p

  -- THE LAW
  pub takes_same : {t : List ℕ} → ((j : ℕ) → P (value_at t j) ≡ Q (value_at t j)) → {i e : ℕ} → Part t i e → (w : Want) → takes P w (forest_of t i e) ≡ takes Q w (forest_of t i e)
  takes_same {t} same {i} {e} p w = takes_alike (forest_of t i e) (alike_all same p) w
