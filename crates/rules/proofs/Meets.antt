-- The nodes that the names walk meets are those that hold a name. Assumes nothing.
use Prim.Native.Nat.{ℕ}
use mathlib.Core.Bool.{Bool, true, false, cond}
use mathlib.Core.List.{[], ◌∷◌, ◌++◌}
use mathlib.Core.Logic.{◌⊎◌, inl, inr}
use lib.Dec.{eqb, T}
use Rattle.tree.specs.Forest.{Head, Forest, Forest.none as leaf, node}
use Rattle.rules.specs.Record.{Each}
use Rattle.rules.specs.Order.{Cmd, skip, ◌⨟◌, stop, fails, Form, form_of, Bind, one, several, nothing, bind_of, bind_part, use_part, binds, uses, picked, Want, of_role, every, first_over, first_bound, clauses, part, takes, fail_called}
use Rattle.rules.specs.Names.{met}
use Rattle.rules.proofs.Look.{case}
use Rattle.rules.proofs.Each.{join}

-- ---- the nodes met

abbrev pub is_identifier : Form → Bool
is_identifier z = case z ((Form.identifier, true) ∷ []) false

abbrev pub is_one : Bind → Bool
is_one (one o) = true
is_one several = false
is_one nothing = false

-- what holds of each node of a forest that is an identifier or binds one name
module _ (P : Head → Type 0) where
  abbrev pub Within : Forest → Type 0
  Within leaf = Unit {0}
  Within (node h k s) = ((T (is_identifier (form_of h)) → P h) × (T (is_one (bind_of h)) → P h)) × (Within k × Within s)

  pick_met : (b : Bool) (x y : Cmd) → Each P (met x) → Each P (met y) → Each P (met (picked b x y))
  pick_met false x y g h = h
  pick_met true x y g h = join P (met x) (met y) g h

  bind_met : (z : Bind) (h : Head) (down : ℕ → Cmd) → (T (is_one z) → P h) → Each P (met (down 0)) → Each P (met (bind_part z h down))
  bind_met (one o) h down t g = (t tt, tt)
  bind_met several h down t g = g
  bind_met nothing h down t g = tt

  pub binds_met : (r : ℕ) (f : Forest) → Within f → Each P (met (binds r f))
  binds_met r leaf w = tt
  binds_met r (node h k s) w =
      pick_met (eqb r h.role) (bind_part (bind_of h) h (λ v. binds v k)) (binds r s)
      (bind_met (bind_of h) h (λ v. binds v k) w.0.1 (binds_met 0 k w.1.0)) (binds_met r s w.1.1)

  use_met : (z : Bind) (h : Head) (down : ℕ → Cmd) → (T (is_one z) → P h) → Each P (met (down 0)) → Each P (met (use_part z h down))
  use_met (one o) h down t g = (t tt, tt)
  use_met several h down t g = g
  use_met nothing h down t g = tt

  uses_met : (r : ℕ) (f : Forest) → Within f → Each P (met (uses r f))
  uses_met r leaf w = tt
  uses_met r (node h k s) w =
      pick_met (eqb r h.role) (use_part (bind_of h) h (λ v. uses v k)) (uses r s)
      (use_met (bind_of h) h (λ v. uses v k) w.0.1 (uses_met 0 k w.1.0)) (uses_met r s w.1.1)

  fail_met : (b : Bool) → Each P (met (cond b (stop fails) skip))
  fail_met true = tt
  fail_met false = tt

  two_met : (a b : Cmd) → Each P (met a) → Each P (met b) → Each P (met a ++ met b)
  two_met a b p q = join P (met a) (met b) p q

  module _ (is_fail : ℕ → Bool) where
    part_met : (z : Form) (h : Head) (k : Forest) → (T (is_identifier z) → P h) → Within k → ((v : Want) → Each P (met (takes is_fail v k)))
        → Each P (met (part is_fail z h k (λ v. takes is_fail v k)))
    part_met Form.breaking h k t w c = tt
    part_met Form.returning h k t w c = two_met (takes is_fail (of_role 4) k) skip (c (of_role 4)) tt
    part_met Form.expression h k t w c =
        two_met (takes is_fail (of_role 4) k) (cond (fail_called is_fail k) (stop fails) skip) (c (of_role 4)) (fail_met (fail_called is_fail k))
    part_met Form.assign h k t w c =
        join P (met (takes is_fail (of_role 3) k)) _ (c (of_role 3)) (join P (met (takes is_fail (of_role 4) k)) _ (c (of_role 4))
        (join P (met (takes is_fail (of_role 5) k)) _ (c (of_role 5)) (binds_met 5 k w)))
    part_met Form.modify h k t w c =
        join P (met (takes is_fail (of_role 4) k)) _ (c (of_role 4)) (join P (met (takes is_fail (of_role 5) k)) _ (c (of_role 5))
        (join P (met (uses 5 k)) _ (uses_met 5 k w)
        (join P (met (takes is_fail (of_role 5) k)) _ (c (of_role 5)) (binds_met 5 k w))))
    part_met Form.statements h k t w c = c (of_role 0)
    part_met Form.if h k t w c =
        join P (met (takes is_fail (of_role 4) k)) _ (c (of_role 4)) (join P (met (takes is_fail (of_role 1) k)) [] (c (of_role 1)) tt)
    part_met Form.if_else h k t w c =
        join P (met (takes is_fail (of_role 4) k)) _ (c (of_role 4)) (join P (met (takes is_fail (of_role 1) k)) _ (c (of_role 1)) (c (of_role 2)))
    part_met Form.for h k t w c =
        join P (met (takes is_fail (of_role 4) k)) _ (c (of_role 4)) (join P (met (takes is_fail (of_role 5) k)) _ (c (of_role 5))
        (join P (met (binds 5 k)) _ (binds_met 5 k w) (c (of_role 1))))
    part_met Form.def h k t w c =
        join P (met (takes is_fail (of_role 0) k)) _ (c (of_role 0)) (join P (met (takes is_fail (of_role 3) k)) _ (c (of_role 3))
        (join P (met (binds 6 k)) _ (binds_met 6 k w) (join P (met (binds 0 k)) _ (binds_met 0 k w) (c (of_role 1)))))
    part_met Form.load h k t w c = binds_met 0 k w
    part_met Form.identifier h k t w c = (t tt, tt)
    part_met Form.lambda h k t w c =
        join P (met (takes is_fail (of_role 0) k)) _ (c (of_role 0)) (join P (met (binds 0 k)) _ (binds_met 0 k w) (c (of_role 1)))
    part_met Form.comprehension h k t w c =
        join P (met (takes is_fail first_over k)) _ (c first_over) (join P (met (takes is_fail first_bound k)) _ (c first_bound)
        (join P (met (takes is_fail (of_role 8) k)) _ (c (of_role 8)) (c (of_role 4))))
    part_met Form.plain h k t w c = c every

    over_met : (b : Bool) (x y : Cmd) → Each P (met x) → Each P (met y) → Each P (met (elim b as (λ z. Cmd) [ false ↦ y | true ↦ x ]))
    over_met true x y g h = g
    over_met false x y g h = h

    step_met : (v : Want) (h : Head) (k s : Forest) → Each P (met (part is_fail (form_of h) h k (λ v. takes is_fail v k))) → Within k
        → ((v : Want) → Each P (met (takes is_fail v k))) → ((v : Want) → Each P (met (takes is_fail v s)))
        → Each P (met (takes is_fail v (node h k s)))
    step_met (of_role r) h k s a w c d = pick_met (eqb r h.role) (part is_fail (form_of h) h k (λ v. takes is_fail v k))
        (takes is_fail (of_role r) s) a (d (of_role r))
    step_met every h k s a w c d = join P (met (part is_fail (form_of h) h k (λ v. takes is_fail v k))) _ a (d every)
    step_met first_over h k s a w c d = over_met (eqb 0 h.role) (takes is_fail (of_role 4) k) (takes is_fail first_over s) (c (of_role 4))
        (d first_over)
    step_met first_bound h k s a w c d =
        over_met (eqb 0 h.role) (takes is_fail (of_role 5) k ⨟ binds 5 k ⨟ takes is_fail clauses s) (takes is_fail first_bound s)
        (join P (met (takes is_fail (of_role 5) k)) _ (c (of_role 5)) (join P (met (binds 5 k)) _ (binds_met 5 k w) (d clauses)))
        (d first_bound)
    step_met clauses h k s a w c d =
        pick_met (eqb 0 h.role) (takes is_fail (of_role 4) k ⨟ takes is_fail (of_role 5) k ⨟ binds 5 k) (takes is_fail clauses s)
        (join P (met (takes is_fail (of_role 4) k)) _ (c (of_role 4)) (join P (met (takes is_fail (of_role 5) k)) _ (c (of_role 5)) (binds_met 5 k w)))
        (d clauses)

    -- what holds of those nodes holds of each node that is met
    pub takes_met : (f : Forest) → Within f → (v : Want) → Each P (met (takes is_fail v f))
    takes_met leaf w v = tt
    takes_met (node h k s) w v =
        step_met v h k s (part_met (form_of h) h k w.0.0 w.1.0 (takes_met k w.1.0)) w.1.0 (takes_met k w.1.0)
        (takes_met s w.1.1)

-- a node of a forest that is an identifier or binds one name
pub data Holder (h : Head) : Forest → Type 0 where
  at : {k s : Forest} → T (is_identifier (form_of h)) ⊎ T (is_one (bind_of h)) → Holder h (node h k s)
  below : {g : Head} {k s : Forest} → Holder h k → Holder h (node g k s)
  beside : {g : Head} {k s : Forest} → Holder h s → Holder h (node g k s)

within_more : (P Q : Head → Type 0) → ((h : Head) → P h → Q h) → (f : Forest) → Within P f → Within Q f
within_more P Q to leaf w = tt
within_more P Q to (node h k s) w = (
  ((λ t. to h (w.0.0 t)), (λ t. to h (w.0.1 t))),
  (within_more P Q to k w.1.0, within_more P Q to s w.1.1),
)

holders : (f : Forest) → Within (λ h. Holder h f) f
holders leaf = tt
holders (node g k s) = (
  ((λ t. at (inl t)), (λ t. at (inr t))),
  (
    within_more (λ h. Holder h k) (λ h. Holder h (node g k s)) (λ h n. below n) k (holders k),
    within_more (λ h. Holder h s) (λ h. Holder h (node g k s)) (λ h n. beside n) s (holders s),
  ),
)

-- what the walk meets in a forest are such nodes of it
pub met_holders : (is_fail : ℕ → Bool) (v : Want) (f : Forest) → Each (λ h. Holder h f) (met (takes is_fail v f))
met_holders is_fail v f = takes_met (λ h. Holder h f) is_fail f (holders f) v

pub bound_holders : (r : ℕ) (f : Forest) → Each (λ h. Holder h f) (met (binds r f))
bound_holders r f = binds_met (λ h. Holder h f) r f (holders f)
