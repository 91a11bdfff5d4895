-- What the walk meets among siblings: what the first has met, by its row, then the rest. Assumes nothing.
use Prim.Native.Nat.{ℕ}
use mathlib.Core.Path.{◌≡◌, refl, sym, ap₂, ◌∙◌}
use mathlib.Core.Bool.{Bool, true, false, cond}
use mathlib.Core.List.{List, [], ◌∷◌, ◌++◌, append-nil, append_assoc}
use lib.Dec.{eqb}
use Rattle.tree.specs.Bytes.{pick}
use Rattle.tree.specs.Forest.{Head, Forest, none, node}
use Rattle.rules.specs.Names.{met}
use Rattle.rules.specs.Order.{Cmd, skip, ◌⨟◌, stop, fails, Form, form_of, Bind, one, several, nothing, bind_of, Want, of_role, every, first_over, first_bound, clauses, picked, bind_part, binds, use_part, uses, part, step as order_step, takes}
use Rattle.meeting.specs.Asked.{Ask, visits, names, no_ask, never, ask_of, asked_as, asked, wanted, after, form_row, bind_row, row, below, run, step}

both_met : (b : Bool) (a c d e : Cmd) → met a ≡ met c → met d ≡ met e → met (picked b a d) ≡ met (picked b c e)
both_met true a c d e p q = ap₂ ◌++◌ p q
both_met false a c d e p q = q

used_part : (b : Bind) (h : Head) (k : Forest) → ((r : ℕ) → met (uses r k) ≡ met (binds r k))
    → met (use_part b h (λ v. uses v k)) ≡ met (bind_part b h (λ v. binds v k))
used_part (one o) h k f = refl
used_part several h k f = f 0
used_part nothing h k f = refl

-- the names that siblings bind are met as uses as they are where they are set
pub uses_met : (f : Forest) (r : ℕ) → met (uses r f) ≡ met (binds r f)
uses_met none r = refl
uses_met (node h k s) r = both_met (eqb r h.role) _ _ _ _ (used_part (bind_of h) h k (uses_met k)) (uses_met s r)

fails_met : (b : Bool) → met (cond b (stop fails) skip) ≡ []
fails_met true = refl
fails_met false = refl

-- a node of each form has met what its row says; down: the visit of its children
part_met : (p : ℕ → Bool) (z : Form) (h : Head) (k : Forest) (down : Want → Cmd) → ((v : Want) → met (down v) ≡ asked_as (visits v) k)
    → met (part p z h k down) ≡ run (form_row z) h k
unfolding asked_as asked ask_of below run form_row
part_met p Form.breaking h k down d = refl
part_met p Form.returning h k down d = simp d
part_met p Form.expression h k down d = simp (d, fails_met)
part_met p Form.assign h k down d = simp (d, append-nil)
part_met p Form.modify h k down d = simp (d, append-nil, uses_met)
part_met p Form.statements h k down d = simp (d, append-nil)
part_met p Form.if h k down d = simp (d, append-nil)
part_met p Form.if_else h k down d = simp (d, append-nil)
part_met p Form.for h k down d = simp (d, append-nil)
part_met p Form.def h k down d = simp (d, append-nil)
part_met p Form.load h k down d = simp append-nil
part_met p Form.identifier h k down d = refl
part_met p Form.lambda h k down d = simp (d, append-nil)
part_met p Form.comprehension h k down d = simp (d, append-nil)
part_met p Form.plain h k down d = simp (d, append-nil)

names_met : (b : Bind) (h : Head) (k : Forest) → met (bind_part b h (λ v. binds v k)) ≡ run (bind_row b) h k
unfolding asked_as asked ask_of below run bind_row
names_met (one o) h k = refl
names_met several h k = simp append-nil
names_met nothing h k = refl

chosen : (b : Bool) (a c : Cmd) {x y : List Head} → met a ≡ x → met c ≡ y → met (picked b a c) ≡ pick b x [] ++ y
chosen true a c p q = ap₂ ◌++◌ p q
chosen false a c p q = q

-- what is asked of the siblings stays, where a clause does not change it
kept : (q : Ask) (b : Bool) → after q true ≡ q → after q b ≡ q
unfolding after
kept q true e = e
kept q false e = refl

module _ (p : ℕ → Bool) (h : Head) (k s : Forest) (down on : Want → Cmd) (d : (v : Want) → met (down v) ≡ asked_as (visits v) k)
    (o : (v : Want) → met (on v) ≡ asked_as (visits v) s) where
  over_met : (b : Bool) → met (elim b as (λ x. Cmd) [ false ↦ on first_over | true ↦ down (of_role 4) ])
      ≡ pick b (run (4 ∷ []) h k) [] ++ asked_as (after (visits first_over) b) s
  unfolding asked_as asked ask_of below run after
  over_met true = simp (d, append-nil)
  over_met false = o first_over

  bound_met : (b : Bool) → met (elim b as (λ x. Cmd) [ false ↦ on first_bound | true ↦ down (of_role 5) ⨟ binds 5 k ⨟ on clauses ])
      ≡ pick b (run (5 ∷ 21 ∷ []) h k) [] ++ asked_as (after (visits first_bound) b) s
  unfolding asked_as asked ask_of below run after
  bound_met true = simp (d, o, append-nil, append_assoc)
  bound_met false = o first_bound

  clause_met : met (down (of_role 4) ⨟ down (of_role 5) ⨟ binds 5 k) ≡ run (4 ∷ 5 ∷ 21 ∷ []) h k
  unfolding asked_as asked ask_of below run
  clause_met = simp (d, append-nil)

  step_met : (v : Want) → met (order_step p v h k down on) ≡ step (visits v) h k ++ asked_as (after (visits v) (eqb 0 h.role)) s
  unfolding step wanted row after
  step_met (of_role r) =
      rw (kept (visits (of_role r)) (eqb 0 h.role) refl)
      (chosen (eqb r h.role) (part p (form_of h) h k down) (on (of_role r)) (part_met p (form_of h) h k down d) (o (of_role r)))
  step_met every = rw (kept (visits every) (eqb 0 h.role) refl) (ap₂ ◌++◌ (part_met p (form_of h) h k down d) (o every))
  step_met first_over = over_met (eqb 0 h.role)
  step_met first_bound = bound_met (eqb 0 h.role)
  step_met clauses =
      rw (kept (visits clauses) (eqb 0 h.role) refl)
      (chosen (eqb 0 h.role) (down (of_role 4) ⨟ down (of_role 5) ⨟ binds 5 k) (on clauses) clause_met (o clauses))

pub siblings : (q : Ask) (h : Head) (k s : Forest) → asked_as q (node h k s) ≡ step q h k ++ asked_as (after q (eqb 0 h.role)) s
unfolding asked_as step wanted row after
siblings (visits v) h k s = step_met never h k s (λ u. takes never u k) (λ u. takes never u s) (λ u. refl) (λ u. refl) v
siblings (names r) h k s =
    rw (kept (names r) (eqb 0 h.role) refl)
    (chosen (eqb r h.role) (bind_part (bind_of h) h (λ v. binds v k)) (binds r s) (names_met (bind_of h) h k) refl)
siblings no_ask h k s = rw (kept no_ask (eqb 0 h.role) refl)

pub no_siblings : (q : Ask) → asked_as q none ≡ []
unfolding asked_as
no_siblings (visits v) = refl
no_siblings (names r) = refl
no_siblings no_ask = refl

never_met : (p : ℕ → Bool) (f : Forest) (v : Want) → met (takes p v f) ≡ asked_as (visits v) f
unfolding asked_as
never_met p none v = refl
never_met p (node h k s) v =
    step_met p h k s (λ u. takes p u k) (λ u. takes p u s) (never_met p k) (never_met p s) v
    ∙ sym (siblings (visits v) h k s)

-- what the walk meets does not depend on which calls are of fail
pub met_any : (p q : ℕ → Bool) (v : Want) (f : Forest) → met (takes p v f) ≡ met (takes q v f)
met_any p q v f = never_met p f v ∙ sym (never_met q f v)
