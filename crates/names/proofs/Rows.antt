-- The loops over siblings: one node, then those after it. Assumes nothing.
use Prim.Native.Nat.{ℕ, suc, ◌+◌, ◌≤◌, ◌<◌}
use native.Mathlib.Omega.{arith}
use native.Mathlib.Numerals.{add-one}
use mathlib.Core.Path.{◌≡◌, refl, sym, ap, ◌∙◌}
use mathlib.Core.Bool.{Bool, true, false, cond}
use mathlib.Core.List.{List}
use Rattle.std.specs.Prelude.{Option}
use lib.Dec.{eqb}
use borrow.Author.Tests.{ne_eqb, le-leb, lt-leb}
use Rattle.tree.specs.Bytes.{pick, kind_at, role_at, size_at}
use Rattle.tree.specs.Forest.{Head, node_head, forest_of}
use Rattle.tree.specs.code.Part.{Part}
use Rattle.tree.specs.code.Find.{first_child}
use Rattle.tree.proofs.Laws.{later}
use Rattle.rules.specs.Visit.{has}
use Rattle.rules.specs.Order.{Cmd, Want, of_role, skip, ◌⨟◌, loop, valued, bare, fail_called}
use Rattle.rules.specs.Names.{stop_abort}
use Rattle.scope.specs.State.{abort_of, Fits}
use Rattle.scope.specs.Words.{with_abort}
use Rattle.scope.specs.declared.Abort.TheVariants.{Function}
use Rattle.names.specs.Walk.{Goes, Turns, Node, named_by, kids_of, want_of, wanted_of, names_of, visit_of, down_of, node_of, name_node, names_in, node_bind, node_use, clauses_of, first_clause, clause_of, fail_of}
use Rattle.scope.specs.declared.Scope.{Scope}
use Rattle.names.specs.declared.walk.Wanted.{Wanted}
use Rattle.names.proofs.Going.{skips, then, picks, goes_as, stop_to, loops_twice, loops_once}
use Rattle.names.proofs.Parts.{node_return, kids_held, node_in_part, visit_end, visit_next, down_visit, clauses_end, clauses_next, names_end, names_next, names_kids}

module _ {t : List ℕ} {d : ℕ} (f : ℕ) where
  pub visit_on : (a : Wanted) {c e : ℕ} → Part t c e → c < e → {w v x : List ℕ} {s q y : Scope}
      → Goes t d (pick (wanted_of t a c) (node_of t f c) skip) w s v q → Goes t d (visit_of t f (want_of a) (c + size_at t c) e) v q x y
      → Goes t d (visit_of t f (want_of a) c e) w s x y
  visit_on a {c} {e} p lt g h = goes_as (visit_next t f a p lt) (picks (wanted_of t a c) (node_of t f c) (visit_of t f (want_of a) (c + size_at t c) e) g h)

  pub visit_last : (a : Wanted) (c e : ℕ) → e ≤ c → {w : List ℕ} {s : Scope} → Fits w s → Goes t d (visit_of t f (want_of a) c e) w s w s
  visit_last a c e h g = goes_as (visit_end t f (want_of a) c e h) (skips g)

  pub clauses_on : {c e : ℕ} → Part t c e → c < e → {w v x : List ℕ} {s q y : Scope}
      → Goes t d (clause_of t f c) w s v q → Goes t d (clauses_of t f (c + size_at t c) e) v q x y → Goes t d (clauses_of t f c e) w s x y
  unfolding clause_of
  clauses_on {c} {e} p lt g h =
      goes_as (clauses_next t f p lt) (picks (eqb 0 (role_at t c)) (down_of t f (of_role 4) c ⨟ down_of t f (of_role 5) c ⨟ node_bind t 5 c) (clauses_of t f (c + size_at t c) e) g h)

  pub clauses_last : (c e : ℕ) → e ≤ c → {w : List ℕ} {s : Scope} → Fits w s → Goes t d (clauses_of t f c e) w s w s
  clauses_last c e h g = goes_as (clauses_end t f c e h) (skips g)

module _ {t : List ℕ} (r : ℕ) (u : Bool) {d : ℕ} where
  pub names_on : {c e : ℕ} → Part t c e → c < e → {w v x : List ℕ} {s q y : Scope}
      → Goes t d (pick (eqb r (role_at t c)) (name_node u t c) skip) w s v q → Goes t d (names_in u t r (c + size_at t c) e) v q x y → Goes t d (names_in u t r c e) w s x y
  names_on {c} {e} p lt g h = goes_as (names_next t r u p lt) (picks (eqb r (role_at t c)) (name_node u t c) (names_in u t r (c + size_at t c) e) g h)

  pub names_last : (c e : ℕ) → e ≤ c → {w : List ℕ} {s : Scope} → Fits w s → Goes t d (names_in u t r c e) w s w s
  names_last c e h g = goes_as (names_end t r u c e h) (skips g)

-- a node's own parts, by its size as read
module _ (t : List ℕ) (c z : ℕ) (q : z ≡ size_at t c) where
  pub kids_as : {d : ℕ} → Node t c d → Part t (c + 1) (c + z)
  kids_as n = rw q (kids_held n)

  pub down_as : (f : ℕ) (v : Want) → down_of t f v c ≡ visit_of t f v (c + 1) (c + z)
  down_as f v = rw q (down_visit t f v c)

  pub names_as : (r : ℕ) (u : Bool) → pick u (node_use t r c) (node_bind t r c) ≡ names_in u t r (c + 1) (c + z)
  names_as r u = rw q (names_kids t r u c)

  pub fail_as : (f : ℕ) {d : ℕ} {b : Bool} → Node t c d → (Part t (c + 1) (c + z) → b ≡ fail_called (named_by f) (forest_of t (c + 1) (c + z))) → b ≡ fail_of t f c
  unfolding fail_of kids_of
  fail_as f n h = (rw q at h) (kids_held n)

  pub kid_as : {x : Option ℕ} → x ≡ first_child t 0 (c + 1) (c + z) → x ≡ first_clause t c
  kid_as e = rw q at e

pub node_zero : {t : List ℕ} {c d : ℕ} → Node t c d → Node t c 0
node_zero n = record { part = n.part; some = n.some; deep = omega arith }

pub node_more : {t : List ℕ} {c d : ℕ} → Node t c d → (e : ℕ) → e ≤ c + 1 → Node t c e
node_more n e h = record { part = n.part; some = n.some; deep = h }

-- a node below node c
module _ {t : List ℕ} {c d x : ℕ} (n : Node t c d) (a : c < x) (b : x < c + size_at t c) where
  pub below_ends : x + size_at t x ≤ c + size_at t c
  below_ends = n.part.ends x (omega arith) b

  pub below_node : Node t x d
  below_node = node_in_part (later n.part (omega arith)) b (omega (arith, n.deep))

  pub below_rest : Part t (x + size_at t x) (c + size_at t c)
  below_rest = later n.part (omega arith)

-- tests
pub cond_true : {t : List ℕ} {d : ℕ} (y : Bool) → y ≡ true → (a b : Cmd) {w v : List ℕ} {s r : Scope} → Goes t d a w s v r → Goes t d (cond y a b) w s v r
cond_true y e a b g = rw e g

pub cond_false : {t : List ℕ} {d : ℕ} (y : Bool) → y ≡ false → (a b : Cmd) {w v : List ℕ} {s r : Scope} → Goes t d b w s v r → Goes t d (cond y a b) w s v r
cond_false y e a b g = rw e g

pub pick_true : {t : List ℕ} {d : ℕ} (y : Bool) → y ≡ true → (a b : Cmd) {w v : List ℕ} {s r : Scope} → Goes t d a w s v r → Goes t d (pick y a b) w s v r
pick_true y e a b g = rw e g

pub pick_false : {t : List ℕ} {d : ℕ} (y : Bool) → y ≡ false → (a b : Cmd) {w v : List ℕ} {s r : Scope} → Goes t d b w s v r → Goes t d (pick y a b) w s v r
pick_false y e a b g = rw e g

pub return_abort : (b : Bool) (x : Head) → abort_of Function ≡ stop_abort (cond b valued (bare x))
return_abort true x = refl
return_abort false x = refl

module _ (t : List ℕ) (f i : ℕ) where
  pub clause_none : (role_at t i ≡ 0 → ⊥) → clause_of t f i ≡ skip
  unfolding clause_of
  clause_none h = rw (ne_eqb 0 (role_at t i) (λ z. h (sym z)))

  pub clause_there : role_at t i ≡ 0 → clause_of t f i ≡ (down_of t f (of_role 4) i ⨟ down_of t f (of_role 5) i ⨟ node_bind t 5 i)
  unfolding clause_of
  clause_there h = rw h

-- the same steps, grouped as 01's order has them
pub regroup : {t : List ℕ} {d : ℕ} {a b c : Cmd} {w v : List ℕ} {s r : Scope} → Goes t d ((a ⨟ b) ⨟ c) w s v r → Goes t d (a ⨟ b ⨟ c) w s v r
regroup g =
    record {
      does = record {
        fits = g.does.fits;
        kept = g.does.kept;
        house = λ outer i p. g.does.house outer i ((p.0, p.1.0), p.1.1);
      };
    }

-- d + 1, as the code has it
module _ {t : List ℕ} {d : ℕ} {c : Cmd} where
  pub loop_twice : d + 1 ≤ 5 → {w v x : List ℕ} {s q r : Scope} → Turns t (d + 1) c w s v q → Turns t (d + 1) c v q x r → Goes t d (loop c) w s x r
  loop_twice h g k = loops_twice (le-leb (suc d) 5 (omega arith)) (rw add-one at g) (rw add-one at k)

  pub loop_once : 5 < d + 1 → {w v : List ℕ} {s r : Scope} → Turns t (d + 1) c w s v r → Goes t d (loop c) w s v r
  loop_once h g = loops_once (lt-leb (suc d) 5 (omega arith)) (rw add-one at g)

-- a return
pub return_node : (t : List ℕ) (f c : ℕ) → kind_at t c ≡ 4 → {d : ℕ} {w v : List ℕ} {s q r : Scope} → Goes t d (down_of t f (of_role 4) c) w s v q → r ≡ with_abort Function q
    → Goes t d (node_of t f c) w s v r
return_node t f c k g e =
    goes_as (node_return t f c k)
    (then g (stop_to (cond (has 4 (kids_of t c)) valued (bare (node_head t c))) Function (return_abort (has 4 (kids_of t c)) (node_head t c)) e g.does.fits))

pub name_so : {k m : ℕ} {b y : Bool} → k ≡ m → b ≡ names_of k → b ≡ y → names_of m ≡ y
name_so e h q = ap names_of (sym e) ∙ sym h ∙ q
