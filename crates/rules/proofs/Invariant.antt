-- Demand 3, the names half: where a run can come, the walk goes on, and it holds no name Definitely that the run has not set.
use Prim.Native.Nat.{ℕ, suc}
use mathlib.Core.Path.{◌≡◌, refl, sym, ◌∙◌, ap, subst}
use mathlib.Core.Bool.{Bool, true, false, ◌||◌, cond}
use lib.Dec.{eqb, leb, T}
use Rattle.tree.specs.Forest.{Spot}
use Rattle.rules.specs.Order.{Cmd}
use Rattle.rules.specs.Names.{back_to, Abort, no_abort, loop_abort, function_abort, aborts, smaller, unloop, Standing, absent, maybe, definitely, sure, spots, stand_if, join, join_sure, has_standing, State, Search, Found, nowhere, surely, perhaps, search_out, use_out, use_as, branch_of, round, rounds, same_state, walk, same}
use Rattle.rules.specs.Runs.{Held, End, through, Run, skips, next, cut, uses, sets, breaking, returns, left, right, done, round as goes, continues, out, away, apart}
use Rattle.rules.proofs.Bools.{or_right}
use Rattle.rules.proofs.Keep.{scope_same}

abbrev pub Within : Held → Held → Type 0
Within σ τ = (x : ℕ) → T (σ x) → T (τ x)

-- a run unsets no name
pub grows : {c : Cmd} {σ τ : Held} {e : End} → Run c σ e τ → Within σ τ
grows skips x t = t
grows (next r q) x t = grows q x (grows r x t)
grows (cut r) x t = grows r x t
grows uses x t = t
grows (sets {h = h} {σ = σ}) x t = or_right (eqb x h.spot.value) (σ x) t
grows breaking x t = t
grows (returns w) x t = t
grows (left r) x t = grows r x t
grows (right r) x t = grows r x t
grows done x t = t
grows (goes r q) x t = grows q x (grows r x t)
grows (continues r q) x t = grows q x (grows r x t)
grows (out r) x t = grows r x t
grows (away w r) x t = grows r x t
grows apart x t = t

-- THE INVARIANT, of a state that a run comes to with the names of σ set
pub record Ok (σ : Held) (st : State) : Type 0 where
  pub alive : st.here.abort ≡ no_abort
  pub known : (x : ℕ) → T (sure (st.here.standing x)) → T (σ x)

pub ok_within : {σ τ : Held} {st : State} → Within σ τ → Ok σ st → Ok τ st
ok_within w o = record { alive = o.alive; known = λ x t. w x (o.known x t) }

-- a state whose innermost scope has the same standings and abort
ok_same : {σ : Held} {a b : State} → a.here.standing ≡ b.here.standing → a.here.abort ≡ b.here.abort → Ok σ a → Ok σ b
ok_same {σ} {a} {b} p q o = record {
  alive = sym q ∙ o.alive;
  known = λ x t. o.known x
      (subst (λ (f : ℕ → Standing). T (sure (f x))) (sym p) t);
}

out_standing : (s : Spot) (st : State) (r : Search) (f : Found)
    → (st.here.standing ≡ (use_out s st r f).here.standing) × (st.here.abort ≡ (use_out s st r f).here.abort)
out_standing s st r nowhere = (refl, refl)
out_standing s st r surely = (refl, refl)
out_standing s st r perhaps = (refl, refl)

use_standing : (s : Spot) (st : State) (z : Standing)
    → (st.here.standing ≡ (use_as s st z).here.standing) × (st.here.abort ≡ (use_as s st z).here.abort)
use_standing s st absent = let r = search_out s.value st.above in out_standing s st r r.found
use_standing s st (maybe ss) = (refl, refl)
use_standing s st (definitely ss) = (refl, refl)

-- setting a name
set_known : (b h : Bool) (z : Standing) (f : Spot → Bool) → (T (sure z) → T h) → T (sure (cond b (definitely f) z)) → T (b || h)
set_known true h z f k t = tt
set_known false h z f k t = k t

-- joining two sides
sure_joined : (h b : Bool) (f : Spot → Bool) → T (sure (stand_if h b f)) → T b
sure_joined true true f t = tt
sure_joined true false f t = t
sure_joined false b f t = absurd t

join_one : (b x y : Bool) → T (join_sure false b x y) → T x
join_one true x y t = t
join_one false true y t = tt
join_one false false y t = t

join_two : (a x y : Bool) → T (join_sure a false x y) → T y
join_two true x y t = t
join_two false true y t = t
join_two false false y t = absurd t

sure_one : (b : Abort) (x y : Standing) → T (sure (join no_abort b x y)) → T (sure x)
sure_one b x y t = join_one (aborts b) (sure x) (sure y)
    (sure_joined (has_standing x || has_standing y) (join_sure false (aborts b) (sure x) (sure y)) (λ s. spots x s || spots y s) t)

sure_two : (a : Abort) (x y : Standing) → T (sure (join a no_abort x y)) → T (sure y)
sure_two a x y t = join_two (aborts a) (sure x) (sure y)
    (sure_joined (has_standing x || has_standing y) (join_sure (aborts a) false (sure x) (sure y)) (λ s. spots x s || spots y s) t)

smaller_none : (a : Abort) → smaller a no_abort ≡ no_abort
smaller_none no_abort = refl
smaller_none loop_abort = refl
smaller_none function_abort = refl

pub ok_back : {σ : Held} (st one : State) → Ok σ st → Ok σ (back_to st one)
ok_back st one o = record { alive = o.alive; known = o.known }

ok_left : {τ : Held} (f g : State → State) (st : State) → Ok τ (f st) → Ok τ (branch_of f g st)
ok_left f g st o = record {
  alive = subst (λ (a : Abort). smaller a (g (back_to st (f st))).here.abort ≡ no_abort) (sym o.alive) refl;
  known = λ x t. o.known x (sure_one (g (back_to st (f st))).here.abort ((f st).here.standing x) ((g (back_to st (f st))).here.standing x)
      (subst (λ (a : Abort). T (sure (join a (g (back_to st (f st))).here.abort ((f st).here.standing x)
      ((g (back_to st (f st))).here.standing x)))) o.alive t));
}

ok_right : {τ : Held} (f g : State → State) (st : State) → Ok τ (g (back_to st (f st))) → Ok τ (branch_of f g st)
ok_right f g st o = record {
  alive = subst (λ (a : Abort). smaller (f st).here.abort a ≡ no_abort) (sym o.alive) (smaller_none (f st).here.abort);
  known = λ x t. o.known x (sure_two (f st).here.abort ((f st).here.standing x) ((g (back_to st (f st))).here.standing x)
      (subst (λ (a : Abort). T (sure (join (f st).here.abort a ((f st).here.standing x) ((g (back_to st (f st))).here.standing x))))
      o.alive t));
}

-- a round of a loop, whatever its body does
pub ok_round : {σ : Held} (f : State → State) (st : State) → Ok σ st → Ok σ (round f st)
ok_round f st o = let b = ok_right f same_state st (ok_back st (f st) o) in
    record { alive = ap unloop b.alive; known = b.known }

pub ok_rounds : {σ : Held} (k : Bool) (f : State → State) (st : State) → Ok σ st → Ok σ (rounds k f st)
ok_rounds true f st o = ok_round f (round f st) (ok_round f st o)
ok_rounds false f st o = ok_round f st o

module _ (u : ℕ → Bool) where
  -- where a run comes through, the invariant does
  pub sound : {c : Cmd} {σ τ : Held} → Run c σ through τ → (d : ℕ) (st : State) → Ok σ st → Ok τ (walk u d c st)
  sound skips d st o = o
  sound (next {a = a} r q) d st o = sound q d (walk u d a st) (sound r d st o)
  sound (uses {h = h}) d st o = let e = use_standing h.spot st (st.here.standing h.spot.value) in ok_same e.0 e.1 o
  sound (sets {o = k} {h = h} {σ = σ}) d st o = record {
    alive = o.alive;
    known = λ x t. set_known (eqb x h.spot.value) (σ x) (st.here.standing x) (same h.spot) (o.known x) t;
  }
  sound (left {a = a} {b = b} r) d st o = ok_left (walk u d a) (walk u d b) st (sound r d st o)
  sound (right {a = a} {b = b} r) d st o = ok_right (walk u d a) (walk u d b) st
      (sound r d (back_to st (walk u d a st)) (ok_back st (walk u d a st) o))
  sound (done {c = c}) d st o = ok_rounds (leb (suc d) 5) (walk u (suc d) c) st o
  sound (goes {c = c} r q) d st o = ok_within (λ x t. grows q x (grows r x t)) (ok_rounds (leb (suc d) 5) (walk u (suc d) c) st o)
  sound (continues {c = c} r q) d st o = ok_within (λ x t. grows q x (grows r x t)) (ok_rounds (leb (suc d) 5) (walk u (suc d) c) st o)
  sound (out {c = c} r) d st o = ok_within (grows r) (ok_rounds (leb (suc d) 5) (walk u (suc d) c) st o)
  sound (apart {c = c}) d st o = let e = scope_same u c d st in ok_same e.standing e.abort o
