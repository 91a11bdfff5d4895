-- Demand 3: the runs of a module's or a def's body. They go over the commands that the names pass takes (Order), so the
-- parts of a statement are taken in 01's order by construction; "every condition and loop count" falls as it may.
-- "A call of fail never finishing": no run finishes the statement fail(..), while the uses in it are reached. Of a call of fail
-- inside another expression, and of a use of a name that isn't set, the commands say nothing: here are runs that go on after it,
-- more than the letter's, so the theorem is stronger. Of a conditional expression, of and-, or-expressions, all parts are taken: an expression
-- sets no name of the body and cuts nothing short, so a run that skips a part reaches no use that isn't reached here with the
-- same names set. Assumes nothing.
use Rattle.std.specs.Prelude.{ℕ, ◌≡◌, Bool, true, false, ◌||◌, not, eqb, T}
use Rattle.tree.specs.Forest.{Head, Forest, node}
use Rattle.rules.specs.Order.{Stop, Broken, the_loop, the_round, Sort, Cmd, breaks, bare, valued, fails, skip, ◌⨟◌, use_of, set_of, stop, branch, loop, scope, body, def_body}

-- a node of a forest, with its children
pub data Node (h : Head) (k : Forest) : Forest → Type 0 where
  at : {s : Forest} → Node h k (node h k s)
  below : {g : Head} {j s : Forest} → Node h k j → Node h k (node g j s)
  beside : {g : Head} {j s : Forest} → Node h k s → Node h k (node g j s)

-- "a module or def body": the module's, or that of a def (kind 12) wherever it stands
pub data Body (is_fail : ℕ → Bool) (f : Forest) : Cmd → Type 0 where
  of_module : Body is_fail f (body is_fail f)
  of_def : {h : Head} {k : Forest} → Node h k f → h.kind ≡ 12 → Body is_fail f (def_body is_fail k)

-- "its own names": those that a body sets outside its nested scopes
abbrev pub own : ℕ → Cmd → Bool
own x skip = false
own x (a ⨟ b) = own x a || own x b
own x (use_of h) = false
own x (set_of o h) = eqb x h.spot.value
own x (stop w) = false
own x (branch a b) = own x a || own x b
own x (loop c) = own x c
own x (scope c) = false

-- the names set so far in the body's own scope
abbrev pub Held : Type 0
Held = ℕ → Bool

abbrev pub nobody : Held
nobody x = false

abbrev pub hold : Head → Held → Held
hold h σ x = eqb x h.spot.value || σ x

-- how a run of a part ends: it comes to the part's end, or it is cut short by a break, a continue or a return (never by fails)
pub data End : Type 0 where
  through : End
  by : Stop → End

abbrev pub is_return : Stop → Bool
is_return (breaks b) = false
is_return (bare h) = true
is_return valued = true
is_return fails = false

-- A run of a part, from the names set before it to those set after it.
pub data Run : Cmd → Held → End → Held → Type 0 where
  skips : {σ : Held} → Run skip σ through σ
  next : {a b : Cmd} {σ τ υ : Held} {e : End} → Run a σ through τ → Run b τ e υ → Run (a ⨟ b) σ e υ
  cut : {a b : Cmd} {σ τ : Held} {w : Stop} → Run a σ (by w) τ → Run (a ⨟ b) σ (by w) τ
  uses : {h : Head} {σ : Held} → Run (use_of h) σ through σ
  sets : {o : Sort} {h : Head} {σ : Held} → Run (set_of o h) σ through (hold h σ)
  -- break, continue and return cut short; fail isn't among them
  breaking : {b : Broken} {σ : Held} → Run (stop (breaks b)) σ (by (breaks b)) σ
  returns : {w : Stop} {σ : Held} → T (is_return w) → Run (stop w) σ (by w) σ
  left : {a b : Cmd} {σ τ : Held} {e : End} → Run a σ e τ → Run (branch a b) σ e τ
  right : {a b : Cmd} {σ τ : Held} {e : End} → Run b σ e τ → Run (branch a b) σ e τ
  -- a loop: no round more; a round and on; continue ends the round, and on; break ends the loop; return ends the body
  done : {c : Cmd} {σ : Held} → Run (loop c) σ through σ
  round : {c : Cmd} {σ τ υ : Held} {e : End} → Run c σ through τ → Run (loop c) τ e υ → Run (loop c) σ e υ
  continues : {c : Cmd} {σ τ υ : Held} {e : End} → Run c σ (by (breaks the_round)) τ → Run (loop c) τ e υ → Run (loop c) σ e υ
  out : {c : Cmd} {σ τ : Held} → Run c σ (by (breaks the_loop)) τ → Run (loop c) σ through τ
  away : {c : Cmd} {σ τ : Held} {w : Stop} → T (is_return w) → Run c σ (by w) τ → Run (loop c) σ (by w) τ
  -- the body of a nested def, lambda or comprehension isn't of the body's own scope
  apart : {c : Cmd} {σ : Held} → Run (scope c) σ through σ

-- A run of a part, with the names of σ set before it, reaches the use at the node h before the name there was set.
pub data Reach (h : Head) : Cmd → Held → Type 0 where
  here : {σ : Held} → T (not (σ h.spot.value)) → Reach h (use_of h) σ
  first : {a b : Cmd} {σ : Held} → Reach h a σ → Reach h (a ⨟ b) σ
  second : {a b : Cmd} {σ τ : Held} → Run a σ through τ → Reach h b τ → Reach h (a ⨟ b) σ
  left : {a b : Cmd} {σ : Held} → Reach h a σ → Reach h (branch a b) σ
  right : {a b : Cmd} {σ : Held} → Reach h b σ → Reach h (branch a b) σ
  now : {c : Cmd} {σ : Held} → Reach h c σ → Reach h (loop c) σ
  later : {c : Cmd} {σ τ : Held} → Run c σ through τ → Reach h (loop c) τ → Reach h (loop c) σ
  continued : {c : Cmd} {σ τ : Held} → Run c σ (by (breaks the_round)) τ → Reach h (loop c) τ → Reach h (loop c) σ
