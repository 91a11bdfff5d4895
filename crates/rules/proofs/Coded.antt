-- The codes of names' warnings: 1 to 4 and 6 before the globals are asked, then 5. Assumes nothing.
use Prim.Native.Nat.{ℕ, suc}
use mathlib.Core.Bool.{Bool, true, false, not}
use mathlib.Core.List.{List, [], ◌∷◌}
use mathlib.Core.Option.{Option, none, some}
use lib.Dec.{leb}
use Rattle.tree.specs.Forest.{Spot, Forest}
use Rattle.rules.specs.Record.{Each}
use Rattle.rules.specs.Order.{Sort, Cmd, skip, ◌⨟◌, use_of, set_of, stop, branch, loop, scope, body}
use Rattle.rules.specs.Names.{Standing, absent, maybe, definitely, Setting, set_names, Scope, fresh, Warning, State, warned, warn_new, warn, warn_if, warn_all, Found, nowhere, surely, perhaps, Search, search_out, use_out, use_as, back_to, branch_of, same_state, round, rounds, unused, spared, idle, farewell, enter, passed, leave_to, undefined, walk, names}
use Rattle.rules.proofs.Each.{join}

-- P holds of 1 to 4 and of 6
module _ (P : ℕ → Type 0) (set : (o : Sort) → P (unused o)) (four : P 4) (six : P 6) where
  abbrev pub Coded : List Warning → Type 0
  Coded ws = Each (λ w. P w.code) ws

  coded_new : (c : ℕ) (s : Spot) (ws : List Warning) (b : Bool) → P c → Coded ws → Coded (warn_new c s ws b)
  coded_new c s ws true k h = h
  coded_new c s ws false k h = join (λ w. P w.code) ws (record { code = c; spot = s } ∷ []) h (k, tt)

  coded_warn : (c : ℕ) (s : Spot) (ws : List Warning) → P c → Coded ws → Coded (warn c s ws)
  coded_warn c s ws k h = coded_new c s ws (warned s ws) k h

  coded_if : (b : Bool) (c : ℕ) (s : Spot) (ws : List Warning) → P c → Coded ws → Coded (warn_if b c s ws)
  coded_if true c s ws k h = coded_warn c s ws k h
  coded_if false c s ws k h = h

  coded_all : (c : ℕ) (q : Spot → Bool) (l : List Spot) (ws : List Warning) → P c → Coded ws → Coded (warn_all c q l ws)
  coded_all c q [] ws k h = h
  coded_all c q (s ∷ l) ws k h = coded_all c q l (warn_if (q s) c s ws) k (coded_if (q s) c s ws k h)

  coded_idle : (u : ℕ → Bool) (top : Bool) (c : Scope) (es : List Setting) (ws : List Warning) → Coded ws → Coded (idle u top c es ws)
  coded_idle u top c [] ws h = h
  coded_idle u top c (e ∷ es) ws h =
      coded_idle u top c es (warn_if (not (spared u top c e)) (unused e.sort) e.spot ws)
      (coded_if (not (spared u top c e)) (unused e.sort) e.spot ws (set e.sort) h)

  coded_farewell : (u : ℕ → Bool) (top : Bool) (c : Scope) (ws : List Warning) → Coded ws → Coded (farewell u top c ws)
  coded_farewell u top c ws h =
      coded_idle u top c c.settings (warn_all 4 (λ s. set_names s.value c.settings) c.cant ws)
      (coded_all 4 (λ s. set_names s.value c.settings) c.cant ws four h)

  -- ---- the walk keeps to such codes

  abbrev Keeps : State → Type 0
  Keeps st = Coded st.out

  abbrev Stays : (State → State) → Type 0
  Stays f = (st : State) → Keeps st → Keeps (f st)

  keeps_out : (s : Spot) (st : State) (r : Search) (f : Found) → Keeps st → Keeps (use_out s st r f)
  keeps_out s st r nowhere h = h
  keeps_out s st r surely h = h
  keeps_out s st r perhaps h = coded_warn 6 s st.out six h

  keeps_use : (s : Spot) (st : State) (z : Standing) → Keeps st → Keeps (use_as s st z)
  keeps_use s st absent h = let r = search_out s.value st.above in keeps_out s st r r.found h
  keeps_use s st (maybe ss) h = coded_warn 6 s st.out six h
  keeps_use s st (definitely ss) h = h

  keeps_branch : (f g : State → State) → Stays f → Stays g → Stays (branch_of f g)
  keeps_branch f g a b st h = b (back_to st (f st)) (a st h)

  keeps_round : (f : State → State) → Stays f → Stays (round f)
  keeps_round f a st h = keeps_branch f same_state a (λ x y. y) st h

  keeps_rounds : (b : Bool) (f : State → State) → Stays f → Stays (rounds b f)
  keeps_rounds true f a st h = keeps_round f a (round f st) (keeps_round f a st h)
  keeps_rounds false f a st h = keeps_round f a st h

  keeps_leave : (u : ℕ → Bool) (st : State) (cs : List Scope) → Keeps st → Keeps (leave_to u st cs)
  keeps_leave u st [] h = h
  keeps_leave u st (c ∷ cs) h = coded_farewell u false st.here st.out h

  keeps_walk : (u : ℕ → Bool) (c : Cmd) (d : ℕ) → Stays (walk u d c)
  keeps_walk u skip d st h = h
  keeps_walk u (a ⨟ b) d st h = keeps_walk u b d (walk u d a st) (keeps_walk u a d st h)
  keeps_walk u (use_of x) d st h = keeps_use x.spot st (st.here.standing x.spot.value) h
  keeps_walk u (set_of o x) d st h = h
  keeps_walk u (stop w) d st h = h
  keeps_walk u (branch a b) d st h = keeps_branch (walk u d a) (walk u d b) (keeps_walk u a d) (keeps_walk u b d) st h
  keeps_walk u (loop c) d st h = keeps_rounds (leb (suc d) 5) (walk u (suc d) c) (keeps_walk u c (suc d)) st h
  keeps_walk u (scope c) d st h =
      keeps_leave u (walk u d c (enter st)) (walk u d c (enter st)).above (keeps_walk u c d (enter st) h)

  -- the walk of a command from the module's start
  abbrev pub after : (ℕ → Bool) → Cmd → State
  after u c = walk u 0 c (record { here = fresh; above = []; out = [] })

  -- THE CODES before the globals are asked
  pub set_codes : (u : ℕ → Bool) (c : Cmd) → Coded (farewell u true (after u c).here (after u c).out)
  set_codes u c = coded_farewell u true (after u c).here (after u c).out (keeps_walk u c 0 (record { here = fresh; above = []; out = [] }) tt)

  coded_undefined : P 5 → (g : Option (ℕ → Bool)) (c : Scope) (ws : List Warning) → Coded ws → Coded (undefined g c ws)
  coded_undefined five none c ws h = h
  coded_undefined five (some given) c ws h = coded_all 5 (λ s. not (given s.value)) (passed c) ws five h

  -- ALL CODES of names, where P holds of 5 too
  pub names_codes : P 5 → (u is_fail : ℕ → Bool) (g : Option (ℕ → Bool)) (f : Forest) → Coded (names u is_fail g f)
  names_codes five u is_fail g f =
      let st = after u (body is_fail f) in
      coded_undefined five g st.here (farewell u true st.here st.out) (set_codes u (body is_fail f))
