-- Demand 3, the names half: what a walk keeps and what it flags.
use Prim.Native.Nat.{ℕ, suc}
use mathlib.Core.Path.{◌≡◌, refl, ◌∙◌}
use mathlib.Core.Bool.{Bool, true, false}
use mathlib.Core.List.{List, [], ◌∷◌}
use lib.Dec.{leb}
use Rattle.tree.specs.Forest.{Spot}
use Rattle.rules.specs.Order.{Cmd, skip, ◌⨟◌, use_of, set_of, stop, branch, loop, scope}
use Rattle.rules.specs.Names.{Standing, absent, maybe, definitely, Scope, State, Search, Found, nowhere, surely, perhaps, stands, search_step, search_out, use_out, use_as, branch_of, round, rounds, same_state, leave_to, enter, walk}

-- a scope further out keeps what it holds, but for the used pairs and the unbound uses
pub record Same (a b : Scope) : Type 0 where
  pub cant : a.cant ≡ b.cant
  pub settings : a.settings ≡ b.settings
  pub standing : a.standing ≡ b.standing
  pub abort : a.abort ≡ b.abort

pub data Kept : List Scope → List Scope → Type 0 where
  kept_nil : Kept [] []
  kept_cons : {a b : Scope} {ps qs : List Scope} → Same a b → Kept ps qs → Kept (a ∷ ps) (b ∷ qs)

same_refl : (a : Scope) → Same a a
same_refl a = record { cant = refl; settings = refl; standing = refl; abort = refl }

same_trans : {a b c : Scope} → Same a b → Same b c → Same a c
same_trans p q = record {
  cant = p.cant ∙ q.cant;
  settings = p.settings ∙ q.settings;
  standing = p.standing ∙ q.standing;
  abort = p.abort ∙ q.abort;
}

kept_refl : (cs : List Scope) → Kept cs cs
kept_refl [] = kept_nil
kept_refl (c ∷ cs) = kept_cons (same_refl c) (kept_refl cs)

kept_trans : {xs ys zs : List Scope} → Kept xs ys → Kept ys zs → Kept xs zs
kept_trans kept_nil kept_nil = kept_nil
kept_trans (kept_cons p ps) (kept_cons q qs) = kept_cons (same_trans p q) (kept_trans ps qs)

step_keeps : (x : ℕ) (c : Scope) (cs : List Scope) (r : Search) → Kept cs r.scopes → (z : Standing)
    → Kept (c ∷ cs) (search_step x c cs r z).scopes
step_keeps x c cs r k absent = kept_cons (same_refl c) k
step_keeps x c cs r k (maybe ss) = kept_cons (record { cant = refl; settings = refl; standing = refl; abort = refl }) (kept_refl cs)
step_keeps x c cs r k (definitely ss) = kept_cons (record { cant = refl; settings = refl; standing = refl; abort = refl }) (kept_refl cs)

search_keeps : (x : ℕ) (cs : List Scope) → Kept cs (search_out x cs).scopes
search_keeps x [] = kept_nil
search_keeps x (c ∷ cs) = step_keeps x c cs (search_out x cs) (search_keeps x cs) (c.standing x)

-- what a step keeps of the scopes further out
abbrev Keeps : (State → State) → Type 0
Keeps f = (st : State) → Kept st.above (f st).above

out_keeps : (s : Spot) (st : State) (r : Search) → Kept st.above r.scopes → (f : Found) → Kept st.above (use_out s st r f).above
out_keeps s st r k nowhere = k
out_keeps s st r k surely = k
out_keeps s st r k perhaps = k

as_keeps : (s : Spot) (st : State) (z : Standing) → Kept st.above (use_as s st z).above
as_keeps s st absent = let r = search_out s.value st.above in out_keeps s st r (search_keeps s.value st.above) r.found
as_keeps s st (maybe ss) = kept_refl st.above
as_keeps s st (definitely ss) = kept_refl st.above

branch_keeps : (f g : State → State) → Keeps f → Keeps g → Keeps (branch_of f g)
branch_keeps f g kf kg st = kept_trans (kf st) (kg (record {
  here = stands st.here.standing st.here.abort (f st).here;
  above = (f st).above;
  out = (f st).out;
}))

round_keeps : (f : State → State) → Keeps f → Keeps (round f)
round_keeps f kf st = branch_keeps f same_state kf (λ t. kept_refl t.above) st

rounds_keeps : (b : Bool) (f : State → State) → Keeps f → Keeps (rounds b f)
rounds_keeps true f kf st = kept_trans (round_keeps f kf st) (round_keeps f kf (round f st))
rounds_keeps false f kf st = round_keeps f kf st

leave_keeps : (u : ℕ → Bool) (c : Scope) (cs ds : List Scope) (st : State) → Kept (c ∷ cs) ds → Kept cs (leave_to u st ds).above
leave_keeps u c cs ds st (kept_cons p ps) = ps

leave_same : (u : ℕ → Bool) (c : Scope) (cs ds : List Scope) (st : State) → Kept (c ∷ cs) ds → Same c (leave_to u st ds).here
leave_same u c cs ds st (kept_cons p ps) = record { cant = p.cant; settings = p.settings; standing = p.standing; abort = p.abort }

module _ (u : ℕ → Bool) where
  pub walk_keeps : (c : Cmd) (d : ℕ) → Keeps (walk u d c)
  walk_keeps skip d st = kept_refl st.above
  walk_keeps (a ⨟ b) d st = kept_trans (walk_keeps a d st) (walk_keeps b d (walk u d a st))
  walk_keeps (use_of h) d st = as_keeps h.spot st (st.here.standing h.spot.value)
  walk_keeps (set_of o h) d st = kept_refl st.above
  walk_keeps (stop w) d st = kept_refl st.above
  walk_keeps (branch a b) d st = branch_keeps (walk u d a) (walk u d b) (walk_keeps a d) (walk_keeps b d) st
  walk_keeps (loop c) d st = rounds_keeps (leb (suc d) 5) (walk u (suc d) c) (walk_keeps c (suc d)) st
  walk_keeps (scope c) d st = leave_keeps u st.here st.above (walk u d c (enter st)).above (walk u d c (enter st))
      (walk_keeps c d (enter st))

  pub scope_same : (c : Cmd) (d : ℕ) (st : State) → Same st.here (walk u d (scope c) st).here
  scope_same c d st = leave_same u st.here st.above (walk u d c (enter st)).above (walk u d c (enter st)) (walk_keeps c d (enter st))
