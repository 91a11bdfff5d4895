-- The names walk with lists that hold no entry twice: the same warnings, in the same order.
use Prim.Native.Nat.{ℕ, suc}
use mathlib.Core.Path.{◌≡◌, refl, sym, ◌∙◌, ap, subst, fun_ext}
use mathlib.Core.Bool.{Bool, true, false, ◌||◌, ◌&&◌, not, cond}
use mathlib.Core.List.{List, [], ◌∷◌, ◌++◌}
use mathlib.Core.Option.{Option, none, some}
use lib.Dec.{eqb, leb, T}
use Rattle.tree.specs.Forest.{Spot}
use Rattle.rules.specs.Order.{Sort, Cmd, skip, ◌⨟◌, use_of, set_of, stop, branch, loop, scope}
use Rattle.rules.specs.Record.{keep}
use Rattle.rules.specs.Names.{stop_abort, Standing, absent, maybe, definitely, same, has_name, Setting, set_names, Scope, fresh, Warning, State, warned, warn_new, warn, warn_if, warn_all, set_at, mark, cannot, unbinds, stands, Found, nowhere, surely, perhaps, Search, search_step, search_out, use_out, use_as, branch_of, join, smaller, unloop, same_state, round, rounds, unused, spared_at, spared, idle, farewell, enter, passed, leave_to, walk, undefined, names_of}
use Rattle.rules.specs.code.Marks.{inside, add, adds, same_sort, same_setting}
use Rattle.rules.proofs.Once.{over, once, adds_append, over_adds, add_in, inside_adds, add_there}
use Rattle.rules.proofs.Bools.{so, or_left, or_right, or_case, and_left, and_right, both}
use Rattle.rules.proofs.Spots.{same_sound, same_exact}

-- equality of settings
sort_sound : (a b : Sort) → T (same_sort a b) → a ≡ b
sort_sound Sort.load Sort.load t = refl
sort_sound Sort.load Sort.assign t = absurd t
sort_sound Sort.load Sort.argument t = absurd t
sort_sound Sort.assign Sort.load t = absurd t
sort_sound Sort.assign Sort.assign t = refl
sort_sound Sort.assign Sort.argument t = absurd t
sort_sound Sort.argument Sort.load t = absurd t
sort_sound Sort.argument Sort.assign t = absurd t
sort_sound Sort.argument Sort.argument t = refl

sort_exact : (a : Sort) → T (same_sort a a)
sort_exact Sort.load = tt
sort_exact Sort.assign = tt
sort_exact Sort.argument = tt

pub setting_sound : (a b : Setting) → T (same_setting a b) → a ≡ b
setting_sound a b t =
    let p = sort_sound a.sort b.sort (and_left (same_sort a.sort b.sort) (same a.spot b.spot) t) in
    let q = same_sound a.spot b.spot (and_right (same_sort a.sort b.sort) (same a.spot b.spot) t) in
    λ i. record { sort = p i; spot = q i }

pub setting_exact : (a : Setting) → T (same_setting a a)
setting_exact a = both (same_sort a.sort a.sort) (same a.spot a.spot) (sort_exact a.sort) (same_exact a.spot)

-- the leaner steps: an entry joins a list only if it is not in it yet
abbrev pub set_lean : Sort → Spot → Scope → Scope
set_lean o s c = record {
  cant = c.cant;
  unbound = c.unbound;
  used = c.used;
  settings = add same_setting (record { sort = o; spot = s }) c.settings;
  standing = λ x. cond (eqb x s.value) (definitely (same s)) (c.standing x);
  abort = c.abort;
}

abbrev pub cannot_lean : Spot → Scope → Scope
cannot_lean s c = record {
  cant = add same s c.cant;
  unbound = c.unbound;
  used = c.used;
  settings = c.settings;
  standing = c.standing;
  abort = c.abort;
}

abbrev pub unbinds_lean : List Spot → Scope → Scope
unbinds_lean ss c = record {
  cant = c.cant;
  unbound = adds same ss c.unbound;
  used = c.used;
  settings = c.settings;
  standing = c.standing;
  abort = c.abort;
}

abbrev pub use_out_lean : Spot → State → Search → Found → State
use_out_lean s st r nowhere = record { here = unbinds_lean (s ∷ []) (cannot_lean s st.here); above = r.scopes; out = st.out }
use_out_lean s st r surely = record { here = cannot_lean s st.here; above = r.scopes; out = st.out }
use_out_lean s st r perhaps = record { here = cannot_lean s st.here; above = r.scopes; out = warn 6 s st.out }

abbrev pub use_as_lean : Spot → State → Standing → State
use_as_lean s st absent = let r = search_out s.value st.above in use_out_lean s st r r.found
use_as_lean s st (maybe ss) = record { here = mark s.value ss st.here; above = st.above; out = warn 6 s st.out }
use_as_lean s st (definitely ss) = record { here = mark s.value ss st.here; above = st.above; out = st.out }

abbrev pub leave_to_lean : (ℕ → Bool) → State → List Scope → State
leave_to_lean u st [] = st
leave_to_lean u st (c ∷ cs) = record { here = unbinds_lean (passed st.here) c; above = cs; out = farewell u false st.here st.out }

module _ (underscore : ℕ → Bool) where
  abbrev pub walk_lean : ℕ → Cmd → State → State
  walk_lean depth skip st = st
  walk_lean depth (a ⨟ b) st = walk_lean depth b (walk_lean depth a st)
  walk_lean depth (use_of h) st = use_as_lean h.spot st (st.here.standing h.spot.value)
  walk_lean depth (set_of o h) st = record { here = set_lean o h.spot st.here; above = st.above; out = st.out }
  walk_lean depth (stop why) st = record { here = stands st.here.standing (stop_abort why) st.here; above = st.above; out = st.out }
  walk_lean depth (branch a b) st = branch_of (walk_lean depth a) (walk_lean depth b) st
  walk_lean depth (loop c) st = rounds (leb (suc depth) 5) (walk_lean (suc depth) c) st
  walk_lean depth (scope c) st = let r = walk_lean depth c (enter st) in leave_to_lean underscore r r.above

  abbrev pub names_lean : Option (ℕ → Bool) → Cmd → List Warning
  names_lean globals m =
      let st = walk_lean 0 m (record { here = fresh; above = []; out = [] }) in
      undefined globals st.here (farewell underscore true st.here st.out)

-- A scope, and a state, without the repeats: what the leaner walk holds where the walk holds c, or st.
abbrev pub slim : Scope → Scope
slim c = record {
  cant = once same c.cant;
  unbound = once same c.unbound;
  used = c.used;
  settings = once same_setting c.settings;
  standing = c.standing;
  abort = c.abort;
}

abbrev pub slims : List Scope → List Scope
slims [] = []
slims (c ∷ cs) = slim c ∷ slims cs

abbrev pub slimmed : State → State
slimmed st = record { here = slim st.here; above = slims st.above; out = st.out }

-- a name is among the entries
has_does : (q b : Bool) → T (not q || (b || q))
has_does true true = tt
has_does true false = tt
has_does false b = tt

has_stays : (q r b : Bool) → T (not q || b) → T (not q || (b || r))
has_stays true r true t = tt
has_stays true r false t = absurd t
has_stays false r b t = tt

has_idle : (q b : Bool) → T (not q || b) → b || q ≡ b
has_idle true true t = refl
has_idle true false t = absurd t
has_idle false true t = refl
has_idle false false t = refl

or_assoc : (a b c : Bool) → (a || b) || c ≡ a || (b || c)
or_assoc true b c = refl
or_assoc false b c = refl

named_over : (x : ℕ) (l : List Spot) (b : Bool) → over (λ (s : Spot) (r : Bool). r || eqb x s.value) l b ≡ b || has_name x l
named_over x [] true = refl
named_over x [] false = refl
named_over x (s ∷ ss) b = named_over x ss (b || eqb x s.value) ∙ or_assoc b (eqb x s.value) (has_name x ss)

set_over : (x : ℕ) (l : List Setting) (b : Bool) → over (λ (s : Setting) (r : Bool). r || eqb x s.spot.value) l b ≡ b || set_names x l
set_over x [] true = refl
set_over x [] false = refl
set_over x (s ∷ ss) b = set_over x ss (b || eqb x s.spot.value) ∙ or_assoc b (eqb x s.spot.value) (set_names x ss)

pub named_once : (x : ℕ) (l : List Spot) → has_name x (once same l) ≡ has_name x l
named_once x l = sym (named_over x (once same l) false)
    ∙ over_adds same same_sound same_exact (λ s r. r || eqb x s.value) (λ s b. T (not (eqb x s.value) || b))
    (λ s b. has_does (eqb x s.value) b) (λ s t b. has_stays (eqb x s.value) (eqb x t.value) b)
    (λ s b. has_idle (eqb x s.value) b) l [] false
    ∙ named_over x l false

pub set_once : (x : ℕ) (l : List Setting) → set_names x (once same_setting l) ≡ set_names x l
set_once x l = sym (set_over x (once same_setting l) false)
    ∙ over_adds same_setting setting_sound setting_exact (λ s r. r || eqb x s.spot.value) (λ s b. T (not (eqb x s.spot.value) || b))
    (λ s b. has_does (eqb x s.spot.value) b) (λ s t b. has_stays (eqb x s.spot.value) (eqb x t.spot.value) b)
    (λ s b. has_idle (eqb x s.spot.value) b) l [] false
    ∙ set_over x l false

-- warning again is warning once
warned_last : (s t : Spot) (c : ℕ) (ws : List Warning) → T (warned s ws) → T (warned s (ws ++ (record { code = c; spot = t } ∷ [])))
warned_last s t c [] h = absurd h
warned_last s t c (w ∷ ws) h = or_case (same s w.spot) (warned s ws)
    (or_left (same s w.spot) (warned s (ws ++ (record { code = c; spot = t } ∷ []))))
    (λ u. or_right (same s w.spot) (warned s (ws ++ (record { code = c; spot = t } ∷ []))) (warned_last s t c ws u)) h

last_warned : (s : Spot) (c : ℕ) (ws : List Warning) → T (warned s (ws ++ (record { code = c; spot = s } ∷ [])))
last_warned s c [] = or_left (same s s) false (same_exact s)
last_warned s c (w ∷ ws) = or_right (same s w.spot) (warned s (ws ++ (record { code = c; spot = s } ∷ []))) (last_warned s c ws)

warn_does : (s : Spot) (c : ℕ) (ws : List Warning) → T (warned s (warn c s ws))
warn_does s c ws = go (warned s ws) refl
  where
    go : (b : Bool) → warned s ws ≡ b → T (warned s (warn_new c s ws b))
    go true e = subst T (sym e) tt
    go false e = last_warned s c ws

new_stays : (s t : Spot) (c : ℕ) (ws : List Warning) (b : Bool) → T (warned s ws) → T (warned s (warn_new c t ws b))
new_stays s t c ws true h = h
new_stays s t c ws false h = warned_last s t c ws h

warn_stays : (q b : Bool) (s t : Spot) (c : ℕ) (ws : List Warning) → T (q || warned s ws) → T (q || warned s (warn_if b c t ws))
warn_stays true b s t c ws h = tt
warn_stays false true s t c ws h = new_stays s t c ws (warned t ws) h
warn_stays false false s t c ws h = h

if_does : (q : Bool) (s : Spot) (c : ℕ) (ws : List Warning) → T (not q || warned s (warn_if q c s ws))
if_does true s c ws = warn_does s c ws
if_does false s c ws = tt

if_idle : (q : Bool) (s : Spot) (c : ℕ) (ws : List Warning) → T (not q || warned s ws) → warn_if q c s ws ≡ ws
if_idle true s c ws h = ap (warn_new c s ws) (so (warned s ws) h)
if_idle false s c ws h = refl

module _ {A : Type 0} (eq : A → A → Bool) (sound : (a b : A) → T (eq a b) → a ≡ b) (exact : (a : A) → T (eq a a)) (q : A → Bool) (code : A
    → ℕ) (at : A → Spot) where
  warns_once : (l : List A) (ws : List Warning) → over (λ a w. warn_if (q a) (code a) (at a) w) (once eq l) ws ≡ over
      (λ a w. warn_if (q a) (code a) (at a) w) l ws
  warns_once l ws = over_adds eq sound exact (λ a w. warn_if (q a) (code a) (at a) w) (λ a w. T (not (q a) || warned (at a) w))
      (λ a w. if_does (q a) (at a) (code a) w) (λ a b w. warn_stays (not (q a)) (q b) (at a) (at b) (code b) w)
      (λ a w. if_idle (q a) (at a) (code a) w) l [] ws

all_over : (c : ℕ) (p : Spot → Bool) (l : List Spot) (ws : List Warning) → warn_all c p l ws ≡ over (λ s w. warn_if (p s) c s w) l ws
all_over c p [] ws = refl
all_over c p (s ∷ ss) ws = all_over c p ss (warn_if (p s) c s ws)

pub all_once : (c : ℕ) (p : Spot → Bool) (l : List Spot) (ws : List Warning) → warn_all c p (once same l) ws ≡ warn_all c p l ws
all_once c p l ws = all_over c p (once same l) ws ∙ warns_once same same_sound same_exact p (λ s. c) (λ s. s) l ws ∙ sym (all_over c p l ws)

idle_over : (u : ℕ → Bool) (top : Bool) (c : Scope) (l : List Setting) (ws : List Warning)
    → idle u top c l ws ≡ over (λ e w. warn_if (not (spared u top c e)) (unused e.sort) e.spot w) l ws
idle_over u top c [] ws = refl
idle_over u top c (e ∷ es) ws = idle_over u top c es (warn_if (not (spared u top c e)) (unused e.sort) e.spot ws)

pub idle_once : (u : ℕ → Bool) (top : Bool) (c : Scope) (l : List Setting) (ws : List Warning)
    → idle u top c (once same_setting l) ws ≡ idle u top c l ws
idle_once u top c l ws = idle_over u top c (once same_setting l) ws
    ∙ warns_once same_setting setting_sound setting_exact (λ e. not (spared u top c e)) (λ e. unused e.sort) (λ e. e.spot) l ws
    ∙ sym (idle_over u top c l ws)

-- what is kept of a list, added to another or warned of
keep_test : (p : Spot → Bool) (s : Spot) (ss : List Spot) → keep p (s ∷ ss) ≡ cond (p s) (s ∷ keep p ss) (keep p ss)
keep_test p s ss = go (p s)
  where
    go : (b : Bool) → elim b as (λ x. List Spot) [ true ↦ s ∷ keep p ss | false ↦ keep p ss ] ≡ cond b (s ∷ keep p ss) (keep p ss)
    go true = refl
    go false = refl

adds_if : (b : Bool) (s : Spot) (ss l : List Spot) → adds same (cond b (s ∷ ss) ss) l ≡ adds same ss (cond b (add same s l) l)
adds_if true s ss l = refl
adds_if false s ss l = refl

all_if : (b : Bool) (c : ℕ) (q : Spot → Bool) (s : Spot) (ss : List Spot) (ws : List Warning)
    → warn_all c q (cond b (s ∷ ss) ss) ws ≡ warn_all c q ss (warn_if (b && q s) c s ws)
all_if true c q s ss ws = refl
all_if false c q s ss ws = refl

keep_over : (p : Spot → Bool) (ss l : List Spot) → adds same (keep p ss) l ≡ over (λ s k. cond (p s) (add same s k) k) ss l
keep_over p [] l = refl
keep_over p (s ∷ ss) l = ap (λ (k : List Spot). adds same k l) (keep_test p s ss) ∙ adds_if (p s) s (keep p ss) l
    ∙ keep_over p ss (cond (p s) (add same s l) l)

keep_all : (c : ℕ) (p q : Spot → Bool) (ss : List Spot) (ws : List Warning)
    → warn_all c q (keep p ss) ws ≡ warn_all c (λ s. p s && q s) ss ws
keep_all c p q [] ws = refl
keep_all c p q (s ∷ ss) ws = ap (λ (k : List Spot). warn_all c q k ws) (keep_test p s ss) ∙ all_if (p s) c q s (keep p ss) ws
    ∙ keep_all c p q ss (warn_if (p s && q s) c s ws)

add_does : (q : Bool) (s : Spot) (l : List Spot) → T (not q || inside same s (cond q (add same s l) l))
add_does true s l = add_in same same_sound same_exact s l
add_does false s l = tt

add_stays : (q r : Bool) (s t : Spot) (l : List Spot) → T (q || inside same s l) → T (q || inside same s (cond r (add same t l) l))
add_stays true r s t l h = tt
add_stays false true s t l h = inside_adds same s (t ∷ []) l h
add_stays false false s t l h = h

add_idle : (q : Bool) (s : Spot) (l : List Spot) → T (not q || inside same s l) → cond q (add same s l) l ≡ l
add_idle true s l h = add_there same s l h
add_idle false s l h = refl

pub keep_once : (p : Spot → Bool) (ss l : List Spot) → adds same (keep p (once same ss)) l ≡ adds same (keep p ss) l
keep_once p ss l = keep_over p (once same ss) l
    ∙ over_adds same same_sound same_exact (λ s k. cond (p s) (add same s k) k) (λ s k. T (not (p s) || inside same s k))
    (λ s k. add_does (p s) s k) (λ s t k. add_stays (not (p s)) (p t) s t k) (λ s k. add_idle (p s) s k) ss [] l
    ∙ sym (keep_over p ss l)

-- what leaving says
module _ (c : Scope) where
  set_slim : ◌≡◌ {A = Spot → Bool} (λ s. set_names s.value (slim c).settings) (λ s. set_names s.value c.settings)
  set_slim = fun_ext (λ s. set_once s.value c.settings)

  pub passed_slim : (l : List Spot) → adds same (passed (slim c)) l ≡ adds same (passed c) l
  passed_slim l = ap (λ (p : Spot → Bool). adds same (keep (λ s. not (p s)) (once same c.unbound)) l) set_slim
      ∙ keep_once (λ s. not (set_names s.value c.settings)) c.unbound l

  pub passed_warns : (k : ℕ) (q : Spot → Bool) (ws : List Warning) → warn_all k q (passed (slim c)) ws ≡ warn_all k q (passed c) ws
  passed_warns k q ws = ap (λ (p : Spot → Bool). warn_all k q (keep (λ s. not (p s)) (once same c.unbound)) ws) set_slim
      ∙ keep_all k (λ s. not (set_names s.value c.settings)) q (once same c.unbound) ws
      ∙ all_once k (λ s. not (set_names s.value c.settings) && q s) c.unbound ws
      ∙ sym (keep_all k (λ s. not (set_names s.value c.settings)) q c.unbound ws)

  spared_slim : (u : ℕ → Bool) (top : Bool) (e : Setting) → spared u top (slim c) e ≡ spared u top c e
  spared_slim u true e = ap (λ (b : Bool). c.used e.spot || (b || spared_at u true c e)) (named_once e.spot.value c.unbound)
  spared_slim u false e = ap (λ (b : Bool). c.used e.spot || (b || spared_at u false c e)) (named_once e.spot.value c.unbound)

  idle_slim : (u : ℕ → Bool) (top : Bool) (l : List Setting) (ws : List Warning) → idle u top (slim c) l ws ≡ idle u top c l ws
  idle_slim u top [] ws = refl
  idle_slim u top (e ∷ es) ws = idle_slim u top es (warn_if (not (spared u top (slim c) e)) (unused e.sort) e.spot ws)
      ∙ ap (λ (b : Bool). idle u top c es (warn_if (not b) (unused e.sort) e.spot ws)) (spared_slim u top e)

  pub farewell_slim : (u : ℕ → Bool) (top : Bool) (ws : List Warning) → farewell u top (slim c) ws ≡ farewell u top c ws
  farewell_slim u top ws =
      idle_slim u top (once same_setting c.settings) (warn_all 4 (λ s. set_names s.value (slim c).settings) (once same c.cant) ws)
      ∙ idle_once u top c c.settings (warn_all 4 (λ s. set_names s.value (slim c).settings) (once same c.cant) ws)
      ∙ ap (λ (p : Spot → Bool). idle u top c c.settings (warn_all 4 p (once same c.cant) ws)) set_slim
      ∙ ap (idle u top c c.settings) (all_once 4 (λ s. set_names s.value c.settings) c.cant ws)

-- one step
pub slim_cannot : (s : Spot) (c : Scope) → cannot_lean s (slim c) ≡ slim (cannot s c)
slim_cannot s c = let e = sym (adds_append same c.cant (s ∷ []) []) in
    λ i. record {
      cant = e i;
      unbound = (slim c).unbound;
      used = c.used;
      settings = (slim c).settings;
      standing = c.standing;
      abort = c.abort;
    }

pub slim_both : (s : Spot) (c : Scope) → unbinds_lean (s ∷ []) (cannot_lean s (slim c)) ≡ slim (unbinds (s ∷ []) (cannot s c))
slim_both s c = let e = sym (adds_append same c.cant (s ∷ []) []) in let f = sym (adds_append same c.unbound (s ∷ []) []) in
    λ i. record { cant = e i; unbound = f i; used = c.used; settings = (slim c).settings; standing = c.standing; abort = c.abort }

pub slim_set : (o : Sort) (s : Spot) (c : Scope) → set_lean o s (slim c) ≡ slim (set_at o s c)
slim_set o s c = let e = sym (adds_append same_setting c.settings (record { sort = o; spot = s } ∷ []) []) in
    λ i. record {
      cant = (slim c).cant;
      unbound = (slim c).unbound;
      used = c.used;
      settings = e i;
      standing = (set_at o s c).standing;
      abort = c.abort;
    }

pub slim_unbinds : (b c : Scope) → unbinds_lean (passed (slim b)) (slim c) ≡ slim (unbinds (passed b) c)
slim_unbinds b c = let e = passed_slim b (slim c).unbound ∙ sym (adds_append same c.unbound (passed b) []) in
    λ i. record {
      cant = (slim c).cant;
      unbound = e i;
      used = c.used;
      settings = (slim c).settings;
      standing = c.standing;
      abort = c.abort;
    }

-- the leaner walk from a slim state holds the slim of what the walk holds
search_slim_step : (x : ℕ) (c : Scope) (cs : List Scope) (r q : Search) → r.found ≡ q.found → r.scopes ≡ slims q.scopes
    → (z : Standing)
    → ((search_step x (slim c) (slims cs) r z).found ≡ (search_step x c cs q z).found) ×
    ((search_step x (slim c) (slims cs) r z).scopes ≡ slims (search_step x c cs q z).scopes)
search_slim_step x c cs r q e f absent = (e, ap (λ (l : List Scope). slim c ∷ l) f)
search_slim_step x c cs r q e f (maybe ss) = (refl, refl)
search_slim_step x c cs r q e f (definitely ss) = (refl, refl)

search_slim : (x : ℕ) (cs : List Scope) → ((search_out x (slims cs)).found ≡ (search_out x cs).found) ×
    ((search_out x (slims cs)).scopes ≡ slims (search_out x cs).scopes)
search_slim x [] = (refl, refl)
search_slim x (c ∷ cs) = let r = search_slim x cs in
    search_slim_step x c cs (search_out x (slims cs)) (search_out x cs) r.0 r.1 (c.standing x)

out_slim : (s : Spot) (st : State) (r q : Search) → r.scopes ≡ slims q.scopes → (f : Found)
    → use_out_lean s (slimmed st) r f ≡ slimmed (use_out s st q f)
out_slim s st r q e nowhere = λ i. record { here = slim_both s st.here i; above = e i; out = st.out }
out_slim s st r q e surely = λ i. record { here = slim_cannot s st.here i; above = e i; out = st.out }
out_slim s st r q e perhaps = λ i. record { here = slim_cannot s st.here i; above = e i; out = warn 6 s st.out }

as_slim : (s : Spot) (st : State) (z : Standing) → use_as_lean s (slimmed st) z ≡ slimmed (use_as s st z)
as_slim s st absent = let e = search_slim s.value st.above in let r = search_out s.value (slims st.above) in let q =
    search_out s.value st.above in
    ap (use_out_lean s (slimmed st) r) e.0 ∙ out_slim s st r q e.1 q.found
as_slim s st (maybe ss) = refl
as_slim s st (definitely ss) = refl

leave_slim : (u : ℕ → Bool) (st : State) (cs : List Scope) → leave_to_lean u (slimmed st) (slims cs) ≡ slimmed (leave_to u st cs)
leave_slim u st [] = refl
leave_slim u st (c ∷ cs) = λ i. record {
  here = slim_unbinds st.here c i;
  above = slims cs;
  out = farewell_slim st.here u false st.out i;
}

abbrev pub Slims : (State → State) → (State → State) → Type 0
Slims f g = (st : State) → f (slimmed st) ≡ slimmed (g st)

-- the second side's start, and what a branch leaves
abbrev pub middle : State → State → State
middle st one = record { here = stands st.here.standing st.here.abort one.here; above = one.above; out = one.out }

abbrev pub ended : State → State → State
ended one two = record {
  here = stands (λ x. join one.here.abort two.here.abort (one.here.standing x) (two.here.standing x))
      (smaller one.here.abort two.here.abort) two.here;
  above = two.above;
  out = two.out;
}

branch_slim : (f g h k : State → State) → Slims f h → Slims g k → Slims (branch_of f g) (branch_of h k)
branch_slim f g h k p q st = ap (λ (o : State). ended o (g (middle (slimmed st) o))) (p st)
    ∙ ap (ended (slimmed (h st))) (q (middle st (h st)))

round_slim : (f h : State → State) → Slims f h → Slims (round f) (round h)
round_slim f h p st = ap (λ (r : State). record {
  here = stands r.here.standing (unloop r.here.abort) r.here;
  above = r.above;
  out = r.out;
}) (branch_slim f same_state h same_state p (λ t. refl) st)

rounds_slim : (b : Bool) (f h : State → State) → Slims f h → Slims (rounds b f) (rounds b h)
rounds_slim true f h p st = ap (round f) (round_slim f h p st) ∙ round_slim f h p (round h st)
rounds_slim false f h p st = round_slim f h p st

module _ (u : ℕ → Bool) where
  pub walk_slim : (c : Cmd) (d : ℕ) → Slims (walk_lean u d c) (walk u d c)
  walk_slim skip d st = refl
  walk_slim (a ⨟ b) d st = ap (walk_lean u d b) (walk_slim a d st) ∙ walk_slim b d (walk u d a st)
  walk_slim (use_of h) d st = as_slim h.spot st (st.here.standing h.spot.value)
  walk_slim (set_of o h) d st = λ i. record { here = slim_set o h.spot st.here i; above = slims st.above; out = st.out }
  walk_slim (stop w) d st = refl
  walk_slim (branch a b) d st = branch_slim (walk_lean u d a) (walk_lean u d b) (walk u d a) (walk u d b) (walk_slim a d) (walk_slim b d) st
  walk_slim (loop c) d st = rounds_slim (leb (suc d) 5) (walk_lean u (suc d) c) (walk u (suc d) c) (walk_slim c (suc d)) st
  walk_slim (scope c) d st = ap (λ (r : State). leave_to_lean u r r.above) (walk_slim c d (enter st))
      ∙ leave_slim u (walk u d c (enter st)) (walk u d c (enter st)).above

  undefined_slim : (g : Option (ℕ → Bool)) (c : Scope) (ws : List Warning) → undefined g (slim c) ws ≡ undefined g c ws
  undefined_slim none c ws = refl
  undefined_slim (some given) c ws = passed_warns c 5 (λ s. not (given s.value)) ws

  -- THE THEOREM, of the lists: the warnings are those of the rules
  pub lean_names : (g : Option (ℕ → Bool)) (m : Cmd) → names_lean u g m ≡ names_of u g m
  lean_names g m = let st = walk u 0 m (record { here = fresh; above = []; out = [] }) in
      ap (λ (r : State). undefined g r.here (farewell u true r.here r.out))
      (walk_slim m 0 (record { here = fresh; above = []; out = [] }))
      ∙ undefined_slim g st.here (farewell u true (slim st.here) st.out)
      ∙ ap (undefined g st.here) (farewell_slim st.here u true st.out)
