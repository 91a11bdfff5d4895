-- 01, "Names": the scopes, and what using, setting, a branch, a loop and leaving a scope do; 02, §4: which node a record has.
-- Assumes nothing.
use Rattle.std.specs.Prelude.{ℕ, suc, Bool, true, false, cond, ◌&&◌, ◌||◌, not, List, [], ◌∷◌, ◌++◌, map, eqb, leb}
use Rattle.std.proofs.Math.Option.{Option, none, some}
use Rattle.tree.specs.Forest.{Spot, Head, Forest, tree_of}
use Rattle.tree.specs.Table.{table_of, spells, underscored, globals_of}
use Rattle.rules.specs.Record.{Rec, no_span, no_number, keep}
use Rattle.rules.specs.Order.{Stop, Sort, Cmd, breaks, bare, valued, fails, skip, ◌⨟◌, use_of, set_of, stop, branch, loop, scope, body, fail_name}

-- "an abort: none, loop or function, ordered so"
pub data Abort : Type 0 where
  no_abort loop_abort function_abort : Abort

abbrev pub aborts : Abort → Bool
aborts no_abort = false
aborts loop_abort = true
aborts function_abort = true

abbrev pub smaller : Abort → Abort → Abort
smaller no_abort b = no_abort
smaller loop_abort no_abort = no_abort
smaller loop_abort loop_abort = loop_abort
smaller loop_abort function_abort = loop_abort
smaller function_abort b = b

-- "Return and a statement that is a call of the identifier fail set function; break and continue set loop."
abbrev pub stop_abort : Stop → Abort
stop_abort (breaks b) = loop_abort
stop_abort (bare h) = function_abort
stop_abort valued = function_abort
stop_abort fails = function_abort

-- "for each name Definitely or Maybe with its setting spans" (a set: which spots of that name)
abbrev pub Spots : Type 0
Spots = Spot → Bool

pub data Standing : Type 0 where
  absent : Standing
  maybe definitely : Spots → Standing

-- "Each pair (span, name)"
abbrev pub same : Spot → Spot → Bool
same a b = eqb a.value b.value && (eqb a.begin b.begin && eqb a.end b.end)

abbrev pub among : Spot → List Spot → Bool
among a [] = false
among a (b ∷ bs) = same a b || among a bs

abbrev pub has_name : ℕ → List Spot → Bool
has_name x [] = false
has_name x (b ∷ bs) = eqb x b.value || has_name x bs

pub record Setting : Type 0 where
  pub sort : Sort
  pub spot : Spot

abbrev pub set_names : ℕ → List Setting → Bool
set_names x [] = false
set_names x (b ∷ bs) = eqb x b.spot.value || set_names x bs

-- "A scope holds can't-set uses, unbound uses, used pairs, settings in order, and for each name .., and an abort"
pub record Scope : Type 0 where
  pub cant : List Spot
  pub unbound : List Spot
  pub used : Spots
  pub settings : List Setting
  pub standing : ℕ → Standing
  pub abort : Abort

abbrev pub fresh : Scope
fresh =
    record { cant = []; unbound = []; used = λ s. false; settings = []; standing = λ x. absent; abort = no_abort }

pub record Warning : Type 0 where
  pub code : ℕ
  pub spot : Spot

-- the innermost scope, those further out, and the warnings so far
pub record State : Type 0 where
  pub here : Scope
  pub above : List Scope
  pub out : List Warning

-- "Each pair (span, name) is warned once, the first code winning."
abbrev pub warned : Spot → List Warning → Bool
warned a [] = false
warned a (w ∷ ws) = same a w.spot || warned a ws

abbrev pub warn_new : ℕ → Spot → List Warning → Bool → List Warning
warn_new c s ws true = ws
warn_new c s ws false = ws ++ (record { code = c; spot = s } ∷ [])

abbrev pub warn : ℕ → Spot → List Warning → List Warning
warn c s ws = warn_new c s ws (warned s ws)

abbrev pub warn_if : Bool → ℕ → Spot → List Warning → List Warning
warn_if true c s ws = warn c s ws
warn_if false c s ws = ws

abbrev pub warn_all : ℕ → (Spot → Bool) → List Spot → List Warning → List Warning
warn_all c p [] ws = ws
warn_all c p (s ∷ ss) ws = warn_all c p ss (warn_if (p s) c s ws)

abbrev pub scope_of : List Spot → List Spot → Spots → List Setting → (ℕ → Standing) → Abort → Scope
scope_of c u d e f a = record { cant = c; unbound = u; used = d; settings = e; standing = f; abort = a }

-- "Setting makes Definitely with that one span."
abbrev pub set_at : Sort → Spot → Scope → Scope
set_at o s c =
    scope_of c.cant c.unbound c.used (c.settings ++ (record { sort = o; spot = s } ∷ []))
    (λ x. cond (eqb x s.value) (definitely (same s)) (c.standing x)) c.abort

-- "found, its spans become used there"
abbrev pub mark : ℕ → Spots → Scope → Scope
mark x ss c =
    scope_of c.cant c.unbound (λ t. c.used t || (eqb x t.value && ss t)) c.settings c.standing c.abort

abbrev pub cannot : Spot → Scope → Scope
cannot s c = scope_of (c.cant ++ (s ∷ [])) c.unbound c.used c.settings c.standing c.abort

abbrev pub unbinds : List Spot → Scope → Scope
unbinds ss c = scope_of c.cant (c.unbound ++ ss) c.used c.settings c.standing c.abort

abbrev pub stands : (ℕ → Standing) → Abort → Scope → Scope
stands f a c = scope_of c.cant c.unbound c.used c.settings f a

-- "A use searches outward": the scopes further out after the search, and how the name stands in the first that has it
pub data Found : Type 0 where
  nowhere surely perhaps : Found

pub record Search : Type 0 where
  pub found : Found
  pub scopes : List Scope

abbrev pub search_step : ℕ → Scope → List Scope → Search → Standing → Search
search_step x c cs r absent = record { found = r.found; scopes = c ∷ r.scopes }
search_step x c cs r (maybe ss) = record { found = perhaps; scopes = mark x ss c ∷ cs }
search_step x c cs r (definitely ss) = record { found = surely; scopes = mark x ss c ∷ cs }

abbrev pub search_out : ℕ → List Scope → Search
search_out x [] = record { found = nowhere; scopes = [] }
search_out x (c ∷ cs) = search_step x c cs (search_out x cs) (c.standing x)

-- "Maybe warns 6; absent in the innermost scope, it joins can't-set; absent everywhere, the innermost unbound"
abbrev pub use_out : Spot → State → Search → Found → State
use_out s st r nowhere = record { here = unbinds (s ∷ []) (cannot s st.here); above = r.scopes; out = st.out }
use_out s st r surely = record { here = cannot s st.here; above = r.scopes; out = st.out }
use_out s st r perhaps = record { here = cannot s st.here; above = r.scopes; out = warn 6 s st.out }

abbrev pub use_as : Spot → State → Standing → State
use_as s st absent = let r = search_out s.value st.above in use_out s st r r.found
use_as s st (maybe ss) = record { here = mark s.value ss st.here; above = st.above; out = warn 6 s st.out }
use_as s st (definitely ss) = record { here = mark s.value ss st.here; above = st.above; out = st.out }

abbrev pub use_at : Spot → State → State
use_at s st = use_as s st (st.here.standing s.value)

abbrev pub sure : Standing → Bool
sure absent = false
sure (maybe ss) = false
sure (definitely ss) = true

-- "Both abort: Definitely. One: the other's standing, an absent name counting as Maybe. Neither: Maybe unless both Definitely."
abbrev pub join_sure : Bool → Bool → Bool → Bool → Bool
join_sure true true x y = true
join_sure true false x y = y
join_sure false true x y = x
join_sure false false x y = x && y

abbrev pub spots : Standing → Spots
spots absent t = false
spots (maybe ss) t = ss t
spots (definitely ss) t = ss t

abbrev pub stand : Bool → Spots → Standing
stand true ss = definitely ss
stand false ss = maybe ss

abbrev pub has_standing : Standing → Bool
has_standing absent = false
has_standing (maybe ss) = true
has_standing (definitely ss) = true

abbrev pub stand_if : Bool → Bool → Spots → Standing
stand_if false b ss = absent
stand_if true b ss = stand b ss

-- "Spans unite."
abbrev pub join : Abort → Abort → Standing → Standing → Standing
join a b x y =
    stand_if (has_standing x || has_standing y) (join_sure (aborts a) (aborts b) (sure x) (sure y))
    (λ t. spots x t || spots y t)

-- what has gathered, with these standings and this abort
abbrev pub goes_on : (ℕ → Standing) → Abort → State → State
goes_on f a st = record { here = stands f a st.here; above = st.above; out = st.out }

-- "both sides start from the same standings and abort": where the second starts, st before and one after the first side
abbrev pub back_to : State → State → State
back_to st one = goes_on st.here.standing st.here.abort one

-- "Abort after is the smaller."
abbrev pub joined : State → State → State
joined one two =
    goes_on (λ x. join one.here.abort two.here.abort (one.here.standing x) (two.here.standing x))
    (smaller one.here.abort two.here.abort) two

-- "Branch: both sides start from the same standings and abort; uses, used pairs and settings gather through both."
abbrev pub branch_of : (State → State) → (State → State) → State → State
branch_of f g st = let one = f st in joined one (g (back_to st one))

-- "after each, a loop abort becomes none"
abbrev pub unloop : Abort → Abort
unloop no_abort = no_abort
unloop loop_abort = no_abort
unloop function_abort = function_abort

abbrev pub unlooped : State → State
unlooped st = goes_on st.here.standing (unloop st.here.abort) st

abbrev pub same_state : State → State
same_state st = st

-- "the target as in an assign and the body, together as a branch against nothing"
abbrev pub round : (State → State) → State → State
round f st = unlooped (branch_of f same_state st)

-- "1 unused load, 2 unused assign, 3 unused argument"
abbrev pub unused : Sort → ℕ
unused Sort.load = 1
unused Sort.assign = 2
unused Sort.argument = 3

abbrev pub is_assign : Sort → Bool
is_assign Sort.load = false
is_assign Sort.assign = true
is_assign Sort.argument = false

-- "except an assign at module level without leading underscore still among its name's spans, and any underscore name below
-- module level"; underscore: whether a name begins with one; top: at module level
abbrev pub spared_at : (ℕ → Bool) → Bool → Scope → Setting → Bool
spared_at underscore true c e =
    is_assign e.sort && (not (underscore e.spot.value) && spots (c.standing e.spot.value) e.spot)
spared_at underscore false c e = underscore e.spot.value

-- a setting that doesn't warn: it is used, or its name has an unbound use, or it is excepted
abbrev pub spared : (ℕ → Bool) → Bool → Scope → Setting → Bool
spared underscore top c e =
    c.used e.spot || (has_name e.spot.value c.unbound || spared_at underscore top c e)

-- "Settings not used, with no unbound use of that name, warn 1, 2 or 3"
abbrev pub idle : (ℕ → Bool) → Bool → Scope → List Setting → List Warning → List Warning
idle underscore top c [] ws = ws
idle underscore top c (e ∷ es) ws =
    idle underscore top c es (warn_if (not (spared underscore top c e)) (unused e.sort) e.spot ws)

-- "Leaving: can't-set uses whose name is set here warn 4", then the settings
abbrev pub farewell : (ℕ → Bool) → Bool → Scope → List Warning → List Warning
farewell underscore top c ws =
    idle underscore top c c.settings (warn_all 4 (λ s. set_names s.value c.settings) c.cant ws)

-- "new scope"
abbrev pub enter : State → State
enter st = record { here = fresh; above = st.here ∷ st.above; out = st.out }

-- "Unbound uses not set here pass to the parent"
abbrev pub passed : Scope → List Spot
passed c = keep (λ s. not (set_names s.value c.settings)) c.unbound

-- the scope further out goes on; the module's, which has none, is left by names_of
abbrev pub leave_to : (ℕ → Bool) → State → List Scope → State
leave_to underscore st [] = st
leave_to underscore st (c ∷ cs) =
    record { here = unbinds (passed st.here) c; above = cs; out = farewell underscore false st.here st.out }

abbrev pub leave : (ℕ → Bool) → State → State
leave underscore st = leave_to underscore st st.above

-- "twice while the count of enclosing for statements (itself counted, through defs too) is at most 5, once from 6"
abbrev pub rounds : Bool → (State → State) → State → State
rounds true f st = round f (round f st)
rounds false f st = round f st

-- "at module level, with globals given, those not in them warn 5"
abbrev pub undefined : Option (ℕ → Bool) → Scope → List Warning → List Warning
undefined none c ws = ws
undefined (some given) c ws = warn_all 5 (λ s. not (given s.value)) (passed c) ws

module _ (underscore : ℕ → Bool) where
  -- depth: how many for statements are around, through defs too
  abbrev pub walk : ℕ → Cmd → State → State
  walk depth skip st = st
  walk depth (a ⨟ b) st = walk depth b (walk depth a st)
  walk depth (use_of h) st = use_at h.spot st
  walk depth (set_of o h) st = record { here = set_at o h.spot st.here; above = st.above; out = st.out }
  walk depth (stop why) st = goes_on st.here.standing (stop_abort why) st
  walk depth (branch a b) st = branch_of (walk depth a) (walk depth b) st
  walk depth (loop c) st = rounds (leb (suc depth) 5) (walk (suc depth) c) st
  walk depth (scope c) st = leave underscore (walk depth c (enter st))

  -- the module is left at last
  abbrev pub names_of : Option (ℕ → Bool) → Cmd → List Warning
  names_of globals m =
      let st = walk 0 m (record { here = fresh; above = []; out = [] }) in
      undefined globals st.here (farewell underscore true st.here st.out)

  abbrev pub names : (ℕ → Bool) → Option (ℕ → Bool) → Forest → List Warning
  names is_fail globals f = names_of globals (body is_fail f)

-- The nodes that the walk of a command meets, in its order: it meets a node when it uses or sets the name there. Of a branch it walks
-- the first side, then the second; of a loop the first round counts, since the second meets the same nodes again.
abbrev pub met : Cmd → List Head
met skip = []
met (a ⨟ b) = met a ++ met b
met (use_of h) = h ∷ []
met (set_of o h) = h ∷ []
met (stop why) = []
met (branch a b) = met a ++ met b
met (loop c) = met c
met (scope c) = met c

-- the number of the first of these nodes that has this span and name; d: none of them has
abbrev pub first_or : ℕ → Spot → List Head → ℕ
first_or d s [] = d
first_or d s (h ∷ hs) = elim (same s h.spot) [ true ↦ h.number | false ↦ first_or d s hs ]

-- 02, §4: "Where nodes share span and name, a names record has the one that the names walk meets first" (there is one for every spot
-- that names warns at: warned-met of proofs/FirstMet)
abbrev pub first_met : Spot → List Head → ℕ
first_met s hs = first_or no_number s hs

-- "Value: for 1 to 6 .. the name"; hs: the nodes that the walk meets
abbrev pub told : List Head → Warning → Rec
told hs w =
    record {
      code = w.code;
      spot = w.spot;
      second = no_span;
      third = no_span;
      number = first_met w.spot hs;
      number2 = no_number;
    }

-- the nodes of a file that the walk meets
unfoldable pub met_in : List ℕ → List Head
met_in t = met (body (spells (table_of t) fail_name) (tree_of t))

-- of a file's bytes
unfoldable pub names_list : List ℕ → List Rec
names_list t =
    map (told (met_in t)) (names (underscored (table_of t)) (spells (table_of t) fail_name) (globals_of t) (tree_of t))
