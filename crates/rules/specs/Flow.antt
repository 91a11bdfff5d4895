-- 01, "Flow": "Five walks in order: returns, reachable, redundant, loads, effect." Assumes nothing.
-- What a walk does with a node goes by its kind, n: 1 break, 2 continue, 4 return, 5 expression, 8 statements, 9 if, 10 if-else,
-- 11 for, 12 def, 13 load; down: the same walk of its children.
use Rattle.std.specs.Prelude.{ℕ, Bool, true, false, cond, ◌&&◌, ◌||◌, not, List, [], ◌∷◌, ◌++◌, eqb}
use Rattle.std.proofs.Math.Option.{Option, none, some}
use Rattle.tree.specs.Bytes.{ascii}
use Rattle.tree.specs.Forest.{Spot, Head, Forest, Forest.none as leaf, node, tree_of}
use Rattle.tree.specs.Table.{table_of, spells, a_string}
use Rattle.rules.specs.Record.{Rec, no_span, spot_span, plainly, also_at, listed, or_else}
use Rattle.rules.specs.Visit.{look, each, has, head_at, spot_at, last_of}
use Rattle.rules.specs.Order.{fail_called, fail_name}

-- ---- returns: 8 and 7

pub record Return : Type 0 where
  pub head : Head
  pub valued : Bool

-- which children: every one, a def's body, or what is not its body
pub data Which : Type 0 where
  everything the_body the_rest : Which

abbrev pub wanted : Which → ℕ → Bool
wanted everything r = true
wanted the_body r = eqb 1 r
wanted the_rest r = not (eqb 1 r)

-- "outside nested defs": the returns, in file order; down: those of the children. (What is not a nested def's body has no
-- statement in it.)
abbrev pub returns_part : ℕ → Head → Forest → (Which → List Return) → List Return
returns_part n h k down =
    look n ((4, record { head = h; valued = has 4 k } ∷ down everything) ∷ (12, down the_rest) ∷ []) (down everything)

abbrev pub returns : Which → Forest → List Return
returns w leaf = []
returns w (node h k s) = listed (wanted w h.role) (returns_part h.kind h k (λ v. returns v k)) (returns w s)

abbrev pub first_valued : List Return → Option Head
first_valued [] = none
first_valued (r ∷ rs) = elim r.valued [ true ↦ some r.head | false ↦ first_valued rs ]

module _ (is_none : ℕ → Bool) where
  -- "a return type other than the identifier None"
  abbrev pub type_reason : Forest → Option Head
  type_reason leaf = none
  type_reason (node h k s) =
      elim (eqb 3 h.role) [
        | false ↦ type_reason s
        | true ↦ cond (eqb 20 h.kind && is_none h.spot.value) none (some h)
      ]

  -- "A def wants a value if it has a return type other than the identifier None, else if some return outside nested defs
  -- has an expression; the type, or the first such return, is the reason."
  abbrev pub reason : Forest → Option Head
  reason k = or_else (type_reason k) (first_valued (returns the_body k))

module _ (is_fail : ℕ → Bool) where
  -- "the body ends surely (a return or fail statement, a list whose last member does, an if-else whose sides both do)"
  abbrev pub ends_part : ℕ → Forest → (ℕ → Bool) → Bool
  ends_part n k down = look n ((4, true) ∷ (5, fail_called is_fail k) ∷ (8, down 0) ∷ (10, down 1 && down 2) ∷ []) false

  abbrev pub ends : ℕ → Forest → Bool
  ends r leaf = false
  ends r (node h k s) = last_of (eqb r h.role) (has r s) (ends_part h.kind k (λ v. ends v k)) (ends r s)

-- "8 missing return (reason second; value likewise)": h the def, why the reason
abbrev pub missing : Head → Spot → Head → Rec
missing h name why = also_at 8 h name.value why no_span

-- "7 missing return expression (def, then reason, as second and third span; value the def's name)": g the bare return
abbrev pub missing_expression : Head → Spot → Head → Head → Rec
missing_expression h name why g = also_at 7 g name.value h (spot_span why.spot)

abbrev pub bare_recs : Head → Spot → Head → List Return → List Rec
bare_recs h name why [] = []
bare_recs h name why (r ∷ rs) = listed (not r.valued) (missing_expression h name why r.head ∷ []) (bare_recs h name why rs)

module _ (is_fail is_none : ℕ → Bool) where
  -- "Then 8 at the def unless the body ends surely .., then 7 for each bare return outside nested defs."
  abbrev pub check_for : Head → Forest → Option Head → List Rec
  check_for h k none = []
  check_for h k (some why) =
      listed (not (ends is_fail 1 k)) (missing h (spot_at 6 k) why ∷ []) (bare_recs h (spot_at 6 k) why (returns the_body k))

  abbrev pub check : ℕ → Head → Forest → List Rec
  check n h k = look n ((12, check_for h k (reason is_none k)) ∷ []) []

  -- each def before what is below it
  abbrev pub returns_walk : Forest → List Rec
  returns_walk f = each (λ h k. check h.kind h k) f

-- ---- reachable: 9

pub record Reached : Type 0 where
  pub stops : Bool
  pub recs : List Rec

-- statements taken as a list's members, each by itself, or the one of a role
pub data Course : Type 0 where
  in_list one_by_one : Course
  only : ℕ → Course

abbrev pub both : Reached → Reached → Reached
both a b = record { stops = a.stops && b.stops; recs = a.recs ++ b.recs }

abbrev pub on_through : Reached → Reached
on_through a = record { stops = false; recs = a.recs }

abbrev pub stopping : Bool → Reached
stopping b = record { stops = b; recs = [] }

-- "Only the first statement after an aborting one is reported; it and the list's rest aren't walked."
abbrev pub after_stop : Forest → List Rec
after_stop leaf = []
after_stop (node h k s) = plainly 9 h ∷ []

module _ (is_fail : ℕ → Bool) where
  -- "Break, continue, return and a fail statement abort; so does a list once a member does, and an if-else whose sides both do."
  abbrev pub reached_part : ℕ → Forest → (Course → Reached) → Reached
  reached_part n k down =
      look n ((1, stopping true) ∷ (2, stopping true) ∷ (4, stopping true) ∷ (5, stopping (fail_called is_fail k)) ∷ (8, down in_list)
      ∷ (10, both (down (only 1)) (down (only 2))) ∷ []) (on_through (down one_by_one))

  abbrev pub reached : Course → Forest → Reached
  reached m leaf = stopping false
  reached m (node h k s) =
      elim m [
        | in_list ↦ (let a = reached_part h.kind k (λ v. reached v k) in elim a.stops [
          | true ↦ record { stops = true; recs = a.recs ++ after_stop s }
          | false ↦ (let b = reached in_list s in record { stops = b.stops; recs = a.recs ++ b.recs })
        ])
        | one_by_one ↦ (let a = reached_part h.kind k (λ v. reached v k) in record { stops = false; recs = a.recs ++ (reached one_by_one s).recs })
        | only r ↦ elim (eqb r h.role) [ true ↦ reached_part h.kind k (λ v. reached v k) | false ↦ reached (only r) s ]
      ]

-- ---- redundant: 10 and 11

-- "10 for a bare return last in a def's body, 11 for a continue last in a for's; last goes through lists, if and if-else only";
-- loops: whether the body is a for's
abbrev pub tail_part : ℕ → Bool → Head → Forest → (ℕ → List Rec) → List Rec
tail_part n loops h k down =
    look n ((2, listed loops (plainly 11 h ∷ []) []) ∷ (4, listed (not loops && not (has 4 k)) (plainly 10 h ∷ []) [])
    ∷ (8, down 0) ∷ (9, down 1) ∷ (10, down 1 ++ down 2) ∷ []) []

abbrev pub tail : Bool → ℕ → Forest → List Rec
tail loops r leaf = []
tail loops r (node h k s) =
    last_of (eqb r h.role) (has r s) (tail_part h.kind loops h k (λ v. tail loops v k)) (tail loops r s)

abbrev pub redundant_part : ℕ → Forest → List Rec
redundant_part n k = look n ((11, tail true 1 k) ∷ (12, tail false 1 k) ∷ []) []

abbrev pub redundant_walk : Forest → List Rec
redundant_walk f = each (λ h k. redundant_part h.kind k) f

-- "The redundant walk starts below the root"
abbrev pub below_root : Forest → Forest
below_root leaf = leaf
below_root (node h k s) = k

-- ---- loads: 12

pub record Loads : Type 0 where
  pub may : Bool
  pub recs : List Rec

module _ (is-string : ℕ → Bool) where
  abbrev pub string_stated : Forest → Bool
  string_stated leaf = false
  string_stated (node h k s) = eqb 21 h.kind && is-string h.spot.value

  -- "with lists flattened from the root, 12 for a load after anything but loads and string-literal statements";
  -- may: whether a load may still stand here
  abbrev pub loads_part : ℕ → Bool → Head → Forest → (Bool → Loads) → Loads
  loads_part n may h k down =
      look n ((5, record { may = may && string_stated k; recs = [] }) ∷ (8, down may)
      ∷ (13, record { may = may; recs = listed (not may) (plainly 12 h ∷ []) [] }) ∷ []) (record { may = false; recs = [] })

  abbrev pub loads : Bool → Forest → Loads
  loads may leaf = record { may = may; recs = [] }
  loads may (node h k s) =
      let a = loads_part h.kind may h k (λ v. loads v k) in
      let b = loads a.may s in
      record { may = b.may; recs = a.recs ++ b.recs }

-- ---- effect: 13

pub data Effect : Type 0 where
  some_effect none_effect by_children : Effect

-- "ellipsis, lambdas, and conditionals, tuples, lists and dicts none of whose children has effect"
abbrev pub effects : List (ℕ × Effect)
effects =
    (22, none_effect) ∷ (24, none_effect)
    ∷ (27, by_children) ∷ (28, by_children) ∷ (29, by_children) ∷ (30, by_children) ∷ []

module _ (is-string : ℕ → Bool) where
  -- whether one of these has effect; "literals but strings" have none
  abbrev pub effect : Forest → Bool
  effect leaf = false
  effect (node h k s) =
      cond (eqb 21 h.kind) (is-string h.spot.value) (elim (look h.kind effects some_effect)
      [ some_effect ↦ true | none_effect ↦ false | by_children ↦ effect k ]) || effect s

  -- "13, at the expression"
  abbrev pub effect_part : ℕ → Forest → List Rec → List Rec
  effect_part n k down = look n ((5, listed (not (effect k)) (plainly 13 (head_at 4 k) ∷ []) []) ∷ []) down

  abbrev pub effect_walk : Forest → List Rec
  effect_walk leaf = []
  effect_walk (node h k s) = effect_part h.kind k (effect_walk k) ++ effect_walk s

abbrev pub flow : (ℕ → Bool) → (ℕ → Bool) → (ℕ → Bool) → Forest → List Rec
flow is_fail is_none is-string f =
    returns_walk is_fail is_none f
    ++ ((reached is_fail (only 0) f).recs
    ++ (redundant_walk (below_root f)
    ++ ((loads is-string true f).recs
    ++ effect_walk is-string f)))

abbrev pub none_name : List ℕ
none_name = ascii "None"

-- of a file's bytes
unfoldable pub flow_list : List ℕ → List Rec
flow_list t = flow (spells (table_of t) fail_name) (spells (table_of t) none_name) (a_string (table_of t)) (tree_of t)
