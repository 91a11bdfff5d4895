-- What private functions of the walks promise. Assumes nothing. Nobody has to believe them: the public call cites the rules alone.
use Rattle.std.specs.Prelude.{ℕ, ◌+◌, ◌<◌, ◌≡◌, Bool, true, false, cond, ◌&&◌, List, [], eqb, ltb, leb, get_or}
use Rattle.tree.specs.Bytes.{kind_at, size_at, pick}
use Rattle.tree.specs.Forest.{Head, Forest}
use Rattle.tree.specs.code.Find.{child_of}
use Rattle.rules.specs.Record.{Rec}
use Rattle.rules.specs.Visit.{look}
use Rattle.rules.specs.Flow.{Effect, some_effect, none_effect, by_children, effects, effect_part, Loads, loads_part, Reached, after_stop, in_list, reached}
use Rattle.answer.specs.declared.LentSheet.{LentSheet}
use Rattle.answer.specs.Page.{Added}

-- a value is the name of this number
abbrev pub is_name : ℕ → ℕ → Bool
is_name n v = eqb v n

-- a value is a string, by a table of those below 512
abbrev pub is_text : List Bool → ℕ → Bool
is_text strings v = ltb v 512 && get_or strings v false

-- ---- effect

-- whether a node has effect, whatever its children have
abbrev pub acts_by : Effect → Bool
acts_by some_effect = true
acts_by none_effect = false
acts_by by_children = false

abbrev pub acting : List Bool → Head → Bool
acting strings h = cond (eqb 21 h.kind) (is_text strings h.spot.value) (acts_by (look h.kind effects some_effect))

-- conditionals, tuples, lists and dicts
abbrev pub of_children : ℕ → Bool
of_children k = leb 27 k && leb k 30

-- the next node to look at
abbrev pub onto : Effect → ℕ → ℕ → ℕ
onto some_effect below past = past
onto none_effect below past = past
onto by_children below past = below

abbrev pub inside : List ℕ → ℕ → ℕ
inside t j = onto (look (kind_at t j) effects some_effect) (j + 1) (j + size_at t j)

-- an expression statement has an expression
abbrev pub Stated : List ℕ → ℕ → Type 0
Stated t i = kind_at t i ≡ 5 → child_of t 4 (i + 1) (i + size_at t i) < i + size_at t i

-- the next node after those that are gone through as one with node i, where kind k is not, or is alone, gone through so
abbrev pub past_of : ℕ → List ℕ → ℕ → ℕ
past_of k t i = pick (eqb k (kind_at t i)) (i + size_at t i) (i + 1)

abbrev pub into_of : ℕ → List ℕ → ℕ → ℕ
into_of k t i = pick (eqb k (kind_at t i)) (i + 1) (i + size_at t i)

-- the node alone
abbrev pub idle_at : List Bool → Head → Forest → List Rec
idle_at strings h k = effect_part (is_text strings) h.kind k []

abbrev pub load_at : List Bool → Bool → Head → Forest → Loads
load_at strings may h k = loads_part (is_text strings) h.kind may h k (λ v. record { may = v; recs = [] })

-- ---- reachable

-- what is left of a list of statements, after one that stops or not
abbrev pub left : (ℕ → Bool) → Bool → Forest → Reached
left is_fail true f = record { stops = true; recs = after_stop f }
left is_fail false f = reached is_fail in_list f

-- what a walk writes and hands back
pub record Walked (s s' : LentSheet) (b : Bool) (w : Reached) : Type 0 where
  pub written : Added s s' w.recs
  pub stops : b ≡ w.stops
