-- The judgement as the code goes: number by number, each value read where it stands. proofs/Staged shows that `judged` says
-- the same. Assumes nothing.
use Rattle.std.specs.Prelude.{Ok, Err, Result, MatchResult}
use Rattle.std.specs.Prelude.{ℕ, ◌+◌, ◌*◌, ◌-◌, ◌≤◌, ◌<◌, ◌≡◌, List, Bool, ◌&&◌, ◌||◌, not, length, get_or, leb, ltb, eqb}
use Rattle.tree.specs.Bytes.{version_of, u16_at, kind_at, size_at, begin_at, end_at, value_at, last_at, pick}
use Rattle.tree.specs.Search.{lowest}
use Rattle.tree.specs.Values.{Value, formed, precedes, value_from, offset}
use Rattle.tree.specs.Table.{listed}
use Rattle.tree.specs.Nodes.{parent_of, limit_of, known, holds_name, too_deep}
use Rattle.tree.specs.Judge.{refuse_at, marked, versioned, limits}
use Rattle.tree.specs.code.Kids.{bad7}
use Rattle.tree.specs.declared.Facts.{Facts}
use Rattle.tree.specs.declared.Refusal.{Refusal}
use Rattle.tree.specs.declared.Refusal.TheVariants.{Mark, Version, Counts, Sections, Value as ValueAt, Node, Children, Depth, Global}
use Rattle.tree.specs.Judge.{Judged}

-- value i, in a file of n nodes
abbrev pub value_no : List ℕ → ℕ → ℕ → Value
value_no t n i = value_from t (offset t n i)

-- 5: value i has a wrong form, or does not follow the one before it
unfoldable pub bad5 : List ℕ → ℕ → ℕ → Bool
bad5 t n i = not (formed (value_no t n i)) || (ltb 0 i && not (precedes (value_no t n (i - 1)) (value_no t n i)))

-- value number v is one of the nv values, and a name
abbrev pub is_name_at : List ℕ → ℕ → ℕ → ℕ → Bool
is_name_at t n nv v = ltb v nv && eqb (value_no t n v).kind 0

-- ... and a string, bytes, an integer or a float
abbrev pub is_literal_at : List ℕ → ℕ → ℕ → ℕ → Bool
is_literal_at t n nv v = ltb v nv && (leb 1 (value_no t n v).kind && leb (value_no t n v).kind 4)

-- global i
abbrev pub global_at : List ℕ → ℕ → ℕ → ℕ → ℕ
global_at t n nv i = u16_at t (offset t n nv + 2 * i)

-- 9: global i
unfoldable pub bad9 : List ℕ → ℕ → ℕ → ℕ → Bool
bad9 t n nv i =
    not (is_name_at t n nv (global_at t n nv i))
    || (ltb 0 i && leb (global_at t n nv i) (global_at t n nv (i - 1)))

unfoldable pub value_fits : List ℕ → ℕ → ℕ → ℕ → ℕ → Bool
value_fits t n nv k v =
    pick (eqb k 21) (is_literal_at t n nv v)
    (pick (holds_name k) (is_name_at t n nv v) (eqb v 65535))

-- 6: node i
unfoldable pub good6 : List ℕ → ℕ → ℕ → ℕ → Bool
good6 t n nv i =
    known (kind_at t i)
    && (leb (begin_at t i) (end_at t i)
    && (eqb (last_at t i) 0
    && (leb 1 (size_at t i)
    && (leb (i + size_at t i) (limit_of t n i) && value_fits t n nv (kind_at t i) (value_at t i)))))

unfoldable pub bad6 : List ℕ → ℕ → ℕ → ℕ → Bool
bad6 t n nv i = not (good6 t n nv i)

-- a table of the parents of the nodes numbered below n
abbrev pub Parents : List ℕ → ℕ → List ℕ → Type 0
Parents t n par = (k : ℕ) → k < n → get_or par k 0 ≡ parent_of t k

abbrev pub not_name : List ℕ → ℕ → ℕ → Bool
not_name t n i = not (eqb (value_no t n i).kind 0)

-- how many names the values begin with
unfoldable pub names_of : List ℕ → ℕ → ℕ → ℕ
names_of t n nv = lowest nv (not_name t n)

-- no value is refused by 5, no node by 6
abbrev pub None5 : List ℕ → ℕ → ℕ → Type 0
None5 t n nv = nv ≤ lowest nv (bad5 t n)

abbrev pub None6 : List ℕ → ℕ → ℕ → Type 0
None6 t n nv = n ≤ lowest n (bad6 t n nv)

-- the refusal of the lowest of n places that is wrong
pub record Lowest (why : ℕ → Refusal) (n : ℕ) (wrong : ℕ → Bool) (e : Refusal) : Type 0 where
  pub below : lowest n wrong < n
  pub is : e ≡ why (lowest n wrong)

-- what a check of n places answers
abbrev pub Judges : (ℕ → Refusal) → ℕ → (ℕ → Bool) → Result Unit Refusal → Type 0
Judges why n wrong r = MatchResult r (λ u. n ≤ lowest n wrong) (λ e. Lowest why n wrong e)

-- what is known of a file once its values are in form
pub record Formed (t : List ℕ) (f : Facts) : Type 0 where
  pub some_nodes : 1 ≤ f.nodes
  pub few_nodes : f.nodes ≤ 1024
  pub few_values : f.values ≤ 512
  pub names : f.names ≡ names_of t f.nodes f.values
  pub rest : f.rest ≡ offset t f.nodes f.values
  pub early : f.rest < 34000000
  pub none5 : None5 t f.nodes f.values

unfoldable pub facts_at : List ℕ → ℕ → ℕ → ℕ → Facts
facts_at t n nv g =
    record { version = version_of t; nodes = n; values = nv; names = names_of t n nv; globals = g; rest = offset t n nv }

unfoldable pub judged9 : List ℕ → ℕ → ℕ → ℕ → Judged
judged9 t n nv g = refuse_at Global (lowest (listed g) (bad9 t n nv)) (listed g) (Ok (facts_at t n nv g))

unfoldable pub judged8 : List ℕ → ℕ → ℕ → ℕ → Judged
judged8 t n nv g = refuse_at Depth (lowest n (too_deep t)) n (judged9 t n nv g)

unfoldable pub judged7 : List ℕ → ℕ → ℕ → ℕ → Judged
judged7 t n nv g = refuse_at Children (lowest n (bad7 t n)) n (judged8 t n nv g)

unfoldable pub judged6 : List ℕ → ℕ → ℕ → ℕ → Judged
judged6 t n nv g = refuse_at Node (lowest n (bad6 t n nv)) n (judged7 t n nv g)

unfoldable pub judged5 : List ℕ → ℕ → ℕ → ℕ → Judged
judged5 t n nv g = refuse_at ValueAt (lowest nv (bad5 t n)) nv (judged6 t n nv g)

unfoldable pub judged4 : List ℕ → ℕ → ℕ → ℕ → Judged
judged4 t n nv g = pick (eqb (offset t n nv + 2 * listed g) (length t)) (judged5 t n nv g) (Err Sections)

unfoldable pub judged3 : List ℕ → ℕ → ℕ → ℕ → Judged
judged3 t n nv g = pick (limits n nv g) (judged4 t n nv g) (Err Counts)

unfoldable pub staged : List ℕ → Judged
staged t =
    pick (marked t)
    (pick (versioned t) (judged3 t (u16_at t 5) (u16_at t 7) (u16_at t 9)) (Err Version))
    (Err Mark)
