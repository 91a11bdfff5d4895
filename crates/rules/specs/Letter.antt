-- Demand 3 in the letter's words. Assumes nothing.
use Rattle.std.specs.Prelude.{Ok}
use Rattle.std.specs.Prelude.{ℕ, ◌≡◌, Bool, ◌⊎◌, T}
use mathlib.Core.List.{List, Memᴰ}
use Rattle.std.proofs.Math.Option.{some}
use Rattle.tree.specs.Forest.{Head, Forest, tree_of}
use Rattle.tree.specs.Table.{table_of, spells}
use Rattle.tree.specs.Judge.{judged}
use Rattle.tree.specs.declared.Facts.{Facts}
use Rattle.rules.specs.Record.{Rec, named_at}
use Rattle.rules.specs.Order.{Cmd, bare, def_body, fail_name}
use Rattle.rules.specs.Names.{names_list}
use Rattle.rules.specs.Visit.{spot_at}
use Rattle.rules.specs.Flow.{reason, missing, missing_expression, none_name, flow_list}
use Rattle.rules.specs.Premises.{Premises}
use Rattle.rules.specs.Runs.{Node, Body, own, Held, nobody, through, by, Run, Reach}

-- "the use is in the names list under code 4 or 6", with its own node (02, §4)
abbrev pub Told : Head → List Rec → Type 0
Told h rs = Memᴰ (named_at 4 h) rs ⊎ Memᴰ (named_at 6 h) rs

module _ (is_fail is_none : ℕ → Bool) where
  -- "a def that wants a value": the def h with the children k, anywhere in the tree, and the reason why it wants one
  pub record Wanting (f : Forest) (h : Head) (k : Forest) (why : Head) : Type 0 where
    pub there : Node h k f
    pub def : h.kind ≡ 12
    pub wants : reason is_none k ≡ some why

  -- of a tree, with its names list and its flow list
  pub record Demand3 (f : Forest) (names flow : List Rec) : Type 0 where
    -- "If a run of a module or def body reaches, in that body's own scope, a use of one of its own names before that name was
    -- set, the use is in the names list under code 4 or 6."
    pub unset : {b : Cmd} → Body is_fail f b → (h : Head) → T (own h.spot.value b) → Reach h b nobody → Told h names
    -- "If a run of a def that wants a value reaches its end .., the flow list has that def under missing-return"
    pub end : {h : Head} {k : Forest} {why : Head} {τ : Held} → Wanting f h k why → Run (def_body is_fail k) nobody through τ
        → Memᴰ (missing h (spot_at 6 k) why) flow
    -- ".. or a bare return, .. that return under missing-return-expression."
    pub bare_return : {h : Head} {k : Forest} {why g : Head} {τ : Held} → Wanting f h k why
        → Run (def_body is_fail k) nobody (by (bare g)) τ → Memᴰ (missing_expression h (spot_at 6 k) why g) flow

-- of a file's bytes: "Demand 3 is read over demand 2's lists."
abbrev pub Demand3Of : List ℕ → Type 0
Demand3Of t =
    Demand3 (spells (table_of t) fail_name) (spells (table_of t) none_name) (tree_of t) (names_list t) (flow_list t)

-- The demand whole: "Take a valid tree in which no two nodes that hold a name share span and name and every break or continue
-- stands in a loop of its own body."
abbrev pub TheDemand : Type 0
TheDemand = (t : List ℕ) (f : Facts) → judged t ≡ Ok f → Premises (tree_of t) → Demand3Of t
