-- 01, "Numbers handed back": 1 to 9 in order, each with its lowest place. Assumes nothing.
use Rattle.std.specs.Prelude.{Result, Ok, Err}
use Rattle.std.specs.Prelude.{ℕ, ◌+◌, ◌*◌, List, [], ◌∷◌, Bool, ◌&&◌, ◌||◌, not, length, leb, ltb, eqb}
use Rattle.tree.specs.Bytes.{stands_at, mark, version_of, node_count, value_count, global_count, pick}
use Rattle.tree.specs.Search.{lowest}
use Rattle.tree.specs.Table.{table_of, is_name, wrong_value, listed, globals_from, wrong_global}
use Rattle.tree.specs.Nodes.{wrong_node, too_deep}
use Rattle.tree.specs.Children.{wrong_children}
use Rattle.tree.specs.declared.Facts.{Facts}
use Rattle.tree.specs.declared.Refusal.{Refusal}
use Rattle.tree.specs.declared.Refusal.TheVariants.{Mark, Version, Counts, Sections, Value, Node, Children, Depth, Global}

-- 01's number and place of each refusal
abbrev pub number_of : Refusal → ℕ
number_of Mark = 1
number_of Version = 2
number_of Counts = 3
number_of Sections = 4
number_of (Value i) = 5
number_of (Node i) = 6
number_of (Children i) = 7
number_of (Depth i) = 8
number_of (Global i) = 9

abbrev pub place_of : Refusal → ℕ
place_of Mark = 0
place_of Version = 0
place_of Counts = 0
place_of Sections = 0
place_of (Value i) = i
place_of (Node i) = i
place_of (Children i) = i
place_of (Depth i) = i
place_of (Global i) = i

abbrev pub marked : List ℕ → Bool
marked t = leb 11 (length t) && stands_at t 0 mark

-- 02, §9: "2 is given for versions other than 1 and 2"
abbrev pub versioned : List ℕ → Bool
versioned t = eqb (version_of t) 1 || eqb (version_of t) 2

abbrev pub limits : ℕ → ℕ → ℕ → Bool
limits n nv g = leb 1 n && (leb n 1024 && (leb nv 512 && (leb g 512 || eqb g 65535)))

-- what a file is judged to be: what a valid one says of itself, or why it is refused
abbrev pub Judged : Type 0
Judged = Result Facts Refusal

-- a check: why it refuses, how many places it has, and whether a place is wrong
pub record Check : Type 0 where
  pub why : ℕ → Refusal
  pub places : ℕ
  pub wrong : ℕ → Bool

-- of the whole file, whose place is 0; of so many values, nodes or globals
abbrev pub of_file : Refusal → Bool → Check
of_file why good = record { why = λ i. why; places = 1; wrong = λ i. not good }

abbrev pub at_each : (ℕ → Refusal) → ℕ → (ℕ → Bool) → Check
at_each why n wrong = record { why = why; places = n; wrong = wrong }

unfoldable pub checks : List ℕ → List Check
checks t =
    of_file Mark (marked t)
    ∷ of_file Version (versioned t)
    ∷ of_file Counts (limits (node_count t) (value_count t) (global_count t))
    ∷ of_file Sections (eqb (globals_from t + 2 * listed (global_count t)) (length t))
    ∷ at_each Value (value_count t) (wrong_value (table_of t))
    ∷ at_each Node (node_count t) (wrong_node t)
    ∷ at_each Children (node_count t) (wrong_children t)
    ∷ at_each Depth (node_count t) (too_deep t)
    ∷ at_each Global (listed (global_count t)) (wrong_global t)
    ∷ []

-- refused at a place below n; else what the rest says
abbrev pub refuse_at : (ℕ → Refusal) → ℕ → ℕ → Judged → Judged
refuse_at why place n rest = pick (ltb place n) (Err (why place)) rest

-- "Checked in that order; within a number the lowest place"
abbrev pub checked : List Check → Judged → Judged
checked [] rest = rest
checked (c ∷ cs) rest = refuse_at c.why (lowest c.places c.wrong) c.places (checked cs rest)

-- how many names the values begin with
abbrev pub leading : List ℕ → ℕ
leading t = lowest (value_count t) (λ v. not (is_name (table_of t) v))

-- what a valid file says of itself
unfoldable pub facts_of : List ℕ → Facts
facts_of t =
    record { version = version_of t; nodes = node_count t; values = value_count t; names = leading t; globals = global_count t; rest = globals_from t }

unfoldable pub judged : List ℕ → Judged
judged t = checked (checks t) (Ok (facts_of t))
