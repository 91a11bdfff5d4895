-- How large a log can get: what is asked of each of its records. Assumes nothing.
use Rattle.std.specs.Prelude.{ℕ, ◌≤◌, ◌<◌, List, length}
use Rattle.tree.specs.Table.{table_of, at}
use Rattle.rules.specs.Record.{Rec, words, Each}
use Rattle.rules.specs.Joined.{codes}

-- words of 32 bits, "eight u32" and 02's "two numbers after its present eight", and a value of "Length at most 255"
pub record Bounded (t : List ℕ) (r : Rec) : Type 0 where
  pub a_code : r.code ≤ codes
  pub each_u32 : Each (λ w. w < 4294967296) (words r)
  pub short_value : length (at (table_of t) r.spot.value).bytes ≤ 255
