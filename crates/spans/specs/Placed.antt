-- 02, §4: "The editor jumps to a tree node and a span is too slow to search." A record whose numbers lead there: the first is that of a
-- node of the file t that has the record's first span; the second likewise, or there is neither second span nor number. Assumes nothing.
use Rattle.std.specs.Prelude.{ℕ, ◌≤◌, ◌<◌, ◌≡◌, List, ◌⊎◌}
use Rattle.tree.specs.Bytes.{node_count}
use Rattle.tree.specs.Forest.{node_spot}
use Rattle.rules.specs.Record.{Rec, Span, no_span, spot_span, no_number}

-- node n of the file, and the span is its own
abbrev pub Lies : List ℕ → ℕ → Span → Type 0
Lies t n s = (n < node_count t) × (s ≡ spot_span (node_spot t n))

-- "the node warned and the node that the second span came from, 65535 where none"
pub record Placed (t : List ℕ) (r : Rec) : Type 0 where
  pub first : Lies t r.number (spot_span r.spot)
  pub second : ((r.number2 ≡ no_number) × (r.second ≡ no_span)) ⊎ Lies t r.number2 r.second
  -- codes 1 to 6 have the name of their node too
  pub named : r.code ≤ 6 → r.spot ≡ node_spot t r.number
