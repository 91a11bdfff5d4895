-- Two files that differ in their version alone, for the theorems on 02, §9. Assumes nothing.
use Rattle.std.specs.Prelude.{Ok, Err}
use Rattle.std.specs.Prelude.{ℕ, ◌≤◌, ◌<◌, ◌≡◌, List, length, get_or}
use Rattle.tree.specs.Judge.{Judged}

-- the same bytes but for those of the version, at 3 and 4
pub record Twins (t u : List ℕ) : Type 0 where
  pub long : length t ≡ length u
  pub mark : (k : ℕ) → k < 3 → get_or t k 0 ≡ get_or u k 0
  pub rest : (k : ℕ) → 5 ≤ k → get_or t k 0 ≡ get_or u k 0

-- the same judgement, but that a valid file is of version v
abbrev pub in_version : ℕ → Judged → Judged
in_version v (Ok f) =
    Ok (record { version = v; nodes = f.nodes; values = f.values; names = f.names; globals = f.globals; rest = f.rest })
in_version v (Err why) = Err why
