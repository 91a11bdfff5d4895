-- The number of each kind of value, and what a number stands for. Assumes nothing.
use Rattle.std.specs.Prelude.{ℕ, ◌≡◌, ◌<◌, Result, MatchResult}
use Rattle.tree.specs.declared.kinds.ValueKind.{ValueKind}
use Rattle.tree.specs.declared.kinds.ValueKind.TheVariants.{Name, String, Bytes, Integer, Float}
use Rattle.tree.specs.declared.kinds.UnknownKind.{UnknownKind}

abbrev pub kind_number : ValueKind → ℕ
kind_number Name = 0
kind_number String = 1
kind_number Bytes = 2
kind_number Integer = 3
kind_number Float = 4

-- the kind of this number; else the number, which is none's
abbrev pub Decodes : ℕ → Result ValueKind UnknownKind → Type 0
Decodes n r = MatchResult r (λ k. kind_number k ≡ n) (λ e. (e.0 ≡ n) × (4 < n))
