-- A count. Assumes nothing.
use Rattle.std.specs.Prelude.{ℕ, ◌+◌, cond, ltb}

-- one more, staying at 2^64 - 1, the largest count, so that any counts may be handed in
abbrev pub one_more : ℕ → ℕ
one_more n = cond (ltb n 18446744073709551615) (n + 1) n
