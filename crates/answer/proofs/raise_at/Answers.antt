use mathlib.Core.Path.{sym, ◌∙◌}
use Prim.Native.Nat.{ℕ, ◌-◌}
use native.Mathlib.Omega.{arith}
use lib.ListN.{get_or}
use Rattle.std.proofs.Common.{inl, inr}
use Rattle.answer.proofs.Returns.{next_count, raise_past, raise_one}
use Rattle.answer.proofs.raise_at.Goals as goal
use Rattle.answer.proofs.raise_at.Goals.{else-code-ge1-via-then-code-ge1+else-code-counts, else-code-ge1-via-else-code-ge1}

pub returns-then-code-counts : goal.returns-then-code-counts
returns-then-code-counts c =
    raise_one c.args.code c.args.counts.now c.saturating_add.result c.if-code-ge1.true
    (c.saturating_add.ensures ∙ next_count (get_or c.args.counts.now (c.args.code - 1) 0) (omega arith))

pub returns-else-code-ge1 : goal.returns-else-code-ge1
returns-else-code-ge1 c =
    elim c.else-code-ge1.branch [
      | else-code-ge1-via-then-code-ge1+else-code-counts w ↦ sym (raise_past c.args.code c.args.counts.now (inr w.if-code-counts.false))
      | else-code-ge1-via-else-code-ge1 w ↦ sym (raise_past c.args.code c.args.counts.now (inl w.if-code-ge1.false))
    ]
