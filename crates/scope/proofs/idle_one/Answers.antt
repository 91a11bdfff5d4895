use Prim.Native.Nat.{ℕ}
use native.Mathlib.Omega.{arith}
use mathlib.Core.Path.{ap, ◌∙◌}
use Rattle.rules.specs.Names.{unused}
use Rattle.scope.specs.State.{sort_of}
use Rattle.scope.specs.Words.{Lines, warn_lines}
use Rattle.scope.proofs.Steps.{idle_not, idle_so, code_small}
use Rattle.scope.proofs.idle_one.Goals as goal

pub returns-then-spared : goal.returns-then-spared
returns-then-spared c =
    let e = idle_not c.args.t.now c.args.w.now c.args.n c.args.i c.args.spared c.if-spared.true in
    (ap (λ (l : Lines). l.count) e, ap (λ (l : Lines). l.words) e, omega arith)

pub warn-requires : goal.warn-requires
warn-requires c = (omega arith, rw c.code_of.ensures (code_small c.kind_at.result), omega arith)

pub returns-else-spared : goal.returns-else-spared
unfolding warn_lines
returns-else-spared c =
    let e = idle_so c.args.t.now c.args.w.now c.args.n c.args.i c.args.spared c.if-spared.false in
    let q = c.code_of.ensures ∙ ap (λ (k : ℕ). unused (sort_of k)) c.kind_at.ensures.0 in
    (c.warn.ensures.0 ∙ ap (λ (l : Lines). l.count) e, rw (← q) c.warn.ensures.1 ∙ ap (λ (l : Lines). l.words) e, c.warn.ensures.2)
