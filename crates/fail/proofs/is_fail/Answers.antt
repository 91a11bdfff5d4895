use Prim.Native.Nat.{◌+◌}
use mathlib.Core.Path.{◌≡◌, refl}
use native.Mathlib.Omega.{arith}
use Rattle.tree.specs.Bytes.{size_at}
use Rattle.tree.proofs.Laws.{ended}
use Rattle.tree.proofs.Walked.{next_at, along_start, along_at, along_next, along_on, along_end}
use Rattle.fail.proofs.Laws.{called_end, called_here, called_next}
use Rattle.fail.proofs.is_fail.Goals as goal

pub loop-j-init : goal.loop-j-init
loop-j-init c = along_start refl c.siblings-rest.ensures (λ p. (p, refl))

pub is_call-requires : goal.is_call-requires
is_call-requires c = let x = along_next c.loop-j.invariant c.in-Some.ensures.steps.0 in omega (arith, x.further, x.within)

pub returns-then-is_call : goal.returns-then-is_call
returns-then-is_call c =
    let h = along_at c.loop-j.invariant c.in-Some.ensures.steps.0 in
    let x = along_next c.loop-j.invariant c.in-Some.ensures.steps.0 in
    called_here c.args.fail (λ q. omega (arith, next_at x q, ended q x.within)) c.is_call.ensures h.1 h.0 c.if-is_call.true

pub loop-j-preserved : goal.loop-j-preserved
loop-j-preserved c =
    along_on c.loop-j.invariant c.in-Some.ensures.steps.0 (λ x h p.
    let q = (h p).0 in
    let m : c.min.result ≡ c.next.new.self.at = omega (arith, next_at x q, ended q x.within) in
    rw m at (called_next c.args.fail (λ r. omega (arith, next_at x r, ended r x.within)) c.is_call.ensures h x.within c.if-is_call.false p))

pub returns : goal.returns
returns c =
    let h = along_end c.loop-j.invariant c.in_default.ensures.steps.0 in called_end c.args.fail h.1 h.0
