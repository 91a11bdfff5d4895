use Prim.Native.Nat.{◌+◌, ◌-◌}
use native.Mathlib.Omega.{arith}
use mathlib.Core.Path.{◌≡◌, sym, ◌∙◌}
use lib.ListN.{length}
use Rattle.tree.proofs.TableLaws.{same_differ, same_next, same_end}
use Rattle.tree.proofs.bytes.bytes_are.Goals as goal

pub loop-i-init : goal.loop-i-init
loop-i-init c =
    let o = c.args.o in
    let name = c.args.name.now in
    let p : length name - 0 ≡ length name = omega arith in let q : o + 0 ≡ o = omega arith in rw (p, q)

pub returns-then-byte_at-from : goal.returns-then-byte_at-from
returns-then-byte_at-from c =
    let t = c.args.t.now in
    let o = c.args.o in
    let name = c.args.name.now in
    let i = c.loop-i.i in
    sym (same_differ t name o i c.loop-i-test.true (λ q. c.if-byte_at-from.true (c.byte_at.ensures.0 ∙ q ∙ sym c.from.ensures))) ∙ c.loop-i.invariant

pub loop-i-preserved : goal.loop-i-preserved
loop-i-preserved c =
    let t = c.args.t.now in
    let o = c.args.o in
    let name = c.args.name.now in
    let i = c.loop-i.i in
    same_next t name o i c.loop-i-test.true (sym c.byte_at.ensures.0 ∙ c.if-byte_at-from.false ∙ c.from.ensures) ∙ c.loop-i.invariant

pub returns : goal.returns
returns c =
    let t = c.args.t.now in
    let o = c.args.o in
    let name = c.args.name.now in
    let i = c.loop-i.i in
    sym (same_end t name o i (omega arith)) ∙ c.loop-i.invariant
