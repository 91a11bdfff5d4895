-- The invariant: a is what the bytes before i say, and below 2^60 + 256.
use Prim.Native.Nat.{ℕ, ◌+◌, ◌*◌, ◌-◌, ◌/◌, ◌<◌, min}
use native.Mathlib.Omega.{arith}
use mathlib.Core.Path.{◌≡◌, sym, ◌∙◌}
use lib.ListN.{get_or}
use Rattle.tree.specs.Bytes.{bytes_from}
use Rattle.tree.specs.Values.{magnitude, onward}
use Rattle.tree.proofs.TableLaws.{onward_grows, onward_next, onward_end}
use Rattle.tree.proofs.keys.leading.Goals as goal

capped : (m x : ℕ) → x < m → x + 1 ≡ min m (x + 1)
capped m x h = omega arith

pub returns-then-x-a : goal.returns-then-x-a
returns-then-x-a c =
    let t = c.args.t.now in
    let k = c.args.k in
    let o = c.args.o in
    let x = c.args.x in
    let i = c.loop-i.i in
    let a = c.loop-i.a in
    let e : onward (a * 256 + get_or t (o + i) 0) (bytes_from (k - (i + 1)) t (o + (i + 1))) ≡ magnitude (bytes_from k t o) = onward_next t k o i a c.loop-i-test.true ∙ c.loop-i.invariant.1 in
    let g = onward_grows (bytes_from (k - (i + 1)) t (o + (i + 1))) (a * 256 + get_or t (o + i) 0) in
    let l : x / 256 < a = c.if-x-a.true in
    capped (magnitude (bytes_from k t o)) x (omega (arith, g, e, l))

pub loop-i-preserved : goal.loop-i-preserved
loop-i-preserved c =
    let t = c.args.t.now in
    let k = c.args.k in
    let o = c.args.o in
    let i = c.loop-i.i in
    let a = c.loop-i.a in
    let e : onward (a * 256 + c.byte_at.result) (bytes_from (k - (i + 1)) t (o + (i + 1))) ≡ magnitude (bytes_from k t o) = rw c.byte_at.ensures.0 (onward_next t k o i a c.loop-i-test.true ∙ c.loop-i.invariant.1) in
    (omega arith, e)

pub returns : goal.returns
returns c =
    let e = sym (onward_end c.args.t.now c.args.k c.args.o c.loop-i.i c.loop-i.a (omega arith)) ∙ c.loop-i.invariant.1 in
    omega (arith, e)
