use native.Mathlib.Omega.{arith}
use Rattle.tree.specs.Forest.{node_head, node_spot}
use Rattle.answer.proofs.Flat.{going_on, going_end}
use Rattle.flow.proofs.ReturnsLaws.{tidy_later, bare_next, bare_past}
use Rattle.flow.proofs.returns.bare_returns.Goals as goal

pub loop-j-preserved : goal.loop-j-preserved
loop-j-preserved c =
    let t = c.args.t.now in
    let d = c.args.d in
    (tidy_later c.loop-j.invariant.0 (omega (arith, c.next-j.ensures)), going_on c.loop-j.invariant.1 _ _ c.bare_return.ensures (bare_next (node_head t d.at) (node_spot t d.name) (node_head t d.why) c.loop-j.invariant.0 c.loop-j-test.true _ c.next-j.ensures))

pub returns : goal.returns
returns c =
    let t = c.args.t.now in
    let d = c.args.d in
    going_end c.loop-j.invariant.1 (bare_past (node_head t d.at) (node_spot t d.name) (node_head t d.why) t c.loop-j.j c.args.e c.loop-j-test.false)
