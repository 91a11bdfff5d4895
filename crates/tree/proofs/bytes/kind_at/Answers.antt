use Prim.Native.Nat.{◌+◌}
use native.Mathlib.Omega.{arith}
use mathlib.Core.Path.{◌≡◌, ◌∙◌}
use Rattle.tree.specs.Bytes.{node_at, kind_at}
use Rattle.tree.proofs.Past.{byte_there}
use Rattle.tree.proofs.bytes.kind_at.Goals as goal

pub returns : goal.returns
unfolding kind_at
returns c =
    let o = c.start_of.result in
    let q : o + 0 ≡ o = omega arith in
    (c.byte_at.ensures.0 ∙ rw q at (byte_there c.args.t.now (node_at c.args.i) o 0 c.start_of.ensures.0), c.byte_at.ensures.1)
