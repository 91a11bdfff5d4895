use borrow.Author.Tests.{lt-leb, eq-eqb}
use native.Mathlib.Omega.{arith}
use Rattle.tree.specs.code.Stages.{value_fits}
use Rattle.tree.proofs.Names.{literal_low}
use Rattle.tree.proofs.nodes.File.value_fits.Goals as goal

pub returns-else-self-v : goal.returns-else-self-v
unfolding value_fits
returns-else-self-v c =
    let z = literal_low c.args.self.now.t.now c.args.self.now.says.nodes c.args.self.now.says.values c.args.self.now.none5 c.args.v (omega (arith, c.args.self.now.names)) in
    simp (lt-leb _ _ c.if-self-v.false, eq-eqb _ _ c.if-k.true, z)
