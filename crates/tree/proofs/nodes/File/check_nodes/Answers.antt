use native.Mathlib.Omega.{arith}
use Rattle.tree.specs.declared.Refusal.TheVariants.{Node}
use Rattle.tree.specs.code.Stages.{bad6}
use Rattle.tree.proofs.Search.{lowest_at, clear_more}
use Rattle.std.proofs.lemmas.Bool.{not_from_false, not_from_true}
use Rattle.tree.proofs.nodes.File.check_nodes.Goals as goal

pub returns-then-not-node_ok : goal.returns-then-not-node_ok
unfolding bad6
returns-then-not-node_ok c =
    lowest_at Node c.args.self.now.says.nodes c.loop-i.i (bad6 c.args.self.now.t.now c.args.self.now.says.nodes c.args.self.now.says.values) (omega arith) c.loop-i.invariant (not_from_false _ (rw c.node_ok.ensures at c.if-not-node_ok.true))

pub loop-i-preserved : goal.loop-i-preserved
unfolding bad6
loop-i-preserved c =
    clear_more c.args.self.now.says.nodes c.loop-i.i (bad6 c.args.self.now.t.now c.args.self.now.says.nodes c.args.self.now.says.values) (omega arith) c.loop-i.invariant (not_from_true _ (rw c.node_ok.ensures at c.if-not-node_ok.false))
