use Rattle.std.proofs.Common.{rules, ◌+◌}
use lib.Dec.{eqb}
use Rattle.tree.specs.Bytes.{size_at}
use Rattle.tree.specs.Forest.{forest_of}
use Rattle.flow.proofs.ReturnsLaws.{reason_either}
use Rattle.flow.proofs.returns.reason.Goals as goal

pub returns : goal.returns
returns c =
    let below = forest_of c.args.t.now (c.args.i + 1) (c.args.i + size_at c.args.t.now c.args.i) in
    reason_either (λ v. eqb v c.args.none) c.args.t.now below c.require_return_expression.result c.or_else.result (rw c.size_at.ensures.0 at c.require_return_expression.ensures) c.or_else.ensures (λ k. search rules)
