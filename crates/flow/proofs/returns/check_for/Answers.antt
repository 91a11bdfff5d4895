use lib.Dec.{eqb}
use Rattle.tree.specs.Forest.{node_head}
use Rattle.answer.proofs.Flat.{added_as, added_both}
use Rattle.flow.proofs.ReturnsLaws.{body_tidy, for_both}
use Rattle.flow.proofs.returns.check_for.Goals as goal

pub bare_returns-requires : goal.bare_returns-requires
bare_returns-requires c =
    rw c.size_at-2.ensures.0 (body_tidy c.requires (rw c.size_at.ensures.0 at c.in-Some-child_of.ensures))

pub returns : goal.returns
returns c =
    λ q. added_as _ (for_both (λ v. eqb v c.args.fail) q c.requires (node_head c.args.t.now c.args.why) (rw c.size_at.ensures.0 at c.in-Some.ensures) (rw c.size_at.ensures.0 at c.in-Some-child_of.ensures))
    (added_both c.missing_return.ensures (rw c.size_at-2.ensures.0 at c.bare_returns.ensures))
