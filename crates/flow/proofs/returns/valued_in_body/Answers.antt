use mathlib.Core.Path.{sym, ap, ◌∙◌}
use Rattle.rules.specs.Flow.{first_valued as the_first}
use Rattle.flow.proofs.ReturnsLaws.{body_tidy, body_returns}
use Rattle.flow.proofs.returns.valued_in_body.Goals as goal

pub first_valued-requires : goal.first_valued-requires
first_valued-requires c =
    rw c.size_at-2.ensures.0 (body_tidy c.requires (rw c.size_at.ensures.0 at c.in_ok-b.ensures))

pub returns : goal.returns
returns c =
    (rw c.size_at-2.ensures.0 at c.first_valued.ensures) ∙ ap the_first (sym (body_returns c.requires (rw c.size_at.ensures.0 at c.in_ok-b.ensures)))
