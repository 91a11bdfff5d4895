use Rattle.scope.specs.Words.{unbinds_scope, unbinds_words}
use Rattle.scope.proofs.Scope.unbinds.Goals as goal

pub returns : goal.returns
unfolding unbinds_scope unbinds_words
returns c = (rw (c.join_list.ensures.0, c.unbound.ensures.0, c.unbound.ensures.1), rw (c.unbound.ensures.0, c.unbound.ensures.1) at c.join_list.ensures.1)
