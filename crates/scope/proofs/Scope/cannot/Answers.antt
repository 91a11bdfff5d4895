use Rattle.scope.specs.Words.{cannot_scope, cannot_words}
use Rattle.scope.proofs.Scope.cannot.Goals as goal

pub returns : goal.returns
unfolding cannot_scope cannot_words
returns c = (rw (c.join_list.ensures.0, c.cant_set.ensures.0, c.cant_set.ensures.1), rw (c.cant_set.ensures.0, c.cant_set.ensures.1) at c.join_list.ensures.1)
