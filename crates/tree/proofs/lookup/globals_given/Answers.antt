use Rattle.tree.proofs.lookup.globals_given.Goals as goal

pub returns : goal.returns
returns c = rw (← c.global_count.ensures.0)
