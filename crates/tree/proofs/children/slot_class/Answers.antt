use mathlib.Core.Path.{◌∙◌}
use Rattle.tree.proofs.Slots.{class_at}
use Rattle.tree.proofs.children.slot_class.Goals as goal

pub returns : goal.returns
returns c = c.form_of.ensures.class ∙ rw c.slot_number.ensures.0 (class_at c.args.k c.args.r)
