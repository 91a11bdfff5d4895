use borrow.Author.Tests.{le-ltb, ne_eqb}
use mathlib.Core.Path.{sym, ◌∙◌}
use Rattle.tree.specs.code.Numbers.{valued}
use Rattle.tree.proofs.WholeLaws.{high_value}
use Rattle.tree.proofs.floats.is_i32.Goals as goal

pub returns-else-w-eq0 : goal.returns-else-w-eq0
returns-else-w-eq0 c = ne_eqb _ _ c.if-w-eq0.false ∙ sym (le-ltb (valued c.args.w) 2147483648 (high_value c.args.w c.requires c.if-w-eq0.false))
