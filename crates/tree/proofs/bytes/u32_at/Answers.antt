use borrow.Author.Rules.{rules}
use mathlib.Core.Path.{sym}
use Rattle.tree.specs.Bytes.{u32_at}
use Rattle.tree.proofs.Past.{u32_past}
use Rattle.tree.proofs.bytes.u32_at.Goals as goal

pub returns-then-s-at : goal.returns-then-s-at
returns-then-s-at c = (sym (u32_past c.args.s.now c.args.at c.if-s-at.true), search rules)

pub returns : goal.returns
unfolding u32_at
returns c = search rules
