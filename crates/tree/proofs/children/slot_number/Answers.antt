use borrow.Author.Rules.{rules}
use mathlib.Core.Path.{sym, ◌∙◌}
use mathlib.Core.List.{[]}
use mathlib.Core.Logic.{inl, inr}
use Rattle.tree.proofs.Slots.{digit_far, digit_past, digit_small, row_list, row_read}
use Rattle.tree.proofs.children.slot_number.Goals as goal

pub returns-then-r-lt9 : goal.returns-then-r-lt9
unfolding row_list
returns-then-r-lt9 c =
    let e = row_read [] c.args.k c.args.r c.if-k-lt48.true c.if-r-lt9.true in
    (c.from.ensures ∙ e, rw (c.from.ensures, e) (digit_small c.args.k c.args.r c.if-k-lt48.true c.if-r-lt9.true))

pub returns-else-k-lt48 : goal.returns-else-k-lt48
returns-else-k-lt48 c =
    elim c.else-k-lt48.either [
      | inl w ↦ (sym (digit_past c.args.k c.args.r w.1), search rules)
      | inr w ↦ (sym (digit_far c.args.k c.args.r w), search rules)
    ]
