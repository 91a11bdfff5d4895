use Rattle.std.proofs.Common.{rules}
use mathlib.Core.Path.{sym, ◌∙◌}
use Rattle.names.proofs.Telling.{short_of, listed_of}
use Rattle.names.proofs.answer_of.Goals as goal

pub returns-then-out-n : goal.returns-then-out-n
returns-then-out-n c =
    short_of _ _ c.args.n c.requires c.args.out.now _ _ c.if-out-n.true c.refused.ensures.0 c.refused.ensures.1

pub returns : goal.returns
returns c =
    listed_of _ _ c.args.n c.requires c.args.out.now _ c.listed.result c.new-sheet.result c.records.new.sheet c.if-out-n.false c.new-sheet.ensures.0 c.records.ensures c.listed.ensures.0 c.listed.ensures.1
    (search (rules, c.records.ensures.same_room, c.new-sheet.ensures.1))
