use Prim.Native.Nat.{◌+◌, ◌*◌, ◌-◌, ◌≤◌}
use native.Mathlib.Omega.{arith}
use mathlib.Core.Path.{◌≡◌, refl, sym, ◌∙◌}
use mathlib.Core.List.{◌∷◌}
use lib.Dec.{eqb}
use lib.ListN.{length, get_or, drop}
use Rattle.page.proofs.Pages.{added_then, added_retold, from_start}
use Rattle.page.proofs.Going.{adding_first, adding_next, adding_last}
use Rattle.rules.specs.Record.{words, width}
use Rattle.rules.specs.Afterwards.{record_in, records_in}
use Rattle.text.specs.Text.{line, records}
use Rattle.text.specs.Pieces.{end_of, ended}
use Rattle.text.proofs.Lines.{line_next, line_end, record_next, records_next, records_end, ended_added, listing_added, refused_added, tally_added, tally_none}
use Rattle.text.proofs.Told.{room_for, text_listed, text_refused}
use Rattle.text.proofs.tally.Goals as goal
use borrow.Author.Rules.{rules}

pub returns-then-asked : goal.returns-then-asked
returns-then-asked c = tally_added c.args.asked c.args.ns c.if-asked.true (search rules) c.raw.ensures c.counts.ensures

pub returns-else-asked : goal.returns-else-asked
returns-else-asked c = tally_none c.args.w.now c.args.asked c.args.ns c.if-asked.false
