use Prim.Native.Nat.{◌+◌, ◌*◌, ◌-◌, ◌≤◌}
use native.Mathlib.Omega.{arith}
use mathlib.Core.Path.{◌≡◌, refl, sym, ◌∙◌}
use mathlib.Core.List.{◌∷◌}
use lib.Dec.{eqb}
use lib.ListN.{length, get_or, drop}
use Rattle.page.proofs.Pages.{added_then, added_retold, from_start}
use Rattle.page.proofs.Going.{adding_first, adding_next, adding_last}
use Rattle.rules.specs.Record.{words, width}
use Rattle.rules.specs.Afterwards.{record_in, records_in}
use Rattle.text.specs.Text.{line, records}
use Rattle.text.specs.Pieces.{end_of, ended}
use Rattle.text.proofs.Lines.{line_next, line_end, record_next, records_next, records_end, ended_added, listing_added, refused_added, tally_added, tally_none}
use Rattle.text.proofs.Told.{room_for, text_listed, text_refused}
use Rattle.text.proofs.after.Goals as goal

pub returns-then-last : goal.returns-then-last
returns-then-last c = added_retold 1 (λ rest. end_of c.args.last ∷ rest) c.put.ensures (omega arith) (λ rest. rw c.if-last.true)

pub returns-else-last : goal.returns-else-last
returns-else-last c = added_retold 1 (λ rest. end_of c.args.last ∷ rest) c.put-else-last.ensures (omega arith) (λ rest. rw c.if-last.false)
