use Prim.Native.Nat.{◌+◌, ◌*◌, ◌-◌, ◌≤◌}
use native.Mathlib.Omega.{arith}
use mathlib.Core.Path.{◌≡◌, refl, sym, ◌∙◌}
use mathlib.Core.List.{◌∷◌}
use lib.Dec.{eqb}
use lib.ListN.{length, get_or, drop}
use Rattle.page.proofs.Pages.{added_then, added_retold, from_start}
use Rattle.page.proofs.Going.{adding_first, adding_next, adding_last}
use Rattle.rules.specs.Record.{words, width}
use Rattle.rules.specs.Afterwards.{record_in, records_in}
use Rattle.text.specs.Text.{line, records}
use Rattle.text.specs.Pieces.{end_of, ended}
use Rattle.text.proofs.Lines.{line_next, line_end, record_next, records_next, records_end, ended_added, listing_added, refused_added, tally_added, tally_none}
use Rattle.text.proofs.Told.{room_for, text_listed, text_refused}
use Rattle.text.proofs.refused.Goals as goal

pub returns : goal.returns
returns c =
    let s = c.new-w.ensures in
    let a = refused_added c.args.why c.number.ensures c.place.ensures c.raw.ensures c.counts.ensures in
    let e = c.out-1.given.1.1 (sym (a.same_room ∙ s.same_room)) in
    rw e (from_start s.start.0 s.start.1 a)
