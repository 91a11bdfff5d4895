use Prim.Native.Nat.{◌+◌, ◌*◌, ◌-◌, ◌≤◌}
use native.Mathlib.Omega.{arith}
use mathlib.Core.Path.{◌≡◌, refl, sym, ◌∙◌}
use mathlib.Core.List.{◌∷◌}
use lib.Dec.{eqb}
use lib.ListN.{length, get_or, drop}
use Rattle.page.proofs.Pages.{added_then, added_retold, from_start}
use Rattle.page.proofs.Going.{adding_first, adding_next, adding_last}
use Rattle.rules.specs.Record.{words, width}
use Rattle.rules.specs.Afterwards.{record_in, records_in}
use Rattle.text.specs.Text.{line, records}
use Rattle.text.specs.Pieces.{end_of, ended}
use Rattle.text.proofs.Lines.{line_next, line_end, record_next, records_next, records_end, ended_added, listing_added, refused_added, tally_added, tally_none}
use Rattle.text.proofs.Told.{room_for, text_listed, text_refused}
use Rattle.text.proofs.records.Goals as goal

pub loop-r-init : goal.loop-r-init
loop-r-init c =
    let a = c.args in
    let z : a.many - 0 ≡ a.many = omega arith in
    rw z (adding_first a.w.now (records (records_in a.many a.room.now)))

pub overflow_mul-r : goal.overflow_mul-r
overflow_mul-r c = let p = c.requires in omega arith

pub entry-requires : goal.entry-requires
entry-requires c = let p = c.requires in omega arith

pub loop-r-preserved : goal.loop-r-preserved
loop-r-preserved c =
    let l = c.loop-r in
    let a = c.args in
    adding_next (11 * width * (l.r + 1)) (line (words (record_in (drop (width * l.r) a.room.now)))) (records (records_in (a.many - (l.r + 1)) (drop (width * (l.r + 1)) a.room.now))) l.invariant c.entry.ensures (records_next a.room.now a.many l.r (omega arith)) (omega arith)

pub returns : goal.returns
returns c =
    let l = c.loop-r in
    let a = c.args in
    adding_last (11 * width * a.many) l.invariant (records_end a.room.now a.many l.r (omega arith)) (omega arith)
