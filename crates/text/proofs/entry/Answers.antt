use Prim.Native.Nat.{◌+◌, ◌*◌, ◌-◌, ◌≤◌}
use native.Mathlib.Omega.{arith}
use mathlib.Core.Path.{◌≡◌, refl, sym, ◌∙◌}
use mathlib.Core.List.{◌∷◌}
use lib.Dec.{eqb}
use lib.ListN.{length, get_or, drop}
use Rattle.page.proofs.Pages.{added_then, added_retold, from_start}
use Rattle.page.proofs.Going.{adding_first, adding_next, adding_last}
use Rattle.rules.specs.Record.{words, width}
use Rattle.rules.specs.Afterwards.{record_in, records_in}
use Rattle.text.specs.Text.{line, records}
use Rattle.text.specs.Pieces.{end_of, ended}
use Rattle.text.proofs.Lines.{line_next, line_end, record_next, records_next, records_end, ended_added, listing_added, refused_added, tally_added, tally_none}
use Rattle.text.proofs.Told.{room_for, text_listed, text_refused}
use Rattle.text.proofs.entry.Goals as goal

pub loop-k-init : goal.loop-k-init
loop-k-init c = adding_first c.args.w.now (line (words (record_in (drop c.args.first c.args.room.now))))

pub loop-k-preserved : goal.loop-k-preserved
loop-k-preserved c =
    let l = c.loop-k in
    let a = c.args in
    let e = ended_added 11 (get_or a.room.now (a.first + l.k) 0) (eqb (l.k + 1) width) c.number.ensures c.after.ensures (omega arith) in
    adding_next (11 * (l.k + 1)) (ended (get_or a.room.now (a.first + l.k) 0) (eqb (l.k + 1) width)) (line (drop (l.k + 1) (words (record_in (drop a.first a.room.now))))) l.invariant e (record_next a.room.now a.first l.k (omega arith)) (omega arith)

pub returns : goal.returns
returns c =
    let l = c.loop-k in
    adding_last (11 * width) l.invariant (line_end (words (record_in (drop c.args.first c.args.room.now))) l.k (omega arith)) (omega arith)
