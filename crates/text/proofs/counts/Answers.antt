use Prim.Native.Nat.{◌+◌, ◌*◌, ◌-◌, ◌≤◌}
use native.Mathlib.Omega.{arith}
use mathlib.Core.Path.{◌≡◌, refl, sym, ◌∙◌}
use mathlib.Core.List.{◌∷◌}
use lib.Dec.{eqb}
use lib.ListN.{length, get_or, drop}
use Rattle.page.proofs.Pages.{added_then, added_retold, from_start}
use Rattle.page.proofs.Going.{adding_first, adding_next, adding_last}
use Rattle.rules.specs.Record.{words, width}
use Rattle.rules.specs.Afterwards.{record_in, records_in}
use Rattle.text.specs.Text.{line, records}
use Rattle.text.specs.Pieces.{end_of, ended}
use Rattle.text.proofs.Lines.{line_next, line_end, record_next, records_next, records_end, ended_added, listing_added, refused_added, tally_added, tally_none}
use Rattle.text.proofs.Told.{room_for, text_listed, text_refused}
use Rattle.text.proofs.counts.Goals as goal

pub loop-k-init : goal.loop-k-init
loop-k-init c = adding_first c.args.w.now (line c.args.ns.now)

pub loop-k-preserved : goal.loop-k-preserved
loop-k-preserved c =
    let l = c.loop-k in
    let ns = c.args.ns.now in
    let e = ended_added 21 (get_or ns l.k 0) (eqb (l.k + 1) (length ns)) c.decimal.ensures c.after.ensures (omega arith) in
    adding_next (21 * (l.k + 1)) (ended (get_or ns l.k 0) (eqb (l.k + 1) (length ns))) (line (drop (l.k + 1) ns)) l.invariant e (line_next ns l.k (omega arith)) (omega arith)

pub returns : goal.returns
returns c =
    let l = c.loop-k in
    let ns = c.args.ns.now in
    adding_last (21 * length ns) l.invariant (line_end ns l.k (omega arith)) (omega arith)
