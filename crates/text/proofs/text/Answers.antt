use Prim.Native.Nat.{◌+◌, ◌*◌, ◌-◌, ◌≤◌}
use native.Mathlib.Omega.{arith}
use mathlib.Core.Path.{◌≡◌, refl, sym, ◌∙◌}
use mathlib.Core.List.{◌∷◌}
use lib.Dec.{eqb}
use lib.ListN.{length, get_or, drop}
use Rattle.page.proofs.Pages.{added_then, added_retold, from_start}
use Rattle.page.proofs.Going.{adding_first, adding_next, adding_last}
use Rattle.rules.specs.Record.{words, width}
use Rattle.rules.specs.Afterwards.{record_in, records_in}
use Rattle.text.specs.Text.{line, records}
use Rattle.text.specs.Pieces.{end_of, ended}
use Rattle.text.proofs.Lines.{line_next, line_end, record_next, records_next, records_end, ended_added, listing_added, refused_added, tally_added, tally_none}
use Rattle.text.proofs.Told.{room_for, text_listed, text_refused}
use Rattle.text.proofs.text.Goals as goal

pub listed-requires : goal.listed-requires
listed-requires c =
    let a = c.args in
    room_for a.mode a.t.now a.work.now a.answer.now c.lint-a.result c.lint-a.new.out c.lint-a.new.work c.lint-a.ensures c.in-Ok.n c.in-Ok.is

pub returns-in-Ok : goal.returns-in-Ok
returns-in-Ok c =
    let a = c.args in
    let s = c.new-w.ensures in
    let e = c.out-1.given.1.1 (sym (c.tally.ensures.same_room ∙ c.listed.ensures.same_room ∙ s.same_room)) in
    rw e (text_listed a.mode a.t.now a.work.now a.answer.now c.lint-a.result c.lint-a.new.out c.lint-a.new.work c.lint-a.ensures a.asked c.in-Ok.n c.in-Ok.is (from_start s.start.0 s.start.1 c.listed.ensures) c.tally.ensures.wrote)

pub returns-in-Err : goal.returns-in-Err
returns-in-Err c =
    let a = c.args in
    text_refused a.mode a.t.now a.work.now a.answer.now c.lint-a.result c.lint-a.new.out c.lint-a.new.work c.lint-a.ensures a.asked c.in-Err.why c.in-Err.is c.refused.ensures
