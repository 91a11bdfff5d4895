use Prim.Native.Nat.{◌*◌, ◌-◌}
use lib.ListN.{drop}
use Rattle.page.proofs.Going.{Adding}
use Rattle.rules.specs.Record.{words, width}
use Rattle.rules.specs.Afterwards.{record_in, records_in}
use Rattle.text.specs.Text.{line, records}
use Rattle.text.proofs.records.Given as goal

abbrev pub invariant-loop-r : goal.invariant-loop-r
invariant-loop-r l = Adding l.initial.w l.w (11 * width * l.r) (records (records_in (l.many - l.r) (drop (width * l.r) l.room))) (records (records_in l.many l.room))
