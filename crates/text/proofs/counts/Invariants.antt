use Prim.Native.Nat.{◌*◌, ◌-◌}
use lib.ListN.{drop}
use Rattle.page.proofs.Going.{Adding}
use Rattle.rules.specs.Record.{words, width}
use Rattle.rules.specs.Afterwards.{record_in, records_in}
use Rattle.text.specs.Text.{line, records}
use Rattle.text.proofs.counts.Given as goal

abbrev pub invariant-loop-k : goal.invariant-loop-k
invariant-loop-k l = Adding l.initial.w l.w (21 * l.k) (line (drop l.k l.ns)) (line l.ns)
