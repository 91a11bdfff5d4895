use Rattle.answer.specs.Page.{Added}
use Rattle.names.specs.Records.{records_of}
use Rattle.names.proofs.records.Given as goal

abbrev pub invariant-loop-k : goal.invariant-loop-k
invariant-loop-k l = Added l.initial.sheet l.sheet (records_of l.t l.w l.k)
