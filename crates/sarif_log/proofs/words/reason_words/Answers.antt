use native.Mathlib.Omega.{arith}
use mathlib.Core.Path.{sym, ap}
use Rattle.base.specs.Ascii.{ascii}
use Rattle.sarif_log.proofs.Plainly.{no_reason_words}
use Rattle.sarif_log.proofs.words.reason_words.Goals as goal

pub returns-in-1 : goal.returns-in-1
returns-in-1 c = rw c.in-1.is

pub returns-in-2 : goal.returns-in-2
returns-in-2 c = rw c.in-2.is

pub returns-in_default : goal.returns-in_default
returns-in_default c = sym (ap ascii (no_reason_words c.args.reason (λ q. omega arith) (λ q. omega arith)))
