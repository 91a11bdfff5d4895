use native.Mathlib.Omega.{arith}
use mathlib.Core.Path.{refl, ap}
use Rattle.base.specs.Ascii.{ascii}
use Rattle.sarif_log.proofs.Plainly.{no_second}
use Rattle.sarif_log.proofs.words.second_words.Goals as goal

pub returns-then-code : goal.returns-then-code
returns-then-code c = let e = c.if-code.true in rw e (refl, omega arith)

pub returns-then-code-2 : goal.returns-then-code-2
returns-then-code-2 c = let e = c.if-code-2.true in rw e (refl, omega arith)

pub returns-then-code-3 : goal.returns-then-code-3
returns-then-code-3 c = let e = c.if-code-3.true in rw e (refl, omega arith)

pub returns-then-code-4 : goal.returns-then-code-4
returns-then-code-4 c = let e = c.if-code-4.true in rw e (refl, omega arith)

pub returns-else-code-4 : goal.returns-else-code-4
returns-else-code-4 c = ap ascii (no_second c.args.code c.if-code.false c.if-code-2.false c.if-code-3.false c.if-code-4.false)
