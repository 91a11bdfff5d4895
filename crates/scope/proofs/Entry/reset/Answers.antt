use mathlib.Core.Path.{◌≡◌, sym, ◌∙◌}
use mathlib.Core.Bool.{true, false}
use lib.Dec.{eqb}
use Rattle.tree.specs.Bytes.{value_at}
use Rattle.scope.specs.Words.{alike_at, reset_of}
use Rattle.scope.proofs.Entry.reset.Goals as goal

pub returns-then-same_name : goal.returns-then-same_name
unfolding alike_at reset_of
returns-then-same_name c =
    let q : eqb (value_at c.args.t.now c.args.k) (value_at c.args.t.now c.args.i) ≡ true = sym c.same_name.ensures ∙ c.if-same_name.true in rw (q, c.new.ensures, c.same_spot.ensures)

pub returns-else-same_name : goal.returns-else-same_name
unfolding alike_at reset_of
returns-else-same_name c =
    let q : eqb (value_at c.args.t.now c.args.k) (value_at c.args.t.now c.args.i) ≡ false = sym c.same_name.ensures ∙ c.if-same_name.false in rw q
