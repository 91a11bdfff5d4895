use native.Mathlib.Omega.{arith}
use mathlib.Core.Path.{◌∙◌}
use Rattle.scope.proofs.Steps.{warn_joins}
use Rattle.scope.proofs.table.warn.Goals.{then-warned-end, else-warned-end}
use Rattle.scope.proofs.table.warn.Goals as goal

pub returns : goal.returns
returns c =
    let j = warn_joins c.args.t.now c.args.w.now c.args.n c.args.code c.args.i c.join_list-end.result c.join_list-end.new.w (omega arith) c.join_list-end.ensures.0 c.join_list-end.ensures.1 in (
      j.0,
      elim c.if-warned-end.branch [
        | then-warned-end w ↦ w.w-is ∙ w.store.ensures ∙ j.2 w.if-warned-end.true
        | else-warned-end w ↦ w.w-is ∙ j.3 w.if-warned-end.false
      ],
      j.1,
    )
