use mathlib.Core.Path.{◌≡◌, sym, ◌∙◌}
use mathlib.Core.Bool.{true, false}
use Rattle.scope.specs.State.{node_in}
use Rattle.scope.specs.Words.{alike_at}
use Rattle.scope.specs.declared.table.Like.TheVariants.{Name}
use Rattle.scope.proofs.Steps.{mark_so, mark_other, mark_not}
use Rattle.scope.proofs.mark_one.Goals.{else-held-via-then-held+else-same_name, else-held-via-else-held}
use Rattle.scope.proofs.mark_one.Goals as goal

pub returns-then-same_name : goal.returns-then-same_name
unfolding alike_at
returns-then-same_name c =
    let e : alike_at c.args.t.now Name c.args.i (node_in c.args.w.now c.args.j) ≡ true = rw (← c.word_at.ensures.0) (sym c.same_name.ensures ∙ c.if-same_name.true) in
    c.store.ensures ∙ mark_so c.args.t.now c.args.held c.args.w.now c.args.j c.args.i c.if-held.true e

pub returns-else-held : goal.returns-else-held
unfolding alike_at
returns-else-held c =
    elim c.else-held.branch [
      | else-held-via-then-held+else-same_name w ↦
          let e : alike_at c.args.t.now Name c.args.i (node_in c.args.w.now c.args.j) ≡ false = rw (← w.word_at.ensures.0) (sym w.same_name.ensures ∙ w.if-same_name.false) in
          mark_other c.args.t.now c.args.held c.args.w.now c.args.j c.args.i w.if-held.true e
      | else-held-via-else-held w ↦ mark_not c.args.t.now c.args.held c.args.w.now c.args.j c.args.i w.if-held.false
    ]
