use Prim.Native.Nat.{ℕ}
use mathlib.Core.Path.{◌≡◌, sym, ap, ◌∙◌}
use mathlib.Core.Bool.{Bool, true, false, not}
use mathlib.Core.List.{List}
use borrow.Author.Tests.{both_ways, eqb-true, eqb-false}
use Rattle.tree.specs.Bytes.{kind_at, value_at}
use Rattle.tree.specs.Table.{table_of, underscored}
use Rattle.rules.specs.Names.{unused}
use Rattle.scope.specs.State.{sort_of}
use Rattle.scope.specs.Words.{spared_at}
use Rattle.scope.proofs.Steps.{spared_sort, spared_under, spared_held, spared_other, spared_below}
use Rattle.scope.proofs.spared_at.Goals.{then-held, else-held}
use Rattle.scope.proofs.spared_at.Goals as goal

spared_open : (t : List ℕ) (held : Bool) (i : ℕ) → held ≡ true → unused (sort_of (kind_at t i)) ≡ 2
    → (x : Bool) → underscored (table_of t) (value_at t i) ≡ x → not x ≡ spared_at t true held i
spared_open t held i h k true e = spared_under t held i k e
spared_open t held i h k false e = sym h ∙ spared_held t held i k e

pub returns-then-code_of : goal.returns-then-code_of
returns-then-code_of c =
    let u : underscored (table_of c.args.t.now) (value_at c.args.t.now c.args.i) ≡ c.begins_underscore.result = rw (← c.value_at.ensures.0) (sym c.begins_underscore.ensures) in
    elim c.if-held.branch [
      | then-held w ↦
          let q = w.code_of.ensures ∙ ap (λ (k : ℕ). unused (sort_of k)) w.kind_at.ensures.0 in
          rw c.if-top.true (spared_open c.args.t.now c.args.held c.args.i w.if-held.true (sym q ∙ eqb-true _ _ (sym w.value-is ∙ c.if-code_of.true)) _ u)
      | else-held w ↦ absurd (both_ways _ (w.value-is ∙ w.if-held.false) c.if-code_of.true)
    ]

pub returns-else-code_of : goal.returns-else-code_of
returns-else-code_of c =
    c.if-code_of.false ∙ rw c.if-top.true (elim c.if-held.branch [
      | then-held w ↦
          let q = w.code_of.ensures ∙ ap (λ (k : ℕ). unused (sort_of k)) w.kind_at.ensures.0 in
          spared_sort c.args.t.now c.args.held c.args.i (λ e. eqb-false _ _ (sym w.value-is ∙ c.if-code_of.false) (q ∙ e))
      | else-held w ↦ spared_other c.args.t.now c.args.held c.args.i w.if-held.false
    ])

pub returns-else-top : goal.returns-else-top
returns-else-top c =
    rw (c.if-top.false, c.begins_underscore-else-top.ensures, c.value_at-else-top.ensures.0) (spared_below c.args.t.now c.args.held c.args.i)
