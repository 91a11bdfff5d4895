use Rattle.std.specs.Prelude.{◌≡◌, Some, None}
use Rattle.std.proofs.Common.{rules}
use Rattle.tree.specs.Forest.{node_head}
use mathlib.Core.Path.{sym, ◌∙◌}
use Rattle.answer.specs.Note.{rec_of, span_of, value_of, node_of}
use Rattle.answer.proofs.Flat.{added_none, added_as}
use Rattle.dubious.proofs.Steps.{clash_no, clash_key}
use Rattle.dubious.proofs.Walk.clash.Goals as goal
use Rattle.dubious.proofs.Walk.clash.Goals.{else-is_key-via-else-is_key, else-is_key-via-then-is_key+in-None-1}

pub returns-in-Some : goal.returns-in-Some
unfolding node_head rec_of span_of value_of node_of
returns-in-Some c =
    let ns = c.args.self.now.numbers.now in
    let t = c.args.self.now.t.now in
    added_as _ (clash_key ns t c.args.i c.args.j (Some c.in-Some.old) (sym c.if-is_key.true ∙ c.is_key.ensures) c.in-Some.ensures) (rw c.likeness.ensures at c.put.ensures)

pub returns-else-is_key : goal.returns-else-is_key
returns-else-is_key c =
    let ns = c.args.self.now.numbers.now in
    let t = c.args.self.now.t.now in
    elim c.else-is_key.branch [
      | else-is_key-via-else-is_key w ↦ rw (clash_no ns t c.args.i c.args.j (sym w.if-is_key.false ∙ c.is_key.ensures)) (added_none _)
      | else-is_key-via-then-is_key+in-None-1 w ↦
          let none : w.previous.result ≡ None = search rules in
          rw (clash_key ns t c.args.i c.args.j None (sym w.if-is_key.true ∙ c.is_key.ensures) (rw none at w.previous.ensures)) (added_none _)
    ]
