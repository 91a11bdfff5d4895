use Rattle.tree.specs.Forest.{node_head}
use Rattle.answer.specs.Note.{rec_of, span_of, value_of, node_of}
use Rattle.answer.proofs.Flat.{added_none, added_as}
use Rattle.incompatible.proofs.Checks.{check_no, check_left, check_right, check_put}
use Rattle.incompatible.proofs.types.Types.match_bad_type_equality.Goals as goal

pub returns-then-not-compares : goal.returns-then-not-compares
returns-then-not-compares c =
    rw (check_no c.args.self.now c.args.t.now c.args.i (rw c.kind_at.ensures.0 at c.if-not-compares.ensures)) (added_none _)

pub returns-then-not-is_type_call : goal.returns-then-not-is_type_call
returns-then-not-is_type_call c =
    rw (check_left c.args.self.now c.args.t.now c.args.i (rw c.size_at.ensures.0 at c.if-not-is_type_call.ensures)) (added_none _)

pub returns-in-Some : goal.returns-in-Some
unfolding node_head rec_of span_of value_of node_of
returns-in-Some c =
    added_as _
    (check_put c.args.self.now c.args.t.now c.args.i c.in-Some.j (rw c.kind_at.ensures.0 at c.if-not-compares.ensures) (rw c.size_at.ensures.0 at c.if-not-is_type_call.ensures) (rw c.size_at.ensures.0 at c.in-Some.ensures))
    c.put.ensures

pub returns-in_default : goal.returns-in_default
returns-in_default c =
    rw (check_right c.args.self.now c.args.t.now c.args.i (rw c.size_at.ensures.0 at c.in_default.ensures)) (added_none _)
