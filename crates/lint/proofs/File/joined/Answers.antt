-- Names in the room that the others' records leave, then those records. Assumes nothing.
use native.Mathlib.Omega.{arith}
use mathlib.Core.Path.{sym, ap, ◌∙◌}
use Rattle.std.specs.Prelude.{Err}
use Rattle.lint.specs.Links.{after_names}
use Rattle.lint.proofs.Link.{about_list}
use Rattle.lint.proofs.First.{part_here, about_few, refusal_here, few_here, inside_here, fits_here, list_here}
use Rattle.lint.proofs.File.joined.Goals as goal

pub slice_bounds-lint_valid-end-2 : goal.slice_bounds-lint_valid-end-2
slice_bounds-lint_valid-end-2 c =
    let s = c.args.self.now in
    sym (part_here s.mode s.tree.now c.args.work.now c.args.out.now s.valid c.rest_needed-rest.ensures c.saturating_sub-lent.ensures)

pub overflow_mul-n : goal.overflow_mul-n
overflow_mul-n c =
    let s = c.args.self.now in
    let n = few_here s.mode s.tree.now c.args.work.now c.args.out.now s.valid c.rest_needed-rest.ensures c.saturating_sub-lent.ensures
    c.lint_valid-a.ensures c.in-Ok.n c.in-Ok.is c.if-rest-room.true in
    omega (arith, n)

pub offset_bounds-out-n : goal.offset_bounds-out-n
offset_bounds-out-n c =
    let s = c.args.self.now in
    let n = few_here s.mode s.tree.now c.args.work.now c.args.out.now s.valid c.rest_needed-rest.ensures c.saturating_sub-lent.ensures
    c.lint_valid-a.ensures c.in-Ok.n c.in-Ok.is c.if-rest-room.true in
    omega (arith, n)

pub slice_bounds-rest-count : goal.slice_bounds-rest-count
slice_bounds-rest-count c =
    let s = c.args.self.now in
    inside_here s.mode s.tree.now c.args.work.now c.args.out.now s.valid c.rest_needed-rest.ensures c.saturating_sub-lent.ensures
    c.lint_valid-a.ensures c.in-Ok.n c.in-Ok.is c.if-rest-room.true

pub slice_bounds-rest-start : goal.slice_bounds-rest-start
slice_bounds-rest-start c =
    let s = c.args.self.now in
    inside_here s.mode s.tree.now c.args.work.now c.args.out.now s.valid c.rest_needed-rest.ensures c.saturating_sub-lent.ensures
    c.lint_valid-a.ensures c.in-Ok.n c.in-Ok.is c.if-rest-room.true

pub rest-requires : goal.rest-requires
rest-requires c =
    let s = c.args.self.now in
    fits_here s.mode s.tree.now c.args.work.now c.args.out.now s.valid c.rest_needed-rest.ensures c.saturating_sub-lent.ensures
    c.lint_valid-a.ensures c.in-Ok.n c.in-Ok.is c.if-rest-room.true

pub after-requires : goal.after-requires
after-requires c =
    let s = c.args.self.now in
    let n = few_here s.mode s.tree.now c.args.work.now c.args.out.now s.valid c.rest_needed-rest.ensures c.saturating_sub-lent.ensures
    c.lint_valid-a.ensures c.in-Ok.n c.in-Ok.is c.if-rest-room.true in
    let m = about_list (record { valid = s.valid }) (after_names s.mode s.tree.now) _ _ _ _ c.rest.ensures in
    omega (arith, n, m)

pub refusal_with-requires : goal.refusal_with-requires
refusal_with-requires c =
    let s = c.args.self.now in
    let n = about_few s.mode s.tree.now c.args.work.now c.args.out.now s.valid c.rest_needed-rest.ensures c.saturating_sub-lent.ensures
    c.lint_valid-a.ensures in
    omega (arith, n)

pub returns-in-Ok : goal.returns-in-Ok
returns-in-Ok c =
    let s = c.args.self.now in
    list_here s.mode s.tree.now c.args.work.now c.args.out.now s.valid c.rest_needed-rest.ensures c.saturating_sub-lent.ensures
    c.lint_valid-a.ensures c.in-Ok.n c.in-Ok.is c.if-rest-room.true
    c.rest.result c.after.result c.rest.new.out c.rest.ensures c.after.ensures.0 c.after.ensures.1

pub returns-in_default : goal.returns-in_default
returns-in_default c =
    let s = c.args.self.now in
    refusal_here s.mode s.tree.now c.args.work.now c.args.out.now s.valid c.rest_needed-rest.ensures c.saturating_sub-lent.ensures
    c.lint_valid-a.ensures
    c.refused.result (λ n e. grind arith) (c.refused.ensures.0 ∙ ap Err c.refusal_with.ensures) c.refused.ensures.1
