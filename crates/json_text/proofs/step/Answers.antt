-- Inside a character, and where none begins, one of a byte, or one of more. Assumes nothing.
use Prim.Native.Nat.{suc}
use native.Mathlib.Omega.{arith}
use mathlib.Core.Path.{refl, ap}
use lib.ListN.{get_or}
use Rattle.json_text.proofs.Pieces.{unit_none, unit_one, unit_more, step_inside, step_begin, left_inside, left_begin}
use Rattle.json_text.proofs.step.Goals as goal

pub returns-then-left-gt0-clause-written : goal.returns-then-left-gt0-clause-written
returns-then-left-gt0-clause-written c =
    step_inside c.args.s.now 0 c.args.left c.requires c.if-left-gt0.true c.put.ensures

pub returns-then-left-gt0-clause-after : goal.returns-then-left-gt0-clause-after
returns-then-left-gt0-clause-after c = left_inside c.args.s.now c.args.left c.if-left-gt0.true

pub returns-in-None-clause-written : goal.returns-in-None-clause-written
returns-in-None-clause-written c =
    let s = c.args.s.now in
    step_begin s 0 c.args.left 0 c.requires c.if-left-gt0.false c.in-None.ensures (unit_none 0 (get_or s 0 0) refl c.raw.ensures)

pub returns-in-None-clause-after : goal.returns-in-None-clause-after
returns-in-None-clause-after c = left_begin c.args.s.now c.args.left 0 c.if-left-gt0.false c.in-None.ensures

pub returns-in-Some-eq0-clause-written : goal.returns-in-Some-eq0-clause-written
returns-in-Some-eq0-clause-written c =
    let s = c.args.s.now in
    let k = suc c.in-Some-eq0.field-0 in
    step_begin s 0 c.args.left k c.requires c.if-left-gt0.false c.in-Some-eq0.ensures
    (unit_one k (get_or s 0 0) (ap suc c.in-Some-eq0.field-0-test) c.ascii_byte.ensures)

pub returns-in-Some-eq0-clause-after : goal.returns-in-Some-eq0-clause-after
returns-in-Some-eq0-clause-after c =
    omega (arith, left_begin c.args.s.now c.args.left (suc c.in-Some-eq0.field-0) c.if-left-gt0.false c.in-Some-eq0.ensures)

pub returns-in-Some-clause-written : goal.returns-in-Some-clause-written
returns-in-Some-clause-written c =
    let s = c.args.s.now in
    let k = suc c.in-Some.k in
    step_begin s 0 c.args.left k c.requires c.if-left-gt0.false c.in-Some.ensures
    (unit_more k (get_or s 0 0) (λ e. omega arith) (λ e. c.in-Some.k-test.1 (omega arith)) c.put-in-Some.ensures)

pub returns-in-Some-clause-after : goal.returns-in-Some-clause-after
returns-in-Some-clause-after c =
    omega (arith, left_begin c.args.s.now c.args.left (suc c.in-Some.k) c.if-left-gt0.false c.in-Some.ensures)
