use native.Mathlib.Omega.{arith}
use mathlib.Core.Path.{◌≡◌, sym, ◌∙◌}
use Rattle.tree.specs.code.Kids.{kids_from, filled}
use Rattle.tree.proofs.Kids.{filled_none, filled_more, filled_not}
use Rattle.tree.proofs.children.Kids.all_filled.Goals as goal

pub loop-r-init : goal.loop-r-init
loop-r-init c = filled_none c.args.self.now.t.now c.args.k (kids_from c.args.self.now.t.now c.args.self.now.from c.args.self.now.end)

pub returns-then-not-role_filled : goal.returns-then-not-role_filled
returns-then-not-role_filled c =
    let cs = kids_from c.args.self.now.t.now c.args.self.now.from c.args.self.now.end in
    let f : c.role_filled.result ≡ filled c.args.self.now.t.now c.args.k cs c.loop-r.r = c.role_filled.ensures c.args.k (sym c.slot_number.ensures.0) c.requires in
    sym (filled_not 9 c.args.self.now.t.now c.args.k cs c.loop-r.r c.loop-r-test.true (sym f ∙ c.if-not-role_filled.true))

pub loop-r-preserved : goal.loop-r-preserved
loop-r-preserved c =
    let cs = kids_from c.args.self.now.t.now c.args.self.now.from c.args.self.now.end in
    let f : c.role_filled.result ≡ filled c.args.self.now.t.now c.args.k cs c.loop-r.r = c.role_filled.ensures c.args.k (sym c.slot_number.ensures.0) c.requires in
    filled_more c.loop-r.r c.args.self.now.t.now c.args.k cs c.loop-r.invariant (sym f ∙ c.if-not-role_filled.false)

pub returns : goal.returns
returns c =
    let q : c.loop-r.r ≡ 9 = omega arith in
    sym (rw q at c.loop-r.invariant)
