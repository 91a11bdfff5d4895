use native.Mathlib.Omega.{arith}
use mathlib.Core.Path.{sym, ◌∙◌}
use Rattle.std.proofs.lemmas.Bool.{not_from_false, not_from_true}
use Rattle.tree.specs.declared.Refusal.TheVariants.{Children}
use Rattle.tree.specs.code.Kids.{bad7}
use Rattle.tree.proofs.Search.{clear_more, lowest_at}
use Rattle.tree.proofs.Six.{six_sized, six_ends, seven, seven_root}
use Rattle.tree.proofs.children.check_children.Goals as goal

pub returns-then-not-root_ok : goal.returns-then-not-root_ok
returns-then-not-root_ok c =
    lowest_at Children c.args.n 0 (bad7 c.args.t.now c.args.n) (omega arith) (omega arith) (seven_root c.args.t.now c.args.n (sym c.root_ok.ensures ∙ c.if-not-root_ok.true))

pub kids_ok-requires : goal.kids_ok-requires
kids_ok-requires c =
    let s = six_ends c.args.t.now c.args.n c.args.nv c.requires.2 c.loop-i.i c.loop-i-test.true in
    (omega arith, omega arith, λ j h. six_sized c.args.t.now c.args.n c.args.nv c.requires.2 j (omega arith))

pub returns-then-not-kids_ok : goal.returns-then-not-kids_ok
returns-then-not-kids_ok c =
    lowest_at Children c.args.n c.loop-i.i (bad7 c.args.t.now c.args.n) (omega arith) c.loop-i.invariant (seven c.args.t.now c.args.n c.loop-i.i (sym c.root_ok.ensures ∙ c.if-not-root_ok.false) ∙ not_from_false _ (rw c.kids_ok.ensures at c.if-not-kids_ok.true))

pub loop-i-preserved : goal.loop-i-preserved
loop-i-preserved c =
    clear_more c.args.n c.loop-i.i (bad7 c.args.t.now c.args.n) (omega arith) c.loop-i.invariant (seven c.args.t.now c.args.n c.loop-i.i (sym c.root_ok.ensures ∙ c.if-not-root_ok.false) ∙ not_from_true _ (rw c.kids_ok.ensures at c.if-not-kids_ok.false))
