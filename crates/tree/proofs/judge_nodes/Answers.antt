use mathlib.Core.Path.{ap, ◌∙◌}
use Rattle.std.specs.Prelude.{Ok}
use Rattle.std.proofs.lemmas.Result.{err_from_is_err_and}
use Rattle.tree.specs.Judge.{Judged}
use Rattle.tree.proofs.Judges.{node_wrong, children_wrong, depth_wrong, global_wrong, all_right}
use Rattle.tree.proofs.judge_nodes.Goals as goal

pub returns-in_err-check_nodes : goal.returns-in_err-check_nodes
returns-in_err-check_nodes c =
    let p = err_from_is_err_and c.from_residual.result c.from_residual.ensures.1 in
    rw (p.1, p.2) (node_wrong c.args.t.now c.args.f.nodes c.args.f.values c.args.f.globals _ c.in_err-check_nodes.ensures)

pub returns-in_err-check_children : goal.returns-in_err-check_children
returns-in_err-check_children c =
    let p = err_from_is_err_and c.from_residual-in_err-check_children.result c.from_residual-in_err-check_children.ensures.1 in
    rw (p.1, p.2) (children_wrong c.args.t.now c.args.f.nodes c.args.f.values c.args.f.globals c.in_ok-check_nodes.ensures _ c.in_err-check_children.ensures)

pub returns-in_err-check_depths : goal.returns-in_err-check_depths
returns-in_err-check_depths c =
    let p = err_from_is_err_and c.from_residual-in_err-check_depths.result c.from_residual-in_err-check_depths.ensures.1 in
    rw (p.1, p.2) (depth_wrong c.args.t.now c.args.f.nodes c.args.f.values c.args.f.globals c.in_ok-check_nodes.ensures c.in_ok-check_children.ensures _ c.in_err-check_depths.ensures)

pub returns-in_err-check_globals : goal.returns-in_err-check_globals
returns-in_err-check_globals c =
    let p = err_from_is_err_and c.from_residual-in_err-check_globals.result c.from_residual-in_err-check_globals.ensures.1 in
    rw (p.1, p.2) (global_wrong c.args.t.now c.args.f.nodes c.args.f.values c.args.f.globals c.in_ok-check_nodes.ensures c.in_ok-check_children.ensures c.in_ok-check_depths.ensures _ (rw c.listed_of.ensures.0 at c.in_err-check_globals.ensures))

pub returns : goal.returns
returns c =
    ap {B = Judged} Ok c.requires.2 ∙ all_right c.args.t.now c.args.f.nodes c.args.f.values c.args.f.globals c.in_ok-check_nodes.ensures c.in_ok-check_children.ensures c.in_ok-check_depths.ensures (rw c.listed_of.ensures.0 at c.in_ok-check_globals.ensures)
