use native.Mathlib.Omega.{arith}
use mathlib.Core.Path.{refl, ◌∙◌}
use Rattle.std.proofs.lemmas.Result.{err_from_is_err_and}
use Rattle.tree.specs.code.Stages.{facts_at}
use Rattle.tree.proofs.Judges.{sections_wrong, value_wrong, values_right}
use Rattle.tree.proofs.judge_sections.Goals as goal

pub returns-then-rest-listed_of : goal.returns-then-rest-listed_of
returns-then-rest-listed_of c =
    sections_wrong c.args.t.now c.args.nodes c.args.values c.args.globals (λ q. c.if-rest-listed_of.true (omega (arith, q, c.offset_of-rest.ensures.0, c.listed_of.ensures.0)))

pub returns-in_err-check_values : goal.returns-in_err-check_values
returns-in_err-check_values c =
    let p = err_from_is_err_and c.from_residual.result c.from_residual.ensures.1 in
    rw (p.1, p.2) (value_wrong c.args.t.now c.args.nodes c.args.values c.args.globals _ (omega (arith, c.if-rest-listed_of.false, c.offset_of-rest.ensures.0, c.listed_of.ensures.0)) c.in_err-check_values.ensures)

pub judge_nodes-requires : goal.judge_nodes-requires
unfolding facts_at
judge_nodes-requires c = (
  record {
    some_nodes = c.requires.3;
    few_nodes = c.requires.0;
    few_values = c.requires.1;
    names = c.count_names.ensures;
    rest = c.offset_of-rest.ensures.0;
    early = omega (arith, c.offset_of-rest.ensures.1);
    none5 = c.in_ok-check_values.ensures;
  },
  c.requires.2,
  rw (c.version_of.ensures.0, c.count_names.ensures, c.offset_of-rest.ensures.0) refl,
)

pub returns : goal.returns
returns c =
    c.judge_nodes.ensures ∙ values_right c.args.t.now c.args.nodes c.args.values c.args.globals (omega (arith, c.if-rest-listed_of.false, c.offset_of-rest.ensures.0, c.listed_of.ensures.0)) c.in_ok-check_values.ensures
