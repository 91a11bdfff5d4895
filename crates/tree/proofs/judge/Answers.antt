use Prim.Native.Nat.{ℕ}
use mathlib.Core.Path.{◌≡◌, sym, ◌∙◌}
use mathlib.Core.List.{List}
use mathlib.Core.Bool.{true}
use Rattle.tree.specs.Bytes.{node_count, value_count, global_count}
use Rattle.tree.specs.Judge.{Judged, judged, marked, versioned}
use Rattle.tree.specs.code.Stages.{staged, judged3}
use Rattle.tree.proofs.Staged.{staged_same}
use Rattle.tree.proofs.Limits.{limits_facts}
use Rattle.tree.proofs.judge.Goals as goal

as-staged : (t : List ℕ) {x : Judged} → x ≡ staged t → x ≡ judged t
as-staged t e = e ∙ sym (staged_same t)

pub returns-then-not-has_mark : goal.returns-then-not-has_mark
unfolding staged
returns-then-not-has_mark c = as-staged _ (simp (sym c.has_mark.ensures ∙ c.if-not-has_mark.true))

pub returns-then-not-has_version : goal.returns-then-not-has_version
unfolding staged
returns-then-not-has_version c =
    as-staged _ (simp (sym c.has_mark.ensures ∙ c.if-not-has_mark.false, sym c.has_version.ensures ∙ c.if-not-has_version.true))

-- the counts as the code reads them
counted : (t : List ℕ) {n nv g : ℕ} → n ≡ node_count t → nv ≡ value_count t → g ≡ global_count t → marked t ≡ true → versioned t ≡ true → staged t ≡ judged3 t n nv g
unfolding staged node_count value_count global_count
counted t n nv g m v = simp (m, v, n, nv, g)

pub returns-then-not-within : goal.returns-then-not-within
unfolding judged3
returns-then-not-within c =
    as-staged _ ((simp (sym c.within.ensures ∙ c.if-not-within.true)) ∙ sym (counted c.args.t.now c.node_count-nodes.ensures.0 c.value_count-values.ensures.0 c.global_count-globals.ensures.0 (sym c.has_mark.ensures ∙ c.if-not-has_mark.false) (sym c.has_version.ensures ∙ c.if-not-has_version.false)))

pub judge_sections-requires : goal.judge_sections-requires
judge_sections-requires c =
    limits_facts c.node_count-nodes.result c.value_count-values.result c.global_count-globals.result (sym c.within.ensures ∙ c.if-not-within.false)

pub returns : goal.returns
unfolding judged3
returns c =
    as-staged _ ((c.judge_sections.ensures ∙ (simp (sym c.within.ensures ∙ c.if-not-within.false))) ∙ sym (counted c.args.t.now c.node_count-nodes.ensures.0 c.value_count-values.ensures.0 c.global_count-globals.ensures.0 (sym c.has_mark.ensures ∙ c.if-not-has_mark.false) (sym c.has_version.ensures ∙ c.if-not-has_version.false)))
