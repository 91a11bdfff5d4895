-- `bind` and `bind-one` meet their contracts. Assumes nothing.
use Prim.Native.Nat.{ℕ, ◌+◌}
use borrow.Author.Tests.{eq-eqb, ne_eqb}
use native.Mathlib.Omega.{arith}
use mathlib.Core.Path.{refl, sym, ap, ◌∙◌}
use Rattle.tree.specs.Bytes.{role_at}
use Rattle.tree.proofs.Laws.{ended}
use Rattle.tree.proofs.Walked.{walk_start, walk_at, walk_on, walk_end}
use Rattle.names.proofs.Going.{skips, goes_as, goes_fits}
use Rattle.names.proofs.Parts.{node_in_part, name_several, name_name, name_other}
use Rattle.names.specs.Walk.{number, used_by}
use Rattle.names.proofs.Roles.{cast}
use Rattle.names.proofs.Rows.{names_on, names_last, kids_as, names_as, pick_true, pick_false, name_so}
use Rattle.names.proofs.walk.Walk.+binding.Goals as goal

pub bind-loop-i-init : goal.bind-loop-i-init
bind-loop-i-init t c = (
  ap (λ (z : ℕ). c.args.c + z) c.size_at.ensures.0,
  walk_start c.into_iter-i-iterator.ensures.into_iter_gives c.siblings-i-items.ensures (kids_as c.args.self.now.t.now c.args.c _ c.size_at.ensures.0 c.requires.0)
      (omega arith, c.requires.1, refl, λ d v y g. goes_as (names_as c.args.self.now.t.now c.args.c _ c.size_at.ensures.0 (number c.args.role) (used_by c.args.binding)) g),
)

pub bind-bind_one-s-requires : goal.bind-bind_one-s-requires
bind-bind_one-s-requires t c =
    let h = walk_at c.loop-i.invariant.1 c.in-Some.ensures.steps.0 in let n = ended h.0 h.1 in
    (omega (arith, c.decreases, h.1, h.2.0, c.loop-i.invariant.0), (node_in_part h.0 h.1 (omega arith), h.2.1))

pub bind-loop-i-preserved : goal.bind-loop-i-preserved
bind-loop-i-preserved t c =
    let g = c.bind_one-s.ensures in (
      c.loop-i.invariant.0,
      walk_on c.loop-i.invariant.1 c.in-Some.ensures.steps.0 (λ p lt h.
          (omega (arith, h.0), goes_fits (g 0), omega (arith, h.2), λ d v y q. h.3 d v y (names_on (number c.args.role) (used_by c.args.binding) p lt (g d) q))),
    )

pub bind-returns : goal.bind-returns
bind-returns t c =
    let h = walk_end c.loop-i.invariant.1 c.in-None.ensures.steps.0 in
    λ d. h.1.3 d _ _ (names_last (number c.args.role) (used_by c.args.binding) c.loop-i.i-iterator.at _ h.0 h.1.1)

pub bind_one-returns-then-role_at-role : goal.bind_one-returns-then-role_at-role
bind_one-returns-then-role_at-role t c =
    λ d. pick_false _ (ne_eqb (number c.args.role) (role_at c.args.self.now.t.now c.args.i) (λ z. c.if-role_at-role.true (c.role_at.ensures.0 ∙ sym z ∙ sym (cast c.args.role)))) _ _ (skips c.requires.1)

pub bind_one-returns-then-k : goal.bind_one-returns-then-k
bind_one-returns-then-k t c =
    λ d. pick_true _ (eq-eqb (number c.args.role) (role_at c.args.self.now.t.now c.args.i) (sym (cast c.args.role) ∙ sym c.if-role_at-role.false ∙ c.role_at.ensures.0)) _ _ (goes_as (name_several c.args.self.now.t.now c.args.i (used_by c.args.binding) (sym c.kind_at-k.ensures.0 ∙ c.if-k.true)) (c.bind.ensures d))

pub bind_one-returns-then-binds_name : goal.bind_one-returns-then-binds_name
bind_one-returns-then-binds_name t c =
    λ d. pick_true _ (eq-eqb (number c.args.role) (role_at c.args.self.now.t.now c.args.i) (sym (cast c.args.role) ∙ sym c.if-role_at-role.false ∙ c.role_at.ensures.0)) _ _ (goes_as (name_name c.args.self.now.t.now c.args.i (used_by c.args.binding) (name_so c.kind_at-k.ensures.0 c.binds_name.ensures c.if-binds_name.true)) (c.ident.ensures d))

pub bind_one-returns : goal.bind_one-returns
bind_one-returns t c =
    λ d. pick_true _ (eq-eqb (number c.args.role) (role_at c.args.self.now.t.now c.args.i) (sym (cast c.args.role) ∙ sym c.if-role_at-role.false ∙ c.role_at.ensures.0)) _ _ (goes_as (name_other c.args.self.now.t.now c.args.i (used_by c.args.binding) (λ z. c.if-k.false (c.kind_at-k.ensures.0 ∙ z)) (name_so c.kind_at-k.ensures.0 c.binds_name.ensures c.if-binds_name.false)) (skips c.requires.1))
