use mathlib.Core.Path.{◌≡◌, sym, ◌∙◌}
use mathlib.Core.Bool.{true, false}
use Rattle.scope.specs.Words.{used_scope, used_words, present_of, standing_in}
use Rattle.scope.proofs.Scope.used.Goals as goal

pub returns-then-is_present : goal.returns-then-is_present
unfolding used_scope used_words
returns-then-is_present c =
    let s = rw (c.own-own.ensures.0, c.own-own.ensures.1) at c.standing-s.ensures in
    let e : present_of (standing_in c.args.t.now c.args.w.now c.args.self.entries c.args.self.first c.args.self.settings c.args.i) ≡ true = rw (← s) (sym c.is_present.ensures ∙ c.if-is_present.true) in
    let z = rw (c.own-own.ensures.0, c.own-own.ensures.1) at c.taken.ensures in
    (rw (e, ← s) z.0, rw (e, ← s) z.1)

pub returns-else-is_present : goal.returns-else-is_present
unfolding used_scope used_words
returns-else-is_present c =
    let s = rw (c.own-own.ensures.0, c.own-own.ensures.1) at c.standing-s.ensures in
    let e : present_of (standing_in c.args.t.now c.args.w.now c.args.self.entries c.args.self.first c.args.self.settings c.args.i) ≡ false = rw (← s) (sym c.is_present.ensures ∙ c.if-is_present.false) in
    (rw e c.away.ensures.0, rw e c.away.ensures.1)
