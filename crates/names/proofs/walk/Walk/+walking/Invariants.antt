use Prim.Native.Nat.{ℕ, ◌-◌, ◌<◌, ◌+◌, ◌*◌, ◌≤◌}
use Rattle.tree.specs.Bytes.{size_at}
use mathlib.Core.Path.{◌≡◌}
use mathlib.Core.List.{List}
use lib.ListN.{length}
use Rattle.tree.proofs.Walked.{Walked}
use Rattle.scope.specs.State.{Fits}
use Rattle.names.specs.Walk.{Goes, clauses_of, want_of, visit_of}
use Rattle.scope.specs.declared.Scope.{Scope}
use Rattle.names.proofs.walk.Walk.+walking.Given as goal

abbrev pub invariant-later-loop-i : goal.invariant-later-loop-i
invariant-later-loop-i l =
    (l.e ≡ l.c + size_at l.self.t.now l.c)
    × Walked l.self.t.now l.e l.i-iterator (λ i. (l.c < i) × Fits l.w l.s × (length l.w ≡ length l.initial.w)
    × ((v : List ℕ) (y : Scope) → Goes l.self.t.now l.d (clauses_of l.self.t.now l.self.fail i l.e) l.w l.s v y → Goes l.self.t.now l.d (clauses_of l.self.t.now l.self.fail (l.x + size_at l.self.t.now l.x) (l.c + size_at l.self.t.now l.c)) l.initial.w l.initial.s v y))

abbrev pub invariant-visit-loop-c : goal.invariant-visit-loop-c
invariant-visit-loop-c l =
    Walked l.self.t.now l.e l.c-iterator (λ c. (l.i ≤ c) × Fits l.w l.s × (length l.w ≡ length l.initial.w)
    × ((v : List ℕ) (y : Scope) → Goes l.self.t.now l.d (visit_of l.self.t.now l.self.fail (want_of l.wanted) c l.e) l.w l.s v y → Goes l.self.t.now l.d (visit_of l.self.t.now l.self.fail (want_of l.wanted) l.i l.e) l.initial.w l.initial.s v y))

abbrev pub decreases-gets : goal.decreases-gets
decreases-gets l = 16 * size_at l.self.now.t.now l.c + 2

abbrev pub decreases-bound : goal.decreases-bound
decreases-bound l = 16 * size_at l.self.now.t.now l.c + 4

abbrev pub decreases-branch : goal.decreases-branch
decreases-branch l = 16 * size_at l.self.now.t.now l.c + 1

abbrev pub decreases-clause : goal.decreases-clause
decreases-clause l = 16 * size_at l.self.now.t.now l.i + 2

abbrev pub decreases-later : goal.decreases-later
decreases-later l = 16 * size_at l.self.now.t.now l.c + 3

abbrev pub decreases-block : goal.decreases-block
decreases-block l = 16 * size_at l.self.now.t.now l.c + 7

abbrev pub decreases-comp : goal.decreases-comp
decreases-comp l = 16 * size_at l.self.now.t.now l.c + 6

abbrev pub decreases-cond : goal.decreases-cond
decreases-cond l = 16 * size_at l.self.now.t.now l.c + 4

abbrev pub decreases-def : goal.decreases-def
decreases-def l = 16 * size_at l.self.now.t.now l.c + 2

abbrev pub decreases-down : goal.decreases-down
decreases-down l = 16 * size_at l.self.now.t.now l.c

abbrev pub decreases-expr : goal.decreases-expr
decreases-expr l = 16 * size_at l.self.now.t.now l.c + 7

abbrev pub decreases-body : goal.decreases-body
decreases-body l = 16 * size_at l.self.now.t.now l.c + 1

abbrev pub decreases-rest : goal.decreases-rest
decreases-rest l = 16 * size_at l.self.now.t.now l.c + 5

abbrev pub decreases-lambda : goal.decreases-lambda
decreases-lambda l = 16 * size_at l.self.now.t.now l.c + 2

abbrev pub decreases-modify : goal.decreases-modify
decreases-modify l = 16 * size_at l.self.now.t.now l.c + 2

abbrev pub decreases-one : goal.decreases-one
decreases-one l = 16 * size_at l.self.now.t.now l.c + 8

abbrev pub decreases-over : goal.decreases-over
decreases-over l = 16 * size_at l.self.now.t.now l.c + 1

abbrev pub decreases-ret : goal.decreases-ret
decreases-ret l = 16 * size_at l.self.now.t.now l.c + 2

abbrev pub decreases-turn : goal.decreases-turn
decreases-turn l = 16 * size_at l.self.now.t.now l.c + 2

abbrev pub decreases-loops : goal.decreases-loops
decreases-loops l = 16 * size_at l.self.now.t.now l.c + 3

abbrev pub decreases-side : goal.decreases-side
decreases-side l = 16 * size_at l.self.now.t.now l.c + 1

abbrev pub decreases-stmt : goal.decreases-stmt
decreases-stmt l = 16 * size_at l.self.now.t.now l.c + 7

abbrev pub decreases-eval : goal.decreases-eval
decreases-eval l = 16 * size_at l.self.now.t.now l.c + 2

abbrev pub decreases-step : goal.decreases-step
decreases-step l = 16 * size_at l.self.now.t.now l.c + 9

abbrev pub decreases-assign : goal.decreases-assign
decreases-assign l = 16 * size_at l.self.now.t.now l.c + 1

abbrev pub decreases-visit : goal.decreases-visit
decreases-visit l = 16 * (l.e - l.i) + 10
