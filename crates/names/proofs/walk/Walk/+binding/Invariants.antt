use Prim.Native.Nat.{ℕ, ◌+◌, ◌*◌, ◌-◌, ◌<◌}
use mathlib.Core.Path.{◌≡◌}
use mathlib.Core.List.{List}
use lib.ListN.{length}
use Rattle.tree.specs.Bytes.{pick, size_at}
use Rattle.tree.proofs.Walked.{Walked}
use Rattle.scope.specs.State.{Fits}
use Rattle.names.specs.Walk.{Goes, number, used_by, names_in, node_bind, node_use}
use Rattle.scope.specs.declared.Scope.{Scope}
use Rattle.names.proofs.walk.Walk.+binding.Given as goal

abbrev pub invariant-bind-loop-i : goal.invariant-bind-loop-i
invariant-bind-loop-i l =
    (l.e ≡ l.c + size_at l.self.t.now l.c)
    × Walked l.self.t.now l.e l.i-iterator (λ i. (l.c < i) × Fits l.w l.s × (length l.w ≡ length l.initial.w)
    × ((d : ℕ) (v : List ℕ) (y : Scope) → Goes l.self.t.now d (names_in (used_by l.binding) l.self.t.now (number l.role) i l.e) l.w l.s v y → Goes l.self.t.now d (pick (used_by l.binding) (node_use l.self.t.now (number l.role) l.c) (node_bind l.self.t.now (number l.role) l.c)) l.initial.w l.initial.s v y))

abbrev pub decreases-bind : goal.decreases-bind
decreases-bind l = 16 * size_at l.self.now.t.now l.c

abbrev pub decreases-bind_one : goal.decreases-bind_one
decreases-bind_one l = 16 * size_at l.self.now.t.now l.i + 8
