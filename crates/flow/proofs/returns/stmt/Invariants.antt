use lib.Dec.{eqb}
use Rattle.tree.specs.Forest.{forest_of}
use Rattle.rules.specs.Flow.{returns_walk}
use Rattle.answer.proofs.Flat.{Going}
use Rattle.flow.specs.Returns.{Tidy}
use Rattle.flow.proofs.returns.stmt.Given as goal

abbrev pub invariant-loop-i : goal.invariant-loop-i
invariant-loop-i l = Tidy l.t l.i l.n × Going l.initial.sheet (returns_walk (λ v. eqb v l.fail) (λ v. eqb v l.none) (forest_of l.t 0 l.n)) l.sheet (returns_walk (λ v. eqb v l.fail) (λ v. eqb v l.none) (forest_of l.t l.i l.n))
