use Prim.Native.Nat.{◌+◌, ◌-◌, ◌<◌}
use native.Mathlib.Omega.{arith}
use mathlib.Core.Path.{◌≡◌}
use mathlib.Core.Logic.{inl, inr}
use mathlib.Core.Bool.{true, false}
use Rattle.tree.specs.declared.Refusal.TheVariants.{Global}
use Rattle.tree.specs.code.Stages.{bad9, global_at, names_of}
use Rattle.tree.proofs.Search.{clear_more, lowest_at}
use Rattle.tree.proofs.Names.{nine_none, nine_low, nine_ok, nine_first}
use Rattle.tree.proofs.nodes.File.check_globals.Goals as goal
use Rattle.tree.proofs.nodes.File.check_globals.Goals.{then-self-x-via-then-self-x, then-self-x-via-else-self-x+then-x-before}

pub overflow_add-self : goal.overflow_add-self
overflow_add-self c = record { fits = omega (arith, c.args.self.now.early) }

pub returns-then-self-x : goal.returns-then-self-x
returns-then-self-x c =
    let t = c.args.self.now.t.now in
    let n = c.args.self.now.says.nodes in
    let nv = c.args.self.now.says.values in
    let i = c.loop-i.i in
    let five = c.args.self.now.none5 in
    let s = c.args.self.now.names in
    let x : c.u16_at-x.result ≡ global_at t n nv i = rw c.args.self.now.rest at c.u16_at-x.ensures.0 in
    let z : bad9 t n nv i ≡ true = elim c.then-self-x.branch [
      | then-self-x-via-then-self-x w ↦ nine_none t n nv five i (omega (arith, x, s, w.if-self-x.true))
      | then-self-x-via-else-self-x+then-x-before w ↦
          let y = c.loop-i.invariant.0 w.if-x-before.true.0 in
          nine_low t n nv five i (omega (arith, x, s, w.if-self-x.false)) w.if-x-before.true.0 (omega (arith, x, y, w.if-x-before.true.1))
    ] in
    lowest_at Global c.args.count i (bad9 t n nv) (omega arith) c.loop-i.invariant.1 z

pub loop-i-preserved : goal.loop-i-preserved
loop-i-preserved c =
    let t = c.args.self.now.t.now in
    let n = c.args.self.now.says.nodes in
    let nv = c.args.self.now.says.values in
    let i = c.loop-i.i in
    let five = c.args.self.now.none5 in
    let x : c.u16_at-x.result ≡ global_at t n nv i = rw c.args.self.now.rest at c.u16_at-x.ensures.0 in
    let q : i + 1 - 1 ≡ i = omega arith in
    let l : global_at t n nv i < names_of t n nv = omega (arith, x, c.args.self.now.names) in
    let z : bad9 t n nv i ≡ false = elim c.if-x-before.either [
      | inl w ↦ nine_ok t n nv five i l (let y = c.loop-i.invariant.0 w.0 in omega (arith, x, y, w.1))
      | inr w ↦ nine_first t n nv five i l w
    ] in
    (λ h. rw q x, clear_more c.args.count i (bad9 t n nv) (omega arith) c.loop-i.invariant.1 z)
