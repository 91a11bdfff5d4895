-- Where there is room for the byte, and where there is none. Assumes nothing.
use Prim.Native.Nat.{◌+◌, min}
use native.Mathlib.Omega.{arith}
use mathlib.Core.Path.{sym, ap, ◌∙◌}
use lib.Seq.{set_out}
use Rattle.page.specs.declared.Writer.{Writer}
use Rattle.page.proofs.Pages.{byte_added}
use Rattle.page.proofs.Writer.put.Goals as goal
use Rattle.page.proofs.Writer.put.Goals.{then-self, else-self}

pub returns : goal.returns
returns c =
    let a = c.args.self.now in
    let put = byte_added a (record { out = c.if-self.self.out; count = c.saturating_add-self.result }) c.args.b in
    let one = λ (w : Writer). min (w.count + 1) 18446744073709551615 in
    elim c.if-self.branch [
      | then-self w ↦
          put (ap (λ (w : Writer). w.out.now) w.self-is) (c.saturating_add-self.ensures ∙ ap one w.self-is) (omega arith)
          (ap (λ (w : Writer). w.out.ghost_name) w.self-is)
      | else-self w ↦
          put (ap (λ (w : Writer). w.out.now) w.self-is ∙ sym (set_out a.out.now a.count c.args.b w.if-self.false))
          (c.saturating_add-self.ensures ∙ ap one w.self-is) (omega arith)
          (ap (λ (w : Writer). w.out.ghost_name) w.self-is)
    ]
