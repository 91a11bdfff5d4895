-- Where there is room for all bytes, and where there is for none. Assumes nothing.
use Prim.Native.Nat.{◌+◌, ◌-◌}
use native.Mathlib.Omega.{arith}
use mathlib.Core.Path.{refl}
use lib.ListN.{length}
use Rattle.page.proofs.Pages.{copied_wrote, unroomed_wrote}
use Rattle.page.proofs.Writer.raw.Goals as goal

pub returns-then-s-self : goal.returns-then-s-self
returns-then-s-self c =
    let a = c.args.self.now in
    let s = c.args.s.now in
    record {
      wrote = rw (c.copy_from_slice.ensures.after) (copied_wrote a.out.now s a.count (a.count + length s - a.count) (omega arith) (omega arith) (omega arith));
      same_room = refl;
    }

pub returns-then-self-2 : goal.returns-then-self-2
returns-then-self-2 c =
    let a = c.args.self.now in
    record {
      wrote = unroomed_wrote a.out.now c.args.s.now a.count c.saturating_add-self.result c.if-self-2.true (omega arith) c.saturating_add-self.ensures;
      same_room = refl;
    }
