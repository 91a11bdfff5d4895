use Prim.Native.Nat.{◌*◌}
use lib.ListN.{drop}
use Rattle.json_text.specs.Escape.{escape}
use Rattle.page.proofs.Going.{Adding}
use Rattle.json_text.proofs.escaped.Given as goal

abbrev pub invariant-loop-i : goal.invariant-loop-i
invariant-loop-i l = Adding l.initial.w l.w (6 * l.i) (escape l.left (drop l.i l.s)) (escape 0 l.s)
