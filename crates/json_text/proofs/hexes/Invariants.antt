use Prim.Native.Nat.{◌*◌}
use lib.ListN.{drop}
use Rattle.json_text.specs.Escape.{hexes}
use Rattle.page.proofs.Going.{Adding}
use Rattle.json_text.proofs.hexes.Given as goal

abbrev pub invariant-loop-b : goal.invariant-loop-b
invariant-loop-b l = Adding l.initial.w l.w (2 * l.b-index) (hexes (drop l.b-index l.s)) (hexes l.s)
