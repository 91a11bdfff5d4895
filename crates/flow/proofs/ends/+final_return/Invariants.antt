use Prim.Native.Nat.{◌-◌}
use Rattle.flow.proofs.ends.+final_return.Given as goal

abbrev pub decreases-final_return : goal.decreases-final_return
decreases-final_return l = l.e - l.i
