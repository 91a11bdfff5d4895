-- A part `&mut s[a..]` of lent words. Assumes nothing.
use Prim.Native.Nat.{ℕ, ◌-◌, ◌≤◌}
use native.Mathlib.Omega.{arith}
use mathlib.Core.Path.{◌≡◌}
use mathlib.Core.List.{List, [], ◌++◌, append-nil}
use lib.ListN.{length, take, drop, length-drop, drop_of_length-le}
use lib.Seq.{take_all}
use borrow.Rule.Slice.PartMut.{put_mid}

module _ (a : ℕ) (s : List ℕ) where
  -- what the callee is lent
  pub tail_lent : take (length s - a) (drop a s) ≡ drop a s
  tail_lent = take_all (length s - a) (drop a s) (rw length-drop (omega arith))

  -- the whole, once the callee left e there
  pub tail_back : (e : List ℕ) → put_mid a (length s - a) s e ≡ take a s ++ e
  tail_back e =
      let h : length (drop a s) ≤ length s - a = rw length-drop (omega arith) in
      let z : drop (length s - a) (drop a s) ≡ [] = drop_of_length-le (drop a s) h in
      rw (z, append-nil)
