-- The heads of a file know their numbers: what the walk meets in a file are its nodes. Assumes nothing.
use Prim.Native.Nat.{ℕ, ◌≤◌, ◌<◌}
use native.Mathlib.Omega.{arith}
use mathlib.Core.Path.{◌≡◌, ap}
use mathlib.Core.Bool.{Bool}
use mathlib.Core.List.{List}
use Rattle.tree.specs.Forest.{Head, node_head, forest_of}
use Rattle.tree.specs.code.Part.{Part}
use Rattle.tree.proofs.Laws.{forest_none, forest_node, ended, induct}
use Rattle.tree.proofs.Fields.{number_own}
use Rattle.rules.specs.Record.{Each}
use Rattle.rules.specs.Order.{Want, takes}
use Rattle.rules.specs.Names.{met}
use Rattle.rules.proofs.Meets.{Within, takes_met}

-- the head of a node below n, with its own number
abbrev pub Own : List ℕ → ℕ → Head → Type 0
Own t n h = (node_head t h.number ≡ h) × (h.number < n)

module _ (t : List ℕ) (n : ℕ) (few : n ≤ 1024) where
  own_here : (i : ℕ) → i < n → Own t n (node_head t i)
  own_here i lt = let e : (node_head t i).number ≡ i = number_own t i (omega arith) in (ap (node_head t) e, rw e lt)

  part_own : {i e : ℕ} → Part t i e → e ≤ n → Within (Own t n) (forest_of t i e)
  part_own p = induct (λ i e. e ≤ n → Within (Own t n) (forest_of t i e)) t
      (λ i e h b. rw (forest_none t i e h) tt)
      (λ i e p lt a c b. let o = own_here i (omega arith) in let d = ended p lt in
      rw (forest_node p lt) (((λ x. o), (λ x. o)), (a (omega arith), c b))) p

-- EVERY NODE MET in a file is the node of its number.
pub met_own : {t : List ℕ} {n : ℕ} → Part t 0 n → (is_fail : ℕ → Bool) (v : Want) → Each (Own t n) (met (takes is_fail v (forest_of t 0 n)))
met_own {t} {n} p is_fail v = takes_met (Own t n) is_fail (forest_of t 0 n) (part_own t n p.few p (omega arith)) v
