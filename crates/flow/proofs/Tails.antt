-- What each step and return of the third walk shows. Assumes nothing.
use Rattle.std.specs.Prelude.{Some, None, ◌⊎◌}
use Rattle.std.proofs.Common.{inl, inr}
use Prim.Native.Nat.{ℕ, ◌+◌, ◌≤◌, ◌<◌}
use native.Mathlib.Omega.{arith}
use native.Mathlib.Decide.{dec_lt}
use mathlib.Core.Path.{◌≡◌, refl, sym, ap, ◌∙◌}
use mathlib.Core.List.{List, [], ◌++◌, append_assoc}
use mathlib.Core.Bool.{Bool}
use lib.Dec.{eqb}
use Rattle.tree.specs.Bytes.{kind_at, size_at}
use Rattle.tree.specs.Forest.{Head, Forest, node, node_head, forest_of}
use Rattle.tree.specs.code.Part.{Part, Subtree}
use Rattle.tree.proofs.Laws.{later, forest_none, forest_node}
use Rattle.rules.specs.Record.{Rec}
use Rattle.rules.specs.Flow.{tail, tail_part, redundant_part, redundant_walk, below_root}
use Rattle.answer.proofs.Flat.{past, next}
use Rattle.flow.specs.Returns.{Last}
use Rattle.flow.proofs.LastLaws.{last_there, last_absent}
use Rattle.flow.proofs.Forms.{tail_other, redundant_other}
use Rattle.flow.proofs.Steps.{whole_at}

-- ---- 10 and 11: the statement at node i, last

module _ (loops : Bool) (t : List ℕ) (i : ℕ) where
  abbrev under : Forest
  under = forest_of t (i + 1) (i + size_at t i)

  abbrev pub tail_here : List Rec
  tail_here = tail_part (node_head t i).kind loops (node_head t i) under (λ v. tail loops v under)

  pub tail_kind : (m : ℕ) → kind_at t i ≡ m → tail_here ≡ tail_part m loops (node_head t i) under (λ v. tail loops v under)
  unfolding node_head
  tail_kind m e = ap (λ (x : ℕ). tail_part x loops (node_head t i) under (λ v. tail loops v under)) e

  pub tail_none : (kind_at t i ≡ 2 → ⊥) → (kind_at t i ≡ 4 → ⊥) → (kind_at t i ≡ 8 → ⊥) → (kind_at t i ≡ 9 → ⊥) → (kind_at t i ≡ 10 → ⊥)
      → tail_here ≡ []
  unfolding node_head
  tail_none a b c d e = tail_other loops (node_head t i) under (λ v. tail loops v under) a b c d e

abbrev Tail : Bool → Head → Forest → List Rec
Tail loops h k = tail_part h.kind loops h k (λ v. tail loops v k)

module _ (loops : Bool) (r : ℕ) {t : List ℕ} {i e : ℕ} where
  pub last_whole : {j : ℕ} → Part t i e → Last t r i e (Some j) → Subtree t j
  last_whole {j} p l = let w = l.within j refl in whole_at (later p w.0) w.1

  pub last_none : Last t r i e None → tail loops r (forest_of t i e) ≡ []
  last_none l = last_absent r (tail loops r) (Tail loops) [] refl (λ h k s. refl) l

  pub last_some : {j : ℕ} → Last t r i e (Some j) → tail loops r (forest_of t i e) ≡ tail_here loops t j
  last_some l = last_there r (tail loops r) (Tail loops) [] refl (λ h k s. refl) l

-- ---- every body

module _ (t : List ℕ) (i : ℕ) where
  abbrev pub body_here : List Rec
  body_here = redundant_part (node_head t i).kind (forest_of t (i + 1) (i + size_at t i))

  pub body_some : (kind_at t i ≡ 11) ⊎ (kind_at t i ≡ 12) → body_here ≡ tail (eqb (kind_at t i) 11) 1 (forest_of t (i + 1) (i + size_at t i))
  unfolding node_head
  body_some (inl e) = rw e
  body_some (inr e) = rw e

  pub body_other : (kind_at t i ≡ 11 → ⊥) → (kind_at t i ≡ 12 → ⊥) → body_here ≡ []
  unfolding node_head
  body_other a b = redundant_other (node_head t i) (forest_of t (i + 1) (i + size_at t i)) a b

abbrev Below : Head → Forest → List Rec
Below h k = redundant_part h.kind k ++ redundant_walk k

below_cons : (h : Head) (k s : Forest) → redundant_walk (node h k s) ≡ Below h k ++ redundant_walk s
below_cons h k s = sym (append_assoc (redundant_part h.kind k) (redundant_walk k) (redundant_walk s))

pub redundant_next : {t : List ℕ} {i n : ℕ} → Part t i n → i < n → redundant_walk (forest_of t i n) ≡ body_here t i ++ redundant_walk (forest_of t (i + 1) n)
redundant_next p lt = next redundant_walk Below refl below_cons (λ h k. redundant_part h.kind k) (λ h k. refl) p lt

pub redundant_past : (t : List ℕ) (i n : ℕ) → n ≤ i → redundant_walk (forest_of t i n) ≡ []
redundant_past t i n h = past redundant_walk Below refl below_cons t i n h

-- below the root stands all the rest
pub below_all : {t : List ℕ} {n : ℕ} → Part t 0 n → size_at t 0 ≡ n → redundant_walk (forest_of t 1 n) ≡ redundant_walk (below_root (forest_of t 0 n))
below_all {t} {n} p z = go (dec_lt 0 n)
  where
    go : Dec (0 < n) → redundant_walk (forest_of t 1 n) ≡ redundant_walk (below_root (forest_of t 0 n))
    go (yes l) =
        let a : 0 + size_at t 0 ≡ n = omega arith in
        sym (ap (λ (f : Forest). redundant_walk (below_root f)) (forest_node p l) ∙ ap (λ (m : ℕ). redundant_walk (forest_of t (0 + 1) m)) a)
    go (no l) = rw (forest_none t 1 n (omega arith), forest_none t 0 n (omega arith))
