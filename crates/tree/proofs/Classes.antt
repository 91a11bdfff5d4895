-- What the table of slots gives for every kind and role, and a class for its kinds. Assumes nothing.
use Prim.Native.Nat.{ℕ, ◌≤◌, ◌<◌}
use native.Mathlib.Omega.{arith}
use native.Mathlib.Decide.{dec_lt, ℕ_discrete}
use mathlib.Core.Path.{◌≡◌, refl, sym}
use mathlib.Core.List.{[], List, ◌∷◌}
use mathlib.Core.Bool.{Bool, true, false, ◌&&◌, ◌||◌}
use lib.Dec.{T, leb, eqb, leb→le, eqb→eq}
use borrow.Author.Tests.{le-leb, lt-leb, eq-eqb, ne_eqb}
use Rattle.tree.specs.Bytes.{pick}
use Rattle.tree.specs.Nodes.{known}
use Rattle.tree.specs.Children.{class_of, in_class, Slot, slot, slots, slots_of, slot_in, slot_of}
use Rattle.tree.proofs.Shape.{left, right}

-- A test of a kind and a slot that holds of each row of the table, and of the slot of no children, holds of every slot.
abbrev pub each : (Slot → Bool) → List Slot → Bool
each q [] = true
each q (s ∷ ss) = q s && each q ss

abbrev pub rows : (ℕ → Slot → Bool) → List (ℕ × List Slot) → Bool
rows q [] = true
rows q (e ∷ es) = each (q e.0) e.1 && rows q es

in_each : (q : Slot → Bool) (r : ℕ) (ss : List Slot) → T (each q ss) → T (q (slot 9 r 0 0)) → T (q (slot_in r ss))
in_each q r [] v d = d
in_each q r (s ∷ ss) v d = go (eqb r s.role) (in_each q r ss (right (q s) (each q ss) v) d)
  where
    go : (b : Bool) → T (q (slot_in r ss)) → T (q (pick b s (slot_in r ss)))
    go true x = left (q s) (each q ss) v
    go false x = x

in_rows : (q : ℕ → Slot → Bool) (k r : ℕ) (es : List (ℕ × List Slot)) → T (rows q es) → T (q k (slot 9 r 0 0)) → T (q k (slot_in r (slots_of k es)))
in_rows q k r [] v d = d
in_rows q k r (e ∷ es) v d = go (ℕ_discrete k e.0) (in_rows q k r es (right (each (q e.0) e.1) (rows q es) v) d)
  where
    go : Dec (k ≡ e.0) → T (q k (slot_in r (slots_of k es))) → T (q k (slot_in r (pick (eqb k e.0) e.1 (slots_of k es))))
    go (yes z) x = rw (eq-eqb k e.0 z) (in_each (q k) r e.1 (rw (sym z) at (left (each (q e.0) e.1) (rows q es) v)) d)
    go (no z) x = rw (ne_eqb k e.0 z) x

pub slot_so : (q : ℕ → Slot → Bool) → T (rows q slots) → (k r : ℕ) → T (q k (slot 9 r 0 0)) → T (q k (slot_of k r))
unfolding slot_of
slot_so q v k r d = in_rows q k r slots v d

pub slot_role : (k r : ℕ) → (slot_of k r).role ≡ r
unfolding slot_of
slot_role k r = go (slots_of k slots)
  where
    on : (s : Slot) (x : Slot) → x.role ≡ r → Dec (r ≡ s.role) → (pick (eqb r s.role) s x).role ≡ r
    on s x e (yes q) = rw (eq-eqb r s.role q) (sym q)
    on s x e (no q) = rw (ne_eqb r s.role q) e

    go : (ss : List Slot) → (slot_in r ss).role ≡ r
    go [] = refl
    go (s ∷ ss) = on s (slot_in r ss) (go ss) (ℕ_discrete r s.role)

-- the kinds of a class, as a range
abbrev pub kinds : ℕ → ℕ → Bool
kinds c k =
    pick (eqb c 1) (leb 1 k && leb k 13)
    (pick (eqb c 2) (leb 20 k && leb k 33)
    (pick (eqb c 3) (leb 40 k && leb k 42) (pick (eqb c 4) (leb 43 k && leb k 44) (pick (eqb c 5) (leb 45 k && leb k 46) (pick (eqb c 6) (eqb k 47) (eqb c 7 && eqb k 40))))))

class_kinds : (k : ℕ) → 1 ≤ class_of k → T (kinds (class_of k) k)
unfolding class_of
class_kinds k h = go (leb 1 k && leb k 13) (leb 20 k && leb k 33) (leb 40 k && leb k 42) (leb 43 k && leb k 44) (leb 45 k && leb k 46) (eqb k 47) h
  where
    class : (a b c d e f : Bool) → ℕ
    class a b c d e f = pick a 1 (pick b 2 (pick c 3 (pick d 4 (pick e 5 (pick f 6 0)))))

    test : (a b c d e f : Bool) → ℕ → Bool
    test a b c d e f n = pick (eqb n 1) a (pick (eqb n 2) b (pick (eqb n 3) c (pick (eqb n 4) d (pick (eqb n 5) e (pick (eqb n 6) f (eqb n 7 && eqb k 40))))))

    go : (a b c d e f : Bool) → 1 ≤ class a b c d e f → T (test a b c d e f (class a b c d e f))
    go true b c d e f h = tt
    go false true c d e f h = tt
    go false false true d e f h = tt
    go false false false true e f h = tt
    go false false false false true f h = tt
    go false false false false false true h = tt
    go false false false false false false h = absurd (omega arith)

-- what a child's class says of its kind
pub class_range : (c k : ℕ) → 1 ≤ c → T (in_class c k) → T (kinds c k)
class_range c k h v = go (ℕ_discrete c 7)
  where
    go : Dec (c ≡ 7) → T (kinds c k)
    go (yes q) = let u : T (eqb k 40) = simp (eq-eqb c 7 q) at v in rw q u
    go (no q) =
        let e = eqb→eq (class_of k) c (simp (ne_eqb c 7 q) at v) in
        rw e at (class_kinds k (omega arith))

climb : (lo hi k x y : ℕ) → lo ≤ k → 1 ≤ x → (hi < k → 1 ≤ y) → 1 ≤ pick (leb lo k && leb k hi) x y
climb lo hi k x y h a f = go (dec_lt hi k)
  where
    go : Dec (hi < k) → 1 ≤ pick (leb lo k && leb k hi) x y
    go (yes l) = simp (le-leb lo k h, lt-leb k hi l) (f l)
    go (no l) = simp (le-leb lo k h, le-leb k hi (omega arith)) a

-- a known kind has a class
pub class_known : (k : ℕ) → T (known k) → 1 ≤ class_of k
unfolding known class_of
class_known k v = go (leb 1 k && leb k 13) (leb 20 k && leb k 33) v
  where
    third : ℕ
    third = pick (leb 40 k && leb k 42) 3 (pick (leb 43 k && leb k 44) 4 (pick (leb 45 k && leb k 46) 5 (pick (eqb k 47) 6 0)))

    high : 40 ≤ k → k ≤ 47 → 1 ≤ third
    high a b = climb 40 42 k 3 _ a (omega arith) (λ c. climb 43 44 k 4 _ c (omega arith) (λ d. climb 45 46 k 5 _ d (omega arith) (λ e. rw (eq-eqb k 47 (omega arith)) (omega arith))))

    go : (a b : Bool) → T (a || (b || (leb 40 k && leb k 47))) → 1 ≤ pick a 1 (pick b 2 third)
    go true b v = omega arith
    go false true v = omega arith
    go false false v = high (leb→le 40 k (left (leb 40 k) (leb k 47) v)) (leb→le k 47 (right (leb 40 k) (leb k 47) v))
