-- The counts of a call that begins with none are, for each code, how many records of the list have it.
use Prim.Native.Nat.{ℕ, zero, suc, ◌+◌, ◌≤◌, ◌<◌}
use native.Mathlib.Omega.{arith}
use mathlib.Core.Path.{◌≡◌, refl, sym, ap, subst, ◌∙◌}
use mathlib.Core.Bool.{Bool, true, false, cond}
use mathlib.Core.List.{List, [], ◌∷◌, ◌++◌, map}
use lib.Dec.{eqb, ltb, T, eqb→eq, lt→ltb, eqb-suc-zero, eqb_refl}
use lib.ListN.{length, get_or, set, length-set, get_or-replicate}
use native.Mathlib.Nat.{zero-add}
use Rattle.tree.specs.declared.Mode.{Mode}
use Rattle.tree.specs.Forest.{tree_of}
use Rattle.rules.specs.Record.{Rec}
use Rattle.rules.specs.Joined.{lint_list, codes, numbers, count_of, tally_of, no_tally, one_more, raise, raise_all}
use Rattle.rules.specs.code.Marks.{nodes}
use Rattle.rules.proofs.Few.{lint_few}
use Rattle.rules.proofs.Bools.{so}

pub raise_append : (rs ss : List Rec) (ns : List ℕ) → raise_all (rs ++ ss) ns ≡ raise_all ss (raise_all rs ns)
unfolding raise_all
raise_append [] ss ns = refl
raise_append (r ∷ rs) ss ns = raise_append rs ss (raise r.code ns)

pub length_raise : (c : ℕ) (ns : List ℕ) → length (raise c ns) ≡ length ns
unfolding raise
length_raise zero ns = refl
length_raise (suc i) ns = length-set ns i (one_more (get_or ns i 0))

pub length_raise_all : (rs : List Rec) (ns : List ℕ) → length (raise_all rs ns) ≡ length ns
unfolding raise_all
length_raise_all [] ns = refl
length_raise_all (r ∷ rs) ns = length_raise_all rs (raise r.code ns) ∙ length_raise r.code ns

-- an entry after a store
set_here : (ns : List ℕ) (i v : ℕ) → i < length ns → get_or (set ns i v) i 0 ≡ v
set_here [] i v h = absurd (omega arith)
set_here (n ∷ ns) zero v h = refl
set_here (n ∷ ns) (suc i) v h = set_here ns i v (omega arith)

pub set_there : (ns : List ℕ) (i k v : ℕ) → (i ≡ k → ⊥) → get_or (set ns i v) k 0 ≡ get_or ns k 0
set_there [] i k v h = refl
set_there (n ∷ ns) zero zero v h = absurd (h refl)
set_there (n ∷ ns) zero (suc k) v h = refl
set_there (n ∷ ns) (suc i) zero v h = refl
set_there (n ∷ ns) (suc i) (suc k) v h = set_there ns i k v (λ e. h (ap suc e))

more : (n : ℕ) → n < 18446744073709551615 → one_more n ≡ n + 1
more n h = ap (λ (b : Bool). cond b (n + 1) n) (so (ltb n 18446744073709551615) (lt→ltb n 18446744073709551615 h))

-- one record: its code's count is one more, and every other stays
raised : (c k : ℕ) (ns : List ℕ) → k < length ns → get_or ns k 0 < 18446744073709551615
    → get_or (raise c ns) k 0 ≡ cond (eqb (suc k) c) (get_or ns k 0 + 1) (get_or ns k 0)
unfolding raise
raised zero k ns h l = ap (λ (b : Bool). cond b (get_or ns k 0 + 1) (get_or ns k 0)) (sym (eqb-suc-zero k))
raised (suc i) k ns h l = go (eqb (suc k) (suc i)) refl
  where
    go : (b : Bool) → eqb (suc k) (suc i) ≡ b
        → get_or (set ns i (one_more (get_or ns i 0))) k 0 ≡ cond b (get_or ns k 0 + 1) (get_or ns k 0)
    go true e =
        let q : suc k ≡ suc i = eqb→eq (suc k) (suc i) (subst T (sym e) tt) in
        let r : i ≡ k = omega arith in
        rw r (set_here ns k (one_more (get_or ns k 0)) h ∙ more (get_or ns k 0) l)
    go false e = set_there ns i k (one_more (get_or ns i 0))
        (λ r. subst T (sym (ap (λ (x : ℕ). eqb (suc k) (suc x)) r) ∙ e) (eqb_refl (suc k)))

cond_add : (b : Bool) (n m : ℕ) → cond b (n + 1) n + m ≡ n + cond b (suc m) m
cond_add true n m = omega arith
cond_add false n m = refl

cond_le : (b : Bool) (n : ℕ) → cond b (n + 1) n ≤ n + 1
cond_le true n = omega arith
cond_le false n = omega arith

-- as long as none comes to the largest count
pub counted : (rs : List Rec) (ns : List ℕ) (k : ℕ) → k < length ns → get_or ns k 0 + length rs ≤ 18446744073709551615
    → get_or (raise_all rs ns) k 0 ≡ get_or ns k 0 + count_of (suc k) rs
unfolding raise_all
counted [] ns k h l = omega arith
counted (r ∷ rs) ns k h l =
    let n : ℕ = get_or ns k 0 in
    let e : get_or (raise r.code ns) k 0 ≡ cond (eqb (suc k) r.code) (get_or ns k 0 + 1) (get_or ns k 0) =
    raised r.code k ns h (omega arith) in
    let z : length (raise r.code ns) ≡ length ns = length_raise r.code ns in
    let b = cond_le (eqb (suc k) r.code) (get_or ns k 0) in
    let p : get_or (raise_all rs (raise r.code ns)) k 0 ≡ get_or (raise r.code ns) k 0 + count_of (suc k) rs
    = counted rs (raise r.code ns) k (omega arith) (omega arith) in
    p ∙ ap (λ (x : ℕ). x + count_of (suc k) rs) e ∙ cond_add (eqb (suc k) r.code) (get_or ns k 0) (count_of (suc k) rs)

-- two lists of one length that agree at each place
alike : (l m : List ℕ) → length l ≡ length m → ((k : ℕ) → k < length l → get_or l k 0 ≡ get_or m k 0) → l ≡ m
alike [] [] e f = refl
alike [] (y ∷ m) e f = absurd (omega arith)
alike (x ∷ l) [] e f = absurd (omega arith)
alike (x ∷ l) (y ∷ m) e f =
    let p : x ≡ y = f 0 (omega arith) in
    let q : l ≡ m = alike l m (omega arith) (λ k h. f (suc k) (omega arith)) in
    λ i. p i ∷ q i

numbers_at : (f : ℕ → ℕ) (n c k : ℕ) → k < n → get_or (map f (numbers n c)) k 0 ≡ f (c + k)
numbers_at f zero c k h = absurd (omega arith)
numbers_at f (suc n) c zero h = let e : c ≡ c + 0 = omega arith in ap f e
numbers_at f (suc n) c (suc k) h =
    let e : suc c + k ≡ c + suc k = omega arith in
    numbers_at f n (suc c) k (omega arith) ∙ ap f e

tally_at : (rs : List Rec) (k : ℕ) → k < codes → get_or (tally_of rs) k 0 ≡ count_of (suc k) rs
tally_at rs k h = let e : 1 + k ≡ suc k = omega arith in numbers_at (λ c. count_of c rs) codes 1 k h ∙ ap (λ (c : ℕ). count_of c rs) e

-- THE TALLY of a list, raised from none
pub tally_raised : (rs : List Rec) → length rs ≤ 18446744073709551615 → raise_all rs no_tally ≡ tally_of rs
tally_raised rs h =
    let z : length (raise_all rs no_tally) ≡ codes = length_raise_all rs no_tally in
    alike (raise_all rs no_tally) (tally_of rs) z (λ k l.
    let m : k < codes = omega (arith, z, l) in
    let n : get_or no_tally k 0 ≡ 0 = get_or-replicate codes k 0 0 m in
    counted rs no_tally k m (omega (arith, n, h)) ∙ ap (λ (x : ℕ). x + count_of (suc k) rs) n ∙ zero-add (count_of (suc k) rs)
    ∙ sym (tally_at rs k m))

-- ... of the joined call, whose list can't come near the largest count
pub lint_tally : (mode : Mode) (t : List ℕ) → nodes (tree_of t) ≤ 1024 → raise_all (lint_list mode t) no_tally ≡ tally_of (lint_list mode t)
lint_tally mode t h = let p = lint_few mode t in tally_raised (lint_list mode t) (omega arith)
