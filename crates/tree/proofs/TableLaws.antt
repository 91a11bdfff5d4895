-- Laws of the table of values, and of the loops that read a value's bytes. Assumes nothing.
use Prim.Native.Nat.{ℕ, zero, suc, ◌+◌, ◌*◌, ◌-◌, ◌≤◌, ◌<◌}
use native.Mathlib.Omega.{arith}
use native.Mathlib.Decide.{ℕ_discrete as dec_eq}
use native.Mathlib.Numerals.{add-one}
use mathlib.Core.Path.{◌≡◌, refl, sym, ap, ◌∙◌}
use mathlib.Core.List.{List, [], ◌∷◌}
use mathlib.Core.Bool.{Bool, true, false, ◌&&◌, ◌||◌}
use lib.ListN.{length, get_or, set, drop, get_or-eq_default, drop_of_length-le}
use lib.Seq.{drop-cons, get_or-set_same, get_or-set_other, ext_get_or}
use lib.Dec.{eqb, leb}
use borrow.Author.Tests.{lt-ltb, le-ltb, lt-leb, le-leb, eq-eqb, ne_eqb}
use Rattle.tree.specs.Bytes.{bytes_from, same_bytes, u16_at, node_count, value_count, pick}
use Rattle.tree.specs.Search.{lowest}
use Rattle.tree.specs.Values.{onward, offset}
use Rattle.tree.specs.code.Stages.{value_no}
use Rattle.tree.specs.Table.{values_from, table_of, no_value, at, led_by, underscored, listed_from}
use Rattle.tree.specs.code.Numbers.{below_or, Traits, Starts, KeyNumbers}
use Rattle.tree.specs.declared.Mode.{Mode}

length_values : (k : ℕ) (t : List ℕ) (o : ℕ) → length (values_from k t o) ≡ k
length_values zero t o = refl
length_values (suc k) t o = ap suc (length_values k t _)

pub length_table : (t : List ℕ) → length (table_of t) ≡ value_count t
length_table t = length_values (value_count t) t _

from_offset : (k i j : ℕ) (t : List ℕ) (n : ℕ) → i < k → get_or (values_from k t (offset t n j)) i no_value ≡ value_no t n (j + i)
unfolding offset
from_offset zero i j t n h = absurd (omega arith)
from_offset (suc k) zero j t n h = let q : j + 0 ≡ j = omega arith in rw q
from_offset (suc k) (suc i) j t n h = let q : j + suc i ≡ suc j + i = omega arith in rw q (from_offset k i (suc j) t n (omega arith))

-- a value number of the file stands for the value there, any other for none
pub at_table : (t : List ℕ) (v : ℕ) → v < value_count t → at (table_of t) v ≡ value_no t (node_count t) v
unfolding offset
at_table t v h = let q : 0 + v ≡ v = omega arith in from_offset (value_count t) v 0 t (node_count t) h ∙ rw q

pub at_past : (t : List ℕ) (v : ℕ) → value_count t ≤ v → at (table_of t) v ≡ no_value
at_past t v h = get_or-eq_default (table_of t) no_value (let e = length_table t in omega arith)

-- the bytes from o on against those of a name, one by one
module _ (t name : List ℕ) (o i : ℕ) where
  pub same_differ : i < length name → (get_or t (o + i) 0 ≡ get_or name i 0 → ⊥) → same_bytes (bytes_from (length name - i) t (o + i)) (drop i name) ≡ false
  same_differ h d =
      let q : length name - i ≡ suc (length name - (i + 1)) = omega arith in
      rw (q, drop-cons name i 0 h, ne_eqb _ _ d)

  pub same_next : i < length name → get_or t (o + i) 0 ≡ get_or name i 0
      → same_bytes (bytes_from (length name - (i + 1)) t (o + (i + 1))) (drop (i + 1) name) ≡ same_bytes (bytes_from (length name - i) t (o + i)) (drop i name)
  same_next h e =
      let q : length name - i ≡ suc (length name - (i + 1)) = omega arith in
      let x : o + (i + 1) ≡ o + i + 1 = omega arith in
      rw (q, x, drop-cons name i 0 h, eq-eqb _ _ e, add-one i)

  pub same_end : length name ≤ i → same_bytes (bytes_from (length name - i) t (o + i)) (drop i name) ≡ true
  same_end h = let q : length name - i ≡ 0 = omega arith in rw (q, drop_of_length-le name h)

-- the digits of a magnitude, one by one
pub onward_grows : (bs : List ℕ) (a : ℕ) → a ≤ onward a bs
onward_grows [] a = omega arith
onward_grows (b ∷ bs) a = let r = onward_grows bs (a * 256 + b) in omega arith

module _ (t : List ℕ) (k o i a : ℕ) where
  pub onward_next : i < k → onward (a * 256 + get_or t (o + i) 0) (bytes_from (k - (i + 1)) t (o + (i + 1))) ≡ onward a (bytes_from (k - i) t (o + i))
  onward_next h =
      let q : k - i ≡ suc (k - (i + 1)) = omega arith in
      let x : o + (i + 1) ≡ o + i + 1 = omega arith in
      rw (q, x)

  pub onward_end : k ≤ i → onward a (bytes_from (k - i) t (o + i)) ≡ a
  onward_end h = let q : k - i ≡ 0 = omega arith in rw q

pub unlike_length : (bs cs : List ℕ) → (length bs ≡ length cs → ⊥) → same_bytes bs cs ≡ false
unlike_length [] [] d = absurd (d refl)
unlike_length [] (c ∷ cs) d = refl
unlike_length (b ∷ bs) [] d = refl
unlike_length (b ∷ bs) (c ∷ cs) d = rw (unlike_length bs cs (λ e. d (ap suc e))) (never (eqb b c))
  where
    never : (x : Bool) → (x && false) ≡ false
    never true = refl
    never false = refl

-- a place that a search has found, or not
pub below_found : (n v other : ℕ) (f : ℕ → Bool) → lowest n f ≡ v → v < n → below_or (lowest n f) n other ≡ v
below_found n v other f e h = rw (e, lt-ltb v n h)

pub below_none : (n other : ℕ) (f : ℕ → Bool) → lowest n f ≡ n → below_or (lowest n f) n other ≡ other
below_none n other f e = rw (e, le-ltb n n (omega arith))

-- the globals, one by one
module _ (t : List ℕ) (k o v i : ℕ) where
  pub listed_here : i < k → u16_at t (o + 2 * i) ≡ v → listed_from (k - i) t (o + 2 * i) v ≡ true
  listed_here h e = let q : k - i ≡ suc (k - (i + 1)) = omega arith in rw (q, eq-eqb _ _ e)

  pub listed_next : i < k → (u16_at t (o + 2 * i) ≡ v → ⊥) → listed_from (k - (i + 1)) t (o + 2 * (i + 1)) v ≡ listed_from (k - i) t (o + 2 * i) v
  listed_next h d =
      let q : k - i ≡ suc (k - (i + 1)) = omega arith in
      let x : o + 2 * (i + 1) ≡ o + 2 * i + 2 = omega arith in
      rw (q, x, ne_eqb _ _ d)

  pub listed_end : k ≤ i → listed_from (k - i) t (o + 2 * i) v ≡ false
  listed_end h = let q : k - i ≡ 0 = omega arith in rw q

-- one global more
pub listed_more : (k : ℕ) (t : List ℕ) (o v : ℕ) → listed_from (k + 1) t o v ≡ (listed_from k t o v || eqb (u16_at t (o + 2 * k)) v)
listed_more zero t o v = let q : o + 2 * 0 ≡ o = omega arith in rw q (go (eqb (u16_at t o) v))
  where
    go : (b : Bool) → (b || false) ≡ b
    go true = refl
    go false = refl
listed_more (suc k) t o v =
    let p : suc k + 1 ≡ suc (k + 1) = omega arith in
    let q : o + 2 * suc k ≡ o + 2 + 2 * k = omega arith in
    rw (p, q, listed_more k t (o + 2) v) (assoc (eqb (u16_at t o) v) (listed_from k t (o + 2) v) (eqb (u16_at t (o + 2 + 2 * k)) v))
  where
    assoc : (a b c : Bool) → (a || (b || c)) ≡ ((a || b) || c)
    assoc true b c = refl
    assoc false b c = refl

pub marked_more : (f : ℕ → Bool) (l : List Bool) (x : ℕ) → x < length l → ((k : ℕ) → k < 512 → get_or l k false ≡ f k)
    → (k : ℕ) → k < 512 → get_or (set l x true) k false ≡ (f k || eqb x k)
marked_more f l x h g k b = go (dec_eq x k)
  where
    or_true : (a : Bool) → (a || true) ≡ true
    or_true true = refl
    or_true false = refl

    or_false : (a : Bool) → (a || false) ≡ a
    or_false true = refl
    or_false false = refl

    go : Dec (x ≡ k) → get_or (set l x true) k false ≡ (f k || eqb x k)
    go (yes e) = rw (eq-eqb x k e, or_true (f k)) (rw (← e) (get_or-set_same l x true false h))
    go (no d) = rw (ne_eqb x k d, or_false (f k)) (get_or-set_other l x k true false (λ q. d (sym q)) ∙ g k b)

pub unmarked_more : (f : ℕ → Bool) (l : List Bool) (x : ℕ) → 512 ≤ x → ((k : ℕ) → k < 512 → get_or l k false ≡ f k)
    → (k : ℕ) → k < 512 → get_or l k false ≡ (f k || eqb x k)
unmarked_more f l x h g k b = rw (ne_eqb x k (λ q. omega arith)) (g k b ∙ or_false (f k))
  where
    or_false : (a : Bool) → a ≡ (a || false)
    or_false true = refl
    or_false false = refl

-- a table of 512 entries is the only one of its kind
pub traits_one : (f : ℕ → Bool) (a b : List Bool) → length a ≡ 512 → length b ≡ 512 → Traits f a → Traits f b → a ≡ b
traits_one f a b p q g h = ext_get_or false a b (p ∙ sym q) (λ i l. g i (omega arith) ∙ sym (h i (omega arith)))

pub key_numbers_one : (t : List ℕ) (m : Mode) (a b : List ℕ) → length a ≡ 512 → length b ≡ 512 → KeyNumbers t m a → KeyNumbers t m b → a ≡ b
key_numbers_one t m a b p q g h = ext_get_or 0 a b (p ∙ sym q) (λ i l. g i (omega arith) ∙ sym (h i (omega arith)))

pub starts_one : (t a b : List ℕ) → Starts t a → Starts t b → a ≡ b
starts_one t a b g h = ext_get_or 0 a b (g.long ∙ sym h.long) (λ i l. g.at_each i (omega (arith, g.long)) ∙ sym (h.at_each i (omega (arith, g.long))))

pub start_at : (t table : List ℕ) → Starts t table → (v : ℕ) → v < 512 → v < value_count t → get_or table v 0 ≡ offset t (node_count t) v
start_at t table s v h k = s.at_each v h ∙ ap (λ (b : Bool). pick b (offset t (node_count t) v) 0) (lt-ltb v (value_count t) k)

led : (k : ℕ) (t : List ℕ) (o : ℕ) → led_by (bytes_from k t o) ≡ (leb 1 k && eqb (get_or t o 0) 95)
led zero t o = rw (lt-leb 1 0 (omega arith))
led (suc k) t o = rw (le-leb 1 (suc k) (omega arith))

joined : (a b d : Bool) → (a && (b && d)) ≡ ((a && b) && d)
joined true b d = refl
joined false b d = refl

-- value v, which starts at o, is a name that begins with an underscore
pub underscore_there : (t : List ℕ) (v o : ℕ) → v < value_count t → o ≡ offset t (node_count t) v
    → underscored (table_of t) v ≡ ((eqb (get_or t o 0) 0 && leb 1 (u16_at t (o + 1))) && eqb (get_or t (o + 3) 0) 95)
underscore_there t v o h e =
    rw (at_table t v h, ← e, led (u16_at t (o + 1)) t (o + 3)) (joined (eqb (get_or t o 0) 0) (leb 1 (u16_at t (o + 1))) (eqb (get_or t (o + 3) 0) 95))
