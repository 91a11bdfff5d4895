-- In a valid file the key test is decided by value numbers and the numbers that stand for keys; two forms of one number are an integer
-- and a float. Assumes nothing.
use Rattle.std.specs.Prelude.{Ok}
use Prim.Native.Nat.{ℕ, ◌≤◌, ◌<◌}
use native.Mathlib.Omega.{arith}
use native.Mathlib.Decide.{ℕ_discrete}
use mathlib.Core.Path.{◌≡◌, refl, sym, ap, subst, ◌∙◌}
use mathlib.Core.List.{List}
use mathlib.Core.Logic.{◌⊎◌, inl, inr, ◌↔◌}
use mathlib.Core.Bool.{Bool, true, false, cond, ◌&&◌}
use mathlib.Core.Option.{Option, none, some, none-ne-some, some-injective}
use lib.Dec.{T, eqb, leb, eqb→eq}
use lib.ListN.{length, get_or}
use borrow.Author.Tests.{eq-eqb, ne_eqb, eqb-true}
use Rattle.tree.specs.Bytes.{value_count, pick}
use Rattle.tree.specs.Values.{Value, sense, a_name, a_text, an_integer, a_float, unknown, magnitude, little, form_as, formed}
use Rattle.tree.specs.Judge.{judged}
use Rattle.tree.specs.declared.Mode.{Mode}
use Rattle.tree.specs.declared.Facts.{Facts}
use Rattle.tree.specs.Keys.{whole, counted, number_as, number, formed_alike, same_numbers, likeness, like, alike, same_key, reason}
use Rattle.tree.specs.Table.{table_of, at}
use Rattle.tree.specs.code.Numbers.{integer_is, is_integer, if_so, float_number, sought, lead, key_number, KeyNumbers, like_by}
use Rattle.tree.proofs.Search.{clash}
use Rattle.tree.proofs.KeyLaws.{formed-alike→eq, formed_alike_refl, and_left, and_right, both, Same, by_form, by_number, same_means, means_same, same_refl, same_sym, same_trans, one_form}
use Rattle.tree.proofs.KeySearch.{found}
use Rattle.tree.proofs.KeyReasons.{said_number}
use Rattle.tree.proofs.Whole.{sound}
use Rattle.tree.proofs.ValidTable.{value_formed, value_bytes, one_number}

so : {b : Bool} → b ≡ true → T b
so e = subst T (sym e) tt

is_so : (b : Bool) → T b → b ≡ true
is_so true t = refl
is_so false t = absurd t

not_so : (b : Bool) → (T b → ⊥) → b ≡ false
not_so true n = absurd (n tt)
not_so false n = refl

-- what a value that has a number is: an integer of that magnitude, or a float that counts as it
data Number (m : Mode) (v : Value) (n : ℕ) : Type 0 where
  whole_number : v.kind ≡ 3 → T (integer_is n v) → Number m v n
  counted_float : v.kind ≡ 4 → float_number m v ≡ some n → Number m v n

as_number : (m : Mode) (v : Value) (n : ℕ) → T (formed v) → number m v ≡ some n → Number m v n
unfolding formed
as_number m v n f e = go (eqb v.kind 0) (leb v.kind 2) (eqb v.kind 3) refl (eqb v.kind 4) refl (and_right (leb (length v.bytes) 255) (form_as (sense v.kind) v.bytes) f) e
  where
    go : (a b c : Bool) → eqb v.kind 3 ≡ c → (d : Bool) → eqb v.kind 4 ≡ d
        → T (form_as (cond a a_name (cond b a_text (cond c an_integer (cond d a_float unknown)))) v.bytes)
        → number_as m (cond a a_name (cond b a_text (cond c an_integer (cond d a_float unknown)))) v.bytes ≡ some n → Number m v n
    go true b c p d q f e = absurd (none-ne-some n e)
    go false true c p d q f e = absurd (none-ne-some n e)
    go false false true p d q f e = whole_number (eqb-true v.kind 3 p)
        (both (eqb v.kind 3) (eqb (magnitude v.bytes) n) (so p) (so (eq-eqb _ _ (some-injective (magnitude v.bytes) n e))))
    go false false false p true q f e = counted_float (eqb-true v.kind 4 q)
        (rw (q, is_so (eqb (length v.bytes) 8) (and_left (eqb (length v.bytes) 8) _ f)) e)
    go false false false p false q f e = absurd (none-ne-some n e)

integer_number : (m : Mode) (v : Value) (n : ℕ) → T (integer_is n v) → (v.kind ≡ 3) × (number m v ≡ some n)
integer_number m v n t =
    let k = eqb→eq v.kind 3 (and_left (eqb v.kind 3) (eqb (magnitude v.bytes) n) t) in
    let e = eqb→eq (magnitude v.bytes) n (and_right (eqb v.kind 3) (eqb (magnitude v.bytes) n) t) in
    (k, ap (λ (x : ℕ). number_as m (sense x) v.bytes) k ∙ ap {B = Option ℕ} some e)

float_counts : (m : Mode) (v : Value) (n : ℕ) → float_number m v ≡ some n → number m v ≡ some n
float_counts m v n e = go (eqb v.kind 4) refl (eqb (length v.bytes) 8) e
  where
    go : (a : Bool) → eqb v.kind 4 ≡ a → (b : Bool) → if_so (a && b) (counted m (whole (little v.bytes))) ≡ some n → number m v ≡ some n
    go true p true e = ap (λ (x : ℕ). number_as m (sense x) v.bytes) (eqb-true v.kind 4 p) ∙ e
    go true p false e = absurd (none-ne-some n e)
    go false p b e = absurd (none-ne-some n e)

no_float : (m : Mode) (v : Value) → v.kind ≡ 3 → float_number m v ≡ none
no_float m v k = rw k

module _ (t : List ℕ) (f : Facts) (valid : judged t ≡ Ok f) (bytes : (k : ℕ) → get_or t k 0 < 256) (m : Mode) where
  vs : List Value
  vs = table_of t

  -- of one kind, only one value number
  alone : (a b : ℕ) → a < value_count t → b < value_count t → (at vs a).kind ≡ (at vs b).kind → T (same_key m (at vs a) (at vs b)) → a ≡ b
  unfolding vs
  alone a b h k e s = one_number t f valid a b h k
      (one_form m (at vs a) (at vs b) (value_formed t f valid a h) (value_formed t f valid b k) (value_bytes t bytes a h) (value_bytes t bytes b k) e s)

  -- a float goes to the integer that it counts as, if the table has that
  data Led (v : ℕ) : Type 0 where
    own : key_number m vs v ≡ v → Led v
    led : (n : ℕ) → float_number m (at vs v) ≡ some n → T (integer_is n (at vs (key_number m vs v))) → Led v

  lead_to : (v n : ℕ) → float_number m (at vs v) ≡ some n → key_number m vs v ≡ pick (is_integer vs n (sought vs v n)) (sought vs v n) v
  unfolding key_number
  lead_to v n e = ap (lead vs v) e

  lead_own : (v : ℕ) → float_number m (at vs v) ≡ none → key_number m vs v ≡ v
  unfolding key_number
  lead_own v e = ap (lead vs v) e

  lead_found : (v n : ℕ) → float_number m (at vs v) ≡ some n → is_integer vs n (sought vs v n) ≡ true → key_number m vs v ≡ sought vs v n
  lead_found v n e q = lead_to v n e ∙ ap (λ (b : Bool). pick b (sought vs v n) v) q

  leading : (v : ℕ) → Led v
  leading v = go (float_number m (at vs v)) refl
    where
      go : (o : Option ℕ) → float_number m (at vs v) ≡ o → Led v
      go none e = own (lead_own v e)
      go (some n) e = found_or (is_integer vs n (sought vs v n)) refl
        where
          found_or : (b : Bool) → is_integer vs n (sought vs v n) ≡ b → Led v
          found_or true q = led n e (subst (λ (u : ℕ). T (integer_is n (at vs u))) (sym (lead_found v n e q)) (so q))
          found_or false q = own (lead_to v n e ∙ ap (λ (b : Bool). pick b (sought vs v n) v) q)

  stands : (v : ℕ) → T (same_key m (at vs v) (at vs (key_number m vs v)))
  stands v = go (leading v)
    where
      go : Led v → T (same_key m (at vs v) (at vs (key_number m vs v)))
      go (own e) = rw e (same_refl m (at vs v))
      go (led n e i) = means_same m (at vs v) (at vs (key_number m vs v)) (by_number n (float_counts m (at vs v) n e) (integer_number m (at vs (key_number m vs v)) n i).1)

  integer_own : (a : ℕ) → (at vs a).kind ≡ 3 → key_number m vs a ≡ a
  integer_own a k = go (leading a)
    where
      go : Led a → key_number m vs a ≡ a
      go (own e) = e
      go (led n e i) = absurd (none-ne-some n (sym (no_float m (at vs a) k) ∙ e))

  -- an integer of the table, and a float that counts as it
  meets : (a b n : ℕ) → a < value_count t → b < value_count t → T (integer_is n (at vs a)) → (at vs b).kind ≡ 4 → float_number m (at vs b) ≡ some n → key_number m vs b ≡ a
  unfolding vs
  meets a b n h k i q e =
      let p : sought vs b n ≡ a = found t f valid bytes a b n h k i q in
      lead_found b n e (is_so _ (subst (λ (u : ℕ). T (integer_is n (at vs u))) (sym p) i)) ∙ p

  same_number_of : (a b : ℕ) → a < value_count t → b < value_count t → T (same_key m (at vs a) (at vs b)) → key_number m vs a ≡ key_number m vs b
  unfolding vs
  same_number_of a b h k s = go (same_means m (at vs a) (at vs b) s)
    where
      equal : a ≡ b → key_number m vs a ≡ key_number m vs b
      equal e = ap (key_number m vs) e

      cases : (n : ℕ) → Number m (at vs a) n → Number m (at vs b) n → key_number m vs a ≡ key_number m vs b
      cases n (whole_number p i) (whole_number q j) = equal (alone a b h k (p ∙ sym q) s)
      cases n (whole_number p i) (counted_float q e) = integer_own a p ∙ sym (meets a b n h k i q e)
      cases n (counted_float p e) (whole_number q j) = meets b a n k h j p e ∙ sym (integer_own b q)
      cases n (counted_float p d) (counted_float q e) = equal (alone a b h k (p ∙ sym q) s)

      go : Same m (at vs a) (at vs b) → key_number m vs a ≡ key_number m vs b
      go (by_form e) = equal (one_number t f valid a b h k e)
      go (by_number n d e) = cases n (as_number m (at vs a) n (value_formed t f valid a h) d) (as_number m (at vs b) n (value_formed t f valid b k) e)

  -- the key test, by the numbers of the table that key_numbers fills
  pub same_key_number : (a b : ℕ) → a < value_count t → b < value_count t
      → same_key m (at (table_of t) a) (at (table_of t) b) ≡ eqb (key_number m (table_of t) a) (key_number m (table_of t) b)
  unfolding vs
  same_key_number a b h k = decide (same_key m (at vs a) (at vs b)) refl
    where
      decide : (x : Bool) → same_key m (at vs a) (at vs b) ≡ x → x ≡ eqb (key_number m vs a) (key_number m vs b)
      decide true e = sym (eq-eqb _ _ (same_number_of a b h k (so e)))
      decide false e = sym (ne_eqb _ _ (λ q. clash (is_so _ (joined q)) e))
        where
          joined : key_number m vs a ≡ key_number m vs b → T (same_key m (at vs a) (at vs b))
          joined q = same_trans m (at vs a) (at vs (key_number m vs a)) (at vs b) (stands a)
              (rw q (same_sym m (at vs b) (at vs (key_number m vs b)) (stands b)))

  -- two keys of one kind are the same exactly if their value numbers are
  pub one_kind : (a b : ℕ) → a < value_count t → b < value_count t → (at (table_of t) a).kind ≡ (at (table_of t) b).kind
      → T (same_key m (at (table_of t) a) (at (table_of t) b)) ↔ (a ≡ b)
  unfolding vs
  one_kind a b h k e = (alone a b h k e, λ q. subst (λ (x : ℕ). T (same_key m (at vs a) (at vs x))) q (same_refl m (at vs a)))

  -- the key test by value numbers and their table is that of the values
  pub like_numbers : (ns : List ℕ) → KeyNumbers t m ns → (a b : ℕ) → a < value_count t → b < value_count t
      → like_by ns a b ≡ like m (at (table_of t) a) (at (table_of t) b)
  unfolding vs like_by
  like_numbers ns table a b h k =
      go (eqb (get_or ns a 0) (get_or ns b 0)) (eqb a b) (formed_alike (at vs a) (at vs b)) (same_numbers (number m (at vs a)) (number m (at vs b))) one_value
      (rw (table a (omega (arith, few)), table b (omega (arith, few))) (sym (same_key_number a b h k)))
    where
      few : value_count t ≤ 512
      few = (sound t f valid).few_values

      one_value : eqb a b ≡ formed_alike (at vs a) (at vs b)
      one_value = decide (ℕ_discrete a b)
        where
          decide : Dec (a ≡ b) → eqb a b ≡ formed_alike (at vs a) (at vs b)
          decide (yes e) = eq-eqb a b e ∙ sym (is_so _ (subst (λ (x : ℕ). T (formed_alike (at vs a) (at vs x))) e (formed_alike_refl (at vs a))))
          decide (no d) = ne_eqb a b d ∙ sym (not_so _ (λ u. d (one_number t f valid a b h k (formed-alike→eq _ _ u))))

      go : (n x y z : Bool) → x ≡ y → n ≡ alike (likeness y z) → likeness x n ≡ likeness y z
      go n x true z e q = ap (λ (b : Bool). likeness b n) e
      go n x false true e q = ap (λ (b : Bool). likeness b n) e ∙ ap (likeness false) q
      go n x false false e q = ap (λ (b : Bool). likeness b n) e ∙ ap (likeness false) q

  -- two forms of one number: an integer and a float
  pub two_forms : (a b : ℕ) → a < value_count t → b < value_count t → reason (like m (at (table_of t) a) (at (table_of t) b)) ≡ 2
      → (((at (table_of t) a).kind ≡ 3) × ((at (table_of t) b).kind ≡ 4)) ⊎ (((at (table_of t) a).kind ≡ 4) × ((at (table_of t) b).kind ≡ 3))
  unfolding vs
  two_forms a b h k e =
      let p = (said_number m (at vs a) (at vs b)).0 e in
      go p.1.0 (as_number m (at vs a) p.1.0 (value_formed t f valid a h) p.1.1) (as_number m (at vs b) p.1.0 (value_formed t f valid b k) p.1.2)
      (λ q. p.0 (ap (λ (x : ℕ). (at vs x).kind) q, ap (λ (x : ℕ). (at vs x).bytes) q))
      (means_same m (at vs a) (at vs b) (by_number p.1.0 p.1.1 p.1.2))
    where
      go : (n : ℕ) → Number m (at vs a) n → Number m (at vs b) n → (a ≡ b → ⊥) → T (same_key m (at vs a) (at vs b))
          → (((at vs a).kind ≡ 3) × ((at vs b).kind ≡ 4)) ⊎ (((at vs a).kind ≡ 4) × ((at vs b).kind ≡ 3))
      go n (whole_number p i) (whole_number q j) d s = absurd (d (alone a b h k (p ∙ sym q) s))
      go n (whole_number p i) (counted_float q j) d s = inl (p, q)
      go n (counted_float p i) (whole_number q j) d s = inr (p, q)
      go n (counted_float p i) (counted_float q j) d s = absurd (d (alone a b h k (p ∙ sym q) s))
