-- The table of a valid file: its values are formed and ascend, so no value stands twice. Assumes nothing.
use Rattle.std.specs.Prelude.{Ok}
use Prim.Native.Nat.{ℕ, zero, suc, ◌+◌, ◌-◌, ◌≤◌, ◌<◌}
use native.Mathlib.Omega.{arith}
use native.Mathlib.Decide.{dec_lt}
use mathlib.Core.Path.{◌≡◌, refl, sym, ap, subst, ◌∙◌}
use mathlib.Core.List.{List}
use mathlib.Core.Bool.{Bool, true, false}
use lib.Dec.{T, eqb, ltb}
use lib.ListN.{get_or}
use borrow.Author.Tests.{lt-ltb, eq-eqb, ne_eqb}
use Rattle.tree.specs.Bytes.{bytes_from, u16_at, node_count, value_count}
use Rattle.tree.specs.Search.{lowest}
use Rattle.tree.specs.Values.{Value, formed, precedes, offset}
use Rattle.tree.specs.code.Stages.{value_no, None5}
use Rattle.tree.specs.Judge.{judged}
use Rattle.tree.specs.declared.Facts.{Facts}
use Rattle.tree.specs.Table.{table_of, at, spells}
use Rattle.tree.specs.code.Numbers.{number_named, below_or}
use Rattle.tree.proofs.Search.{clash, lowest_clear, lowest_hit, lowest_le}
use Rattle.tree.proofs.Names.{well_formed, in_order}
use Rattle.tree.proofs.Whole.{sound}
use Rattle.tree.proofs.TableLaws.{at_table, at_past, below_found, below_none}
use Rattle.tree.proofs.KeyLaws.{all_bytes, both, formed-alike→eq, precedes_trans, precedes_self}

-- a valid file has at most 512 values, and 5 refuses none
pub valid_five : (t : List ℕ) (f : Facts) → judged t ≡ Ok f → (value_count t ≤ 512) × None5 t (node_count t) (value_count t)
valid_five t f e = let s = sound t f e in (s.few_values, s.none5)

so : {b : Bool} → b ≡ true → T b
so e = subst T (sym e) tt

module _ (t : List ℕ) (f : Facts) (valid : judged t ≡ Ok f) where
  none_refused : None5 t (node_count t) (value_count t)
  none_refused = (valid_five t f valid).1

  pub value_formed : (i : ℕ) → i < value_count t → T (formed (at (table_of t) i))
  value_formed i h = so (ap formed (at_table t i h) ∙ well_formed t (node_count t) (value_count t) none_refused i h)

  rising : (i d : ℕ) → i + suc d < value_count t → T (precedes (value_no t (node_count t) i) (value_no t (node_count t) (i + suc d)))
  rising i zero h = let q : i + 1 ≡ suc i = omega arith in rw q (so (in_order t (node_count t) (value_count t) none_refused i (omega arith)))
  rising i (suc d) h =
      let q : i + suc (suc d) ≡ suc (i + suc d) = omega arith in
      precedes_trans (value_no t (node_count t) i) (value_no t (node_count t) (i + suc d)) (value_no t (node_count t) (i + suc (suc d))) (rising i d (omega arith))
      (rw q (so (in_order t (node_count t) (value_count t) none_refused (i + suc d) (omega arith))))

  pub ascending : (i j : ℕ) → i < j → j < value_count t → T (precedes (at (table_of t) i) (at (table_of t) j))
  ascending i j h k =
      let q : i + suc (j - suc i) ≡ j = omega arith in
      let r : T (precedes (value_no t (node_count t) i) (value_no t (node_count t) j)) = rw q at (rising i (j - suc i) (omega arith)) in
      rw (at_table t i (omega arith), at_table t j k) r

  -- two value numbers are equal exactly where kind and bytes are
  pub one_number : (a b : ℕ) → a < value_count t → b < value_count t → at (table_of t) a ≡ at (table_of t) b → a ≡ b
  one_number a b h k e = go (dec_lt a b) (dec_lt b a)
    where
      go : Dec (a < b) → Dec (b < a) → a ≡ b
      go (yes l) d = absurd (precedes_self (at (table_of t) a) (subst (λ (x : Value). T (precedes (at (table_of t) a) x)) (sym e) (ascending a b l k)))
      go (no l) (yes r) = absurd (precedes_self (at (table_of t) b) (subst (λ (x : Value). T (precedes (at (table_of t) b) x)) e (ascending b a r h)))
      go (no l) (no r) = omega arith

  -- the number that number_of gives decides which value numbers are that name
  pub spells_number : (bs : List ℕ) (v : ℕ) → v < 65536 → spells (table_of t) bs v ≡ eqb v (number_named t bs)
  unfolding number_named
  spells_number bs v h = go (dec_lt u (value_count t))
    where
      p : ℕ → Bool
      p = spells (table_of t) bs

      u : ℕ
      u = lowest (value_count t) p

      inside : spells (table_of t) bs v ≡ true → v < value_count t
      inside e = low (dec_lt v (value_count t))
        where
          low : Dec (v < value_count t) → v < value_count t
          low (yes l) = l
          low (no l) = clash e (rw (at_past t v (omega arith)))

      go : Dec (u < value_count t) → spells (table_of t) bs v ≡ eqb v (below_or u (value_count t) 65536)
      go (yes l) = rw (below_found (value_count t) u 65536 p refl l) (decide (spells (table_of t) bs v) refl)
        where
          hit : spells (table_of t) bs u ≡ true
          hit = lowest_hit (value_count t) p l

          decide : (b : Bool) → spells (table_of t) bs v ≡ b → b ≡ eqb v u
          decide true e = sym (eq-eqb v u (one_number v u (inside e) l
              (formed-alike→eq (at (table_of t) v) _ (so e) ∙ sym (formed-alike→eq (at (table_of t) u) _ (so hit)))))
          decide false e = sym (ne_eqb v u (λ q. clash (ap p q ∙ hit) e))
      go (no l) = rw (below_none (value_count t) 65536 p (let m = lowest_le (value_count t) p in omega arith)) (decide (spells (table_of t) bs v) refl)
        where
          decide : (b : Bool) → spells (table_of t) bs v ≡ b → b ≡ eqb v 65536
          decide true e = clash e (lowest_clear (value_count t) p v (let i = inside e in omega arith))
          decide false e = sym (ne_eqb v 65536 (λ q. omega arith))

-- the bytes of a value are bytes where those of the file are
pub bytes_from_fit : (t : List ℕ) → ((k : ℕ) → get_or t k 0 < 256) → (k o : ℕ) → T (all_bytes (bytes_from k t o))
bytes_from_fit t b zero o = tt
bytes_from_fit t b (suc k) o = both (ltb (get_or t o 0) 256) (all_bytes (bytes_from k t (o + 1))) (so (lt-ltb (get_or t o 0) 256 (b o))) (bytes_from_fit t b k (o + 1))

pub value_bytes : (t : List ℕ) → ((k : ℕ) → get_or t k 0 < 256) → (i : ℕ) → i < value_count t → T (all_bytes (at (table_of t) i).bytes)
value_bytes t b i h = rw (at_table t i h) (bytes_from_fit t b (u16_at t (offset t (node_count t) i + 1)) (offset t (node_count t) i + 3))
