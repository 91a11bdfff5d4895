-- 02, §2: integers and floats as strict keys, by exact value. Assumes nothing.
use Rattle.std.specs.Prelude.{Ok}
use Prim.Native.Nat.{ℕ, ◌*◌, ◌^◌, ◌≤◌, ◌<◌}
use native.Mathlib.Omega.{arith}
use mathlib.Core.Path.{◌≡◌, refl, sym, ap, ap₂, subst, ◌∙◌}
use mathlib.Core.List.{List}
use mathlib.Core.Logic.{◌↔◌}
use mathlib.Core.Bool.{false}
use mathlib.Core.Option.{none-ne-some, some-injective}
use lib.Dec.{T, leb→le}
use lib.ListN.{length, get_or}
use Rattle.tree.specs.Bytes.{bytes_from, value_count}
use Rattle.tree.specs.Values.{Value, magnitude, little}
use Rattle.tree.specs.Keys.{grains, finite, whole, like, alike, same_key, reason}
use Rattle.tree.specs.Judge.{judged}
use Rattle.tree.specs.Table.{table_of, at}
use Rattle.tree.specs.declared.Facts.{Facts}
use Rattle.tree.specs.declared.Likeness.{Likeness}
use Rattle.tree.specs.declared.Likeness.TheVariants.{Different, SameForm, SameNumber}
use Rattle.tree.specs.declared.Mode.{Mode}
use Rattle.tree.specs.declared.Mode.TheVariants.{Strict}
use Rattle.std.specs.Prelude.{Some, None}
use Rattle.std.specs.declared.cmp.Ordering.TheVariants.{Equal}
use Rattle.tree.specs.code.Numbers.{valued, KeyNumbers, like_by}
use Rattle.tree.proofs.KeyLaws.{IsNumber, value_path, Same, by_form, by_number, same_means, whole_grains, counted_some, grains_whole, integer, floating, mixed_keys, too_large}
use Rattle.tree.proofs.KeyReasons.{said_form}
use Rattle.tree.proofs.Magnitudes.{side_equal, equal_side}
use Rattle.tree.proofs.KeySearch.{integer_form}
use Rattle.tree.proofs.KeyTable.{like_numbers}
use Rattle.tree.proofs.ValidTable.{value_formed, value_bytes}
use Rattle.tree.proofs.floats.float_of.Reads as of_float
use Rattle.tree.proofs.keys.bytes_side.Reads as of_bytes

-- "Every finite whole float equals its integer, however large"
pub strict_keys : (xs ys : List ℕ) → T (same_key Strict (integer xs) (floating ys)) ↔ IsNumber (little ys) (magnitude xs)
strict_keys xs ys =
    let e = mixed_keys Strict xs ys in
    (λ t. (e.0 t).0, λ p. e.1 (p, tt))

-- "an infinity equals only itself", in both modes
pub infinity_alone : (m : Mode) (ys : List ℕ) (w : Value) → finite (little ys) ≡ false → T (same_key m (floating ys) w) → floating ys ≡ w
infinity_alone m ys w e t = go (same_means m (floating ys) w t)
  where
    go : Same m (floating ys) w → floating ys ≡ w
    go (by_form p) = p
    go (by_number n p q) = absurd (subst T e (whole_grains (little ys) n (counted_some m (whole (little ys)) n p)).0)

-- "Show it once over the exponent": what bytes_side answers of k bytes of t from o on and of what float_of made of 64 bits, by their contracts as
-- the checker reads them (Post: b has t, k, o and that, a the bits; r is the answer). Equal exactly if the float is the number of those bytes.
pub decides : (κs : _) (b : _) (r : _) (s : _) → of_bytes.Post κs b r s → (κs' : _) (a : _) (s' : _) → of_float.Post κs' a (Some b.1.1.1.0) s'
    → (r ≡ Equal) ↔ IsNumber a.0 (magnitude (bytes_from b.1.0 b.0.now b.1.1.0))
decides κs b r s e κs' a s' f =
    let n = valued b.1.1.1.0 in
    let k = magnitude (bytes_from b.1.0 b.0.now b.1.1.0) in
    let g = whole_grains a.0 n (sym f.0) in (
      λ q. let z : k ≡ n = equal_side n k (sym e ∙ q) in (g.0, g.1 ∙ ap (λ (x : ℕ). x * 2 ^ 1074) (sym z)),
      λ p. e ∙ side_equal n k (sym (some-injective n k (f.0 ∙ grains_whole a.0 k p.0 p.1))),
    )

-- and where float_of answers None, it is no whole number
pub other_none : (κs : _) (a : _) (s : _) → of_float.Post κs a None s → (n : ℕ) → IsNumber a.0 n → ⊥
other_none κs a s f n p = none-ne-some n (f.0 ∙ grains_whole a.0 n p.0 p.1)

-- ---- of a file that is judged valid: value a an integer, value b a float

module _ (t : List ℕ) (f : Facts) (valid : judged t ≡ Ok f) (bytes : (k : ℕ) → get_or t k 0 < 256) (a b : ℕ)
    (few-a : a < value_count t) (few-b : b < value_count t) (kind_a : (at (table_of t) a).kind ≡ 3) (kind-b : (at (table_of t) b).kind ≡ 4) where
  left : Value
  left = at (table_of t) a

  right : Value
  right = at (table_of t) b

  left_is : left ≡ integer left.bytes
  unfolding left
  left_is = value_path (at (table_of t) a) (integer (at (table_of t) a).bytes) kind_a refl

  right_is : right ≡ floating right.bytes
  unfolding right
  right_is = value_path (at (table_of t) b) (floating (at (table_of t) b).bytes) kind-b refl

  as_keys : (m : Mode) → same_key m left right ≡ same_key m (integer left.bytes) (floating right.bytes)
  as_keys m = ap₂ (same_key m) left_is right_is

  -- two forms: never the same one
  two : (m : Mode) → T (same_key m left right) → like m left right ≡ SameNumber
  unfolding left right
  two m u = go (like m left right) refl u
    where
      go : (l : Likeness) → like m left right ≡ l → T (alike l) → l ≡ SameNumber
      go Different e u = absurd u
      go SameForm e u = absurd (let q : 3 ≡ 4 = sym kind_a ∙ (((said_form m left right).0 (ap reason e)).0 ∙ kind-b) in omega arith)
      go SameNumber e u = refl

  -- they are the same key exactly if the float is that number
  pub exact_keys : (like Strict (at (table_of t) a) (at (table_of t) b) ≡ SameNumber) ↔ IsNumber (little (at (table_of t) b).bytes) (magnitude (at (table_of t) a).bytes)
  unfolding left right
  exact_keys = (
    λ e. (strict_keys left.bytes right.bytes).0 (subst T (as_keys Strict) (subst (λ (l : Likeness). T (alike l)) (sym e) tt)),
    λ p. two Strict (subst T (sym (as_keys Strict)) ((strict_keys left.bytes right.bytes).1 p)),
  )

  -- and so says the code, by the table that key_numbers promises and the answer that like promises
  pub exact_code : (ns : List ℕ) → KeyNumbers t Strict ns
      → (like_by ns a b ≡ SameNumber) ↔ IsNumber (little (at (table_of t) b).bytes) (magnitude (at (table_of t) a).bytes)
  exact_code ns table =
      let e = like_numbers t f valid bytes Strict ns table a b few-a few-b in
      (λ q. exact_keys.0 (sym e ∙ q), λ p. e ∙ exact_keys.1 p)

  short : length left.bytes ≤ 64
  unfolding left
  short = leb→le (length left.bytes) 64 (integer_form left kind_a (value_formed t f valid a few-a)).0

  -- "a larger float equals no integer in the file": 64 bytes of integer hold less than 2^512
  pub larger_none : (m : Mode) → 2 ^ 512 * 2 ^ 1074 ≤ grains (little (at (table_of t) b).bytes) → like m (at (table_of t) a) (at (table_of t) b) ≡ Different
  unfolding left right
  larger_none m h = go (like m left right) refl
    where
      never : T (same_key m left right) → ⊥
      never u = too_large m left.bytes right.bytes (value_bytes t bytes a few-a) short h (subst T (as_keys m) u)

      go : (l : Likeness) → like m left right ≡ l → l ≡ Different
      go Different e = refl
      go SameForm e = absurd (never (subst (λ (l : Likeness). T (alike l)) (sym e) tt))
      go SameNumber e = absurd (never (subst (λ (l : Likeness). T (alike l)) (sym e) tt))
