-- What is kept of a list. Assumes nothing.
use Prim.Native.Nat.{suc, ◌≤◌}
use native.Mathlib.Omega.{arith}
use mathlib.Core.Path.{◌≡◌, refl, sym, ap, ◌∙◌}
use mathlib.Core.Bool.{Bool, true, false}
use mathlib.Core.List.{List, [], ◌∷◌, ◌++◌, map}
use lib.ListN.{length}
use Rattle.rules.specs.Record.{keep, Each}

module _ {A : Type 0} (p : A → Bool) where
  -- a member, kept or not
  pub keep_so : (x : A) (xs : List A) → p x ≡ true → keep p (x ∷ xs) ≡ x ∷ keep p xs
  keep_so x xs e = ap (λ (b : Bool). elim b as (λ z. List A) [ true ↦ x ∷ keep p xs | false ↦ keep p xs ]) e

  pub keep_not : (x : A) (xs : List A) → p x ≡ false → keep p (x ∷ xs) ≡ keep p xs
  keep_not x xs e = ap (λ (b : Bool). elim b as (λ z. List A) [ true ↦ x ∷ keep p xs | false ↦ keep p xs ]) e

  pub keep_each : (xs : List A) → Each (λ x. p x ≡ true) xs → keep p xs ≡ xs
  keep_each [] h = refl
  keep_each (x ∷ xs) h = keep_so x xs h.0 ∙ ap (λ (l : List A). x ∷ l) (keep_each xs h.1)

  pub keep_append : (xs ys : List A) → keep p (xs ++ ys) ≡ keep p xs ++ keep p ys
  keep_append [] ys = refl
  keep_append (x ∷ xs) ys = go (p x) refl (keep_append xs ys)
    where
      go : (b : Bool) → p x ≡ b → keep p (xs ++ ys) ≡ keep p xs ++ keep p ys → keep p (x ∷ (xs ++ ys)) ≡ keep p (x ∷ xs) ++ keep p ys
      go true e h = keep_so x (xs ++ ys) e ∙ ap (λ (l : List A). x ∷ l) h ∙ ap (λ (l : List A). l ++ keep p ys) (sym (keep_so x xs e))
      go false e h = keep_not x (xs ++ ys) e ∙ h ∙ ap (λ (l : List A). l ++ keep p ys) (sym (keep_not x xs e))

  pub keep_fewer : (xs : List A) → length (keep p xs) ≤ length xs
  keep_fewer [] = omega arith
  keep_fewer (x ∷ xs) = go (p x) (keep_fewer xs)
    where
      go : (b : Bool) → length (keep p xs) ≤ length xs → length {A = A} (elim b [ true ↦ x ∷ keep p xs | false ↦ keep p xs ]) ≤ suc (length xs)
      go true h = omega arith
      go false h = omega arith

-- of what is made of each member
pub keep_map : {A B : Type 0} (p : A → Bool) (f : B → A) (ys : List B) → keep p (map f ys) ≡ map f (keep (λ y. p (f y)) ys)
keep_map p f [] = refl
keep_map {A} {B} p f (y ∷ ys) = go (p (f y)) refl (keep_map p f ys)
  where
    go : (b : Bool) → p (f y) ≡ b → keep p (map f ys) ≡ map f (keep (λ y. p (f y)) ys) → keep p (f y ∷ map f ys) ≡ map f (keep (λ y. p (f y)) (y ∷ ys))
    go true e h = keep_so p (f y) (map f ys) e ∙ ap (λ (l : List A). f y ∷ l) h ∙ ap (map f) (sym (keep_so (λ y. p (f y)) y ys e))
    go false e h = keep_not p (f y) (map f ys) e ∙ h ∙ ap (map f) (sym (keep_not (λ y. p (f y)) y ys e))

-- which are left out first doesn't matter
pub keep_both : {A : Type 0} (p q : A → Bool) (xs : List A) → keep p (keep q xs) ≡ keep q (keep p xs)
keep_both p q [] = refl
keep_both {A} p q (x ∷ xs) = go (p x) refl (q x) refl (keep_both p q xs)
  where
    first : (r s : A → Bool) → r x ≡ true → s x ≡ true → keep r (keep s (x ∷ xs)) ≡ x ∷ keep r (keep s xs)
    first r s e f = ap (keep r) (keep_so s x xs f) ∙ keep_so r x (keep s xs) e

    -- one of the two leaves x out
    inner : (r s : A → Bool) → s x ≡ false → keep r (keep s (x ∷ xs)) ≡ keep r (keep s xs)
    inner r s f = ap (keep r) (keep_not s x xs f)

    outer : (r s : A → Bool) → r x ≡ false → (b : Bool) → s x ≡ b → keep r (keep s (x ∷ xs)) ≡ keep r (keep s xs)
    outer r s e true f = ap (keep r) (keep_so s x xs f) ∙ keep_not r x (keep s xs) e
    outer r s e false f = inner r s f

    go : (a : Bool) → p x ≡ a → (b : Bool) → q x ≡ b → keep p (keep q xs) ≡ keep q (keep p xs) → keep p (keep q (x ∷ xs)) ≡ keep q (keep p (x ∷ xs))
    go true e true f h = first p q e f ∙ ap (λ (l : List A). x ∷ l) h ∙ sym (first q p f e)
    go true e false f h = inner p q f ∙ h ∙ sym (outer q p f true e)
    go false e b f h = outer p q e b f ∙ h ∙ sym (inner q p e)
