-- Readers of a list by place, as searches. Assumes nothing.
use Prim.Native.Nat.{ℕ, zero, suc, ◌+◌, ◌-◌, ◌≤◌}
use native.Mathlib.Omega.{arith}
use mathlib.Core.Path.{◌≡◌, refl, sym, ap, ◌∙◌}
use mathlib.Core.Bool.{Bool, true, false, ◌||◌}
use mathlib.Core.List.{List, [], ◌∷◌}
use lib.Dec.{ltb, eqb}
use borrow.Author.Tests.{lt-ltb, le-ltb}
use Rattle.tree.specs.Bytes.{pick}
use Rattle.tree.specs.Forest.{Spot}
use Rattle.rules.specs.Names.{same, has_name as named, warned, Warning, Setting}
use Rattle.rules.specs.code.Marks.{Entry, inside, find, has_entry, sets_name, same_setting, setting_of}
use Rattle.scope.specs.Lists.{places_in, places, seek_in, seek}

abbrev pub any : {A : Type 0} → (A → Bool) → List A → Bool
any q [] = false
any q (x ∷ xs) = q x || any q xs

module _ {A : Type 0} (q : A → Bool) (f : ℕ → A) where
  any_in : (n a : ℕ) → any q (places_in f a n) ≡ ltb (seek_in (λ k. q (f k)) a n) (a + n)
  unfolding places_in seek_in
  any_in zero a = sym (le-ltb a (a + 0) (omega arith))
  any_in (suc n) a = go (q (f a)) refl (any_in n (a + 1))
    where
      go : (x : Bool) → q (f a) ≡ x → any q (places_in f (a + 1) n) ≡ ltb (seek_in (λ k. q (f k)) (a + 1) n) (a + 1 + n)
          → any q (places_in f a (suc n)) ≡ ltb (seek_in (λ k. q (f k)) a (suc n)) (a + suc n)
      go true e h = rw (places_in, seek_in, e) (sym (lt-ltb a (a + suc n) (omega arith)))
      go false e h = let z : a + suc n ≡ a + 1 + n = omega arith in rw (places_in, seek_in, e, z) h

  pub any_places : (a b : ℕ) → a ≤ b → any q (places f a b) ≡ ltb (seek (λ k. q (f k)) a b) b
  unfolding places seek
  any_places a b h = let z : a + (b - a) ≡ b = omega arith in any_in (b - a) a ∙ rw z

-- the readers of rules' Marks are such
pub inside_any : (s : Spot) (l : List Spot) → inside same s l ≡ any (same s) l
inside_any s [] = refl
inside_any s (x ∷ xs) = ap (λ (b : Bool). same s x || b) (inside_any s xs)

pub named_any : (x : ℕ) (l : List Spot) → named x l ≡ any (λ s. eqb x s.value) l
named_any x [] = refl
named_any x (s ∷ ss) = ap (λ (b : Bool). eqb x s.value || b) (named_any x ss)

pub warned_any : (s : Spot) (l : List Warning) → warned s l ≡ any (λ v. same s v.spot) l
warned_any s [] = refl
warned_any s (v ∷ vs) = ap (λ (b : Bool). same s v.spot || b) (warned_any s vs)

pub entry_any : (k : Setting) (l : List Entry) → has_entry k l ≡ any (λ e. same_setting k (setting_of e)) l
entry_any k [] = refl
entry_any k (e ∷ es) = ap (λ (b : Bool). same_setting k (setting_of e) || b) (entry_any k es)

pub sets_any : (x : ℕ) (l : List Entry) → sets_name x l ≡ any (λ e. eqb x e.spot.value) l
sets_any x [] = refl
sets_any x (e ∷ es) = ap (λ (b : Bool). eqb x e.spot.value || b) (sets_any x es)

module _ {B : Type 0} (q : Spot → Bool) (g : Entry → B) (z : B) (f : ℕ → Entry) where
  find_in : (n a : ℕ) → find q g z (places_in f a n) ≡ pick (ltb (seek_in (λ k. q (f k).spot) a n) (a + n)) (g (f (seek_in (λ k. q (f k).spot) a n))) z
  unfolding places_in seek_in
  find_in zero a = rw (le-ltb a (a + 0) (omega arith))
  find_in (suc n) a = go (q (f a).spot) refl (find_in n (a + 1))
    where
      go : (x : Bool) → q (f a).spot ≡ x
          → find q g z (places_in f (a + 1) n) ≡ pick (ltb (seek_in (λ k. q (f k).spot) (a + 1) n) (a + 1 + n)) (g (f (seek_in (λ k. q (f k).spot) (a + 1) n))) z
          → find q g z (places_in f a (suc n)) ≡ pick (ltb (seek_in (λ k. q (f k).spot) a (suc n)) (a + suc n)) (g (f (seek_in (λ k. q (f k).spot) a (suc n)))) z
      go true e h = rw (places_in, seek_in, e, lt-ltb a (a + suc n) (omega arith))
      go false e h = let y : a + suc n ≡ a + 1 + n = omega arith in rw (places_in, seek_in, e, y) h

  pub find_places : (a b : ℕ) → a ≤ b → find q g z (places f a b) ≡ pick (ltb (seek (λ k. q (f k).spot) a b) b) (g (f (seek (λ k. q (f k).spot) a b))) z
  unfolding places seek
  find_places a b h = let y : a + (b - a) ≡ b = omega arith in find_in (b - a) a ∙ rw y
