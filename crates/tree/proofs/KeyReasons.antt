-- 02, §11: what the key test says, in each mode and of all values. Assumes nothing.
use Prim.Native.Nat.{ℕ, ◌≤◌}
use native.Mathlib.Omega.{arith}
use mathlib.Core.Path.{◌≡◌, refl, sym, ap, ap₂, subst}
use mathlib.Core.Logic.{◌↔◌}
use mathlib.Core.Bool.{Bool, true, false, cond}
use mathlib.Core.Option.{Option, none, some}
use lib.Dec.{T, eqb, leb, le→leb}
use Rattle.tree.specs.Values.{Value, Sense, a_name, a_text}
use Rattle.tree.specs.declared.Mode.{Mode}
use Rattle.tree.specs.Keys.{number_as, number, formed_alike, same_numbers, likeness, like, alike, same_key, reason}
use Rattle.tree.proofs.KeyLaws.{value_path, formed-alike→eq, formed_alike_refl, numbers_of, numbers_same}

so : {b : Bool} → b ≡ true → T b
so e = subst T (sym e) tt

never : {b : Bool} → b ≡ false → T b → ⊥
never e t = subst T e t

alike_form : (v w : Value) → (v.kind ≡ w.kind) × (v.bytes ≡ w.bytes) → T (formed_alike v w)
alike_form v w p = subst (λ (x : Value). T (formed_alike v x)) (value_path v w p.0 p.1) (formed_alike_refl v)

-- one number, in that mode
abbrev pub OneNumber : Mode → Value → Value → Type 0
OneNumber m v w = (n : ℕ) × (number m v ≡ some n) × (number m w ≡ some n)

module _ (m : Mode) (v w : Value) where
  -- 1 exactly where kind and bytes are the same
  pub said_form : (reason (like m v w) ≡ 1) ↔ ((v.kind ≡ w.kind) × (v.bytes ≡ w.bytes))
  said_form = go (formed_alike v w) refl (same_numbers (number m v) (number m w))
    where
      go : (a : Bool) → formed_alike v w ≡ a → (b : Bool) → (reason (likeness a b) ≡ 1) ↔ ((v.kind ≡ w.kind) × (v.bytes ≡ w.bytes))
      go true e b =
          let q = formed-alike→eq v w (so e) in
          (λ z. (ap (λ (x : Value). x.kind) q, ap (λ (x : Value). x.bytes) q), λ z. refl)
      go false e true = (λ z. absurd (omega arith), λ p. absurd (never e (alike_form v w p)))
      go false e false = (λ z. absurd (omega arith), λ p. absurd (never e (alike_form v w p)))

  -- 2 exactly where they differ and the numbers are equal in that mode
  pub said_number : (reason (like m v w) ≡ 2) ↔ (((v.kind ≡ w.kind) × (v.bytes ≡ w.bytes) → ⊥) × OneNumber m v w)
  said_number = go (formed_alike v w) refl (same_numbers (number m v) (number m w)) refl
    where
      go : (a : Bool) → formed_alike v w ≡ a → (b : Bool) → same_numbers (number m v) (number m w) ≡ b
          → (reason (likeness a b) ≡ 2) ↔ (((v.kind ≡ w.kind) × (v.bytes ≡ w.bytes) → ⊥) × OneNumber m v w)
      go true e b f =
          let q = formed-alike→eq v w (so e) in
          (λ z. absurd (omega arith), λ p. absurd (p.0 (ap (λ (x : Value). x.kind) q, ap (λ (x : Value). x.bytes) q)))
      go false e true f = (λ z. (λ p. never e (alike_form v w p), numbers_of (number m v) (number m w) (so f)), λ p. refl)
      go false e false f =
          (λ z. absurd (omega arith), λ p. absurd (never f (numbers_same (number m v) (number m w) p.1.0 p.1.1 p.1.2)))

-- the test is symmetric; that keys so joined are an equivalence is KeyLaws' same-refl, same-sym and same-trans

both_ways : (a b : Bool) → (T a → T b) → (T b → T a) → a ≡ b
both_ways true true f g = refl
both_ways true false f g = absurd (f tt)
both_ways false true f g = absurd (g tt)
both_ways false false f g = refl

form_turned : (v w : Value) → T (formed_alike v w) → T (formed_alike w v)
form_turned v w t = subst (λ (x : Value). T (formed_alike x v)) (formed-alike→eq v w t) (formed_alike_refl v)

number_turned : (o p : Option ℕ) → T (same_numbers o p) → T (same_numbers p o)
number_turned o p t = let r = numbers_of o p t in numbers_same p o r.0 r.2 r.1

pub like_sym : (m : Mode) (v w : Value) → like m v w ≡ like m w v
like_sym m v w =
    ap₂ likeness (both_ways (formed_alike v w) (formed_alike w v) (form_turned v w) (form_turned w v))
    (both_ways (same_numbers (number m v) (number m w)) (same_numbers (number m w) (number m v))
    (number_turned (number m v) (number m w)) (number_turned (number m w) (number m v)))

-- identifiers, strings and bytes: 1 only
no_number : (m : Mode) (v : Value) → v.kind ≤ 2 → number m v ≡ none
no_number m v h = go (eqb v.kind 0) (leb v.kind 2) (le→leb v.kind 2 h) _
  where
    go : (a b : Bool) → T b → (s : Sense) → number_as m (cond a a_name (cond b a_text s)) v.bytes ≡ none
    go true b t s = refl
    go false true t s = refl
    go false false t s = absurd t

pub only_form : (m : Mode) (v w : Value) → v.kind ≤ 2 → T (same_key m v w) → reason (like m v w) ≡ 1
only_form m v w h = go (formed_alike v w) (number m v) (no_number m v h)
  where
    go : (a : Bool) (o : Option ℕ) → o ≡ none → T (alike (likeness a (same_numbers o (number m w)))) → reason (likeness a (same_numbers o (number m w))) ≡ 1
    go true o e t = refl
    go false o e t =
        let u : T (alike (likeness false (same_numbers none (number m w)))) = subst (λ (x : Option ℕ). T (alike (likeness false (same_numbers x (number m w))))) e t in
        absurd u
