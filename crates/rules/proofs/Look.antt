-- What a table of rows says, whatever the number looked up.
use Prim.Native.Nat.{ℕ}
use mathlib.Core.Path.{◌≡◌, refl, sym, subst}
use mathlib.Core.Bool.{Bool, true, false, ◌&&◌, not}
use mathlib.Core.List.{List, [], ◌∷◌}
use mathlib.Core.Logic.{◌⊎◌, inl, inr}
use lib.Dec.{eqb, T, eqb→eq, not_T}
use Rattle.rules.specs.Visit.{look}
use Rattle.rules.specs.Order.{Form, forms, Bind, one, several, nothing, bindings}
use Rattle.rules.proofs.Bools.{and_left, and_right, both, never, test}

-- a number for each form, all different: forms are told apart by it
abbrev pub rank : Form → ℕ
rank Form.breaking = 0
rank Form.returning = 1
rank Form.expression = 2
rank Form.assign = 3
rank Form.modify = 4
rank Form.statements = 5
rank Form.if = 6
rank Form.if_else = 7
rank Form.for = 8
rank Form.def = 9
rank Form.load = 10
rank Form.identifier = 11
rank Form.lambda = 12
rank Form.comprehension = 13
rank Form.plain = 14

-- what a table's rows say of a form; d: of any other form
abbrev pub case {ℓ} : {A : Type ℓ} → Form → List (Form × A) → A → A
case z [] d = d
case z (e ∷ es) d = elim (eqb (rank z) (rank e.0)) [ true ↦ e.1 | false ↦ case z es d ]

-- what a table holds of each entry it holds of what is looked up
abbrev pub All : {A : Type 0} → (ℕ → A → Type 0) → List (ℕ × A) → Type 0
All Q [] = Unit {0}
All Q (e ∷ es) = Q e.0 e.1 × All Q es

look_step : {A : Type 0} (Q : ℕ → A → Type 0) (n k : ℕ) (a z : A) (b : Bool) → (T b → k ≡ n) → Q n a → Q k z
    → Q k (elim b as (λ x. A) [ true ↦ a | false ↦ z ])
look_step Q n k a z true e p q = subst (λ (x : ℕ). Q x a) (sym (e tt)) p
look_step Q n k a z false e p q = q

pub look_all : {A : Type 0} (Q : ℕ → A → Type 0) (k : ℕ) (es : List (ℕ × A)) (d : A) → All Q es → Q k d → Q k (look k es d)
look_all Q k [] d p q = q
look_all Q k (e ∷ es) d p q = look_step Q e.0 k e.1 (look k es d) (eqb k e.0) (eqb→eq k e.0) p.0 (look_all Q k es d p.1 q)

abbrev pub all_so : {A : Type 0} → (ℕ → A → Bool) → List (ℕ × A) → Bool
all_so q [] = true
all_so q (e ∷ es) = q e.0 e.1 && all_so q es

pub look_so : {A : Type 0} (q : ℕ → A → Bool) (k : ℕ) (es : List (ℕ × A)) (d : A) → T (all_so q es) → T (q k d) → T (q k (look k es d))
look_so q k es d t u = look_all (λ n a. T (q n a)) k es d (go es t) u
  where
    go : (es : List (ℕ × _)) → T (all_so q es) → All (λ n a. T (q n a)) es
    go [] t = tt
    go (e ∷ es) t = (and_left (q e.0 e.1) (all_so q es) t, go es (and_right (q e.0 e.1) (all_so q es) t))

none_step : {A : Type 0} (b : Bool) (a x d : A) (u : Bool) → T (not b && u) → (T u → x ≡ d)
    → elim b as (λ y. A) [ true ↦ a | false ↦ x ] ≡ d
none_step true a x d u t f = absurd t
none_step false a x d u t f = f t

-- where no row is of that number the table says what it says of any other
abbrev pub unlisted : {A : Type 0} → ℕ → List (ℕ × A) → Bool
unlisted k [] = true
unlisted k (e ∷ es) = not (eqb k e.0) && unlisted k es

pub look_none : {A : Type 0} (k : ℕ) (es : List (ℕ × A)) (d : A) → T (unlisted k es) → look k es d ≡ d
look_none k [] d t = refl
look_none k (e ∷ es) d t = none_step (eqb k e.0) e.1 (look k es d) d (unlisted k es) t (look_none k es d)

-- the same where a row's number is not the one looked up for what the table says of any other
pub look_with : {A : Type 0} (Q : ℕ → A → Type 0) (k : ℕ) (es : List (ℕ × A)) (d : A) → All Q es → (T (unlisted k es) → Q k d) → Q k (look k es d)
look_with Q k [] d p q = q tt
look_with {A} Q k (e ∷ es) d p q = go (eqb k e.0) (eqb→eq k e.0) (λ n. look_with Q k es d p.1 (λ u. q (both (not (eqb k e.0)) (unlisted k es) n u)))
  where
    go : (b : Bool) → (T b → k ≡ e.0) → (T (not b) → Q k (look k es d)) → Q k (elim b as (λ x. A) [ true ↦ e.1 | false ↦ look k es d ])
    go true f g = subst (λ (x : ℕ). Q x e.1) (sym (f tt)) p.0
    go false f g = g tt

-- what no row of a table is of, no row is of in a table of some of its numbers
pub fewer : {A B : Type 0} (k : ℕ) (es : List (ℕ × A)) (fs : List (ℕ × B)) → T (all_so (λ n a. not (unlisted n fs)) es) → T (unlisted k fs)
    → T (unlisted k es)
fewer k [] fs t u = tt
fewer k (e ∷ es) fs t u = both (not (eqb k e.0)) (unlisted k es)
    (not_T (eqb k e.0) (λ v. never (unlisted e.0 fs) (subst (λ (x : ℕ). T (unlisted x fs)) (eqb→eq k e.0 v) u)
    (and_left (not (unlisted e.0 fs)) (all_so (λ n a. not (unlisted n fs)) es) t)))
    (fewer k es fs (and_right (not (unlisted e.0 fs)) (all_so (λ n a. not (unlisted n fs)) es) t) u)

-- what holds of a row and of what comes after it holds of what is looked up
pub row : {A : Type 0} (Q : A → Type 0) (b : Bool) (a x : A) → Q a → Q x → Q (elim b as (λ y. A) [ true ↦ a | false ↦ x ])
row Q true a x p q = p
row Q false a x p q = q

pub one_kind : (n m : ℕ) → (n ≡ m) ⊎ T (not (eqb n m))
one_kind n m = test (eqb n m) (λ t. inl (eqb→eq n m t)) inr

-- a kind that binds visits what is below it in file order
abbrev pub Link : Bind → Form → Type 0
Link nothing z = Unit {0}
Link (one o) z = z ≡ Form.plain
Link several z = z ≡ Form.plain

pub linked : (k : ℕ) → Link (look k bindings nothing) (look k forms Form.plain)
linked k = look_all (λ n b. Link b (look n forms Form.plain)) k bindings nothing (refl, (refl, (refl, (refl, tt)))) tt
