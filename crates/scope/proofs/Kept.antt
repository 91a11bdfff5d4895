-- A state that goes on in the same scope stands inside the same scopes. Assumes nothing.
use Prim.Native.Nat.{ℕ, ◌≤◌, ◌<◌}
use native.Mathlib.Omega.{arith}
use mathlib.Core.Path.{◌≡◌, refl, ◌∙◌}
use mathlib.Core.List.{List, [], ◌∷◌}
use lib.ListN.{length}
use Rattle.scope.specs.State.{base_in, Fits, Inside, Kept}
use Rattle.scope.specs.declared.Scope.{Scope}
use Rattle.rules.specs.Outcome.{work_words}

pub kept_same : (w : List ℕ) (s : Scope) → Kept w s w s
kept_same w s =
    record {
      first = refl;
      cant = refl;
      loose = refl;
      settings = omega arith;
      cants = omega arith;
      looses = omega arith;
      entries = λ k h. refl;
      bases = λ k h. refl;
    }

pub kept_on : {w v x : List ℕ} {s q r : Scope} → Kept w s v q → Kept v q x r → Kept w s x r
kept_on {w} {v} {x} {s} {q} {r} a b =
    record {
      first = b.first ∙ a.first;
      cant = b.cant ∙ a.cant;
      loose = b.loose ∙ a.loose;
      settings = omega arith;
      cants = omega arith;
      looses = omega arith;
      entries = λ k h. b.entries k (rw a.first h) ∙ a.entries k h;
      bases = λ k h. b.bases k (rw a.first h) ∙ a.bases k h;
    }

-- a state of a scope outside, once the words have changed
pub fits_over : {w v : List ℕ} {o : Scope} → work_words ≤ length v → ((k : ℕ) → k < o.settings → base_in v k ≡ base_in w k) → Fits w o → Fits v o
fits_over l same f =
    record {
      words = l;
      wide = f.wide;
      first = f.first;
      settings = f.settings;
      cant_from = f.cant_from;
      cant = f.cant;
      cants = f.cants;
      loose_from = f.loose_from;
      loose = f.loose;
      looses = f.looses;
      warnings = f.warnings;
      clean = f.clean;
      own = λ k a b. same k b ∙ f.own k a b;
    }

pub inside_over : (outer : List Scope) (w v : List ℕ) (o : Scope) → work_words ≤ length v → ((k : ℕ) → k < o.first → base_in v k ≡ base_in w k)
    → Inside w o outer → Inside v o outer
unfolding Inside
inside_over [] w v o l same i = i
inside_over (p ∷ outer) w v o l same i = (
  i.0,
  i.1,
  i.2,
  i.3,
  fits_over l (λ k h. same k (rw i.0 h)) i.4,
  inside_over outer w v p l (λ k h. same k (omega (arith, i.0, i.4.first))) i.5,
)

pub inside_kept : (outer : List Scope) {w v : List ℕ} {s r : Scope} → work_words ≤ length v → Kept w s v r → Inside w s outer → Inside v r outer
unfolding Inside
inside_kept [] l k i = (k.first ∙ i.0, k.cant ∙ i.1, k.loose ∙ i.2)
inside_kept (p ∷ outer) {w} {v} l k i = (
  k.first ∙ i.0,
  k.cant ∙ i.1,
  k.loose ∙ i.2,
  λ j h. k.entries j (rw i.0 h) ∙ i.3 j h,
  fits_over l (λ j h. k.bases j (rw i.0 h)) i.4,
  inside_over outer w v p l (λ j h. k.bases j (omega (arith, i.0, i.4.first))) i.5,
)
