-- 02, §1: "Reading the log back by a small reader of this profile gives the same codes and first spans in order." A result of the
-- profile begins a line. Assumes nothing.
use Rattle.std.specs.Prelude.{ℕ, ◌+◌, ◌*◌, ◌-◌, Bool, true, false, List, [], ◌∷◌, eqb}
use Rattle.std.proofs.Math.Option.{Option, none, some}
use Rattle.rules.specs.Record.{Rec, Span, spot_span}
use Rattle.base.specs.Ascii.{ascii}
use Rattle.json_text.specs.Grammar.{digit}

pub record Found : Type 0 where
  pub code : ℕ
  pub span : Span

abbrev pub and_then : {A B : Type 0} → Option A → (A → Option B) → Option B
and_then none f = none
and_then (some a) f = f a

abbrev pub if_so : {A : Type 0} → Bool → Option A → Option A
if_so true o = o
if_so false o = none

-- what follows these bytes, with which the text must begin
unfoldable pub expect : List ℕ → List ℕ → Option (List ℕ)
expect [] s = some s
expect (a ∷ more) [] = none
expect (a ∷ more) (b ∷ s) = if_so (eqb a b) (expect more s)

-- the number that a text begins with, after the digits of a, and what follows it
pub record Read : Type 0 where
  pub value : ℕ
  pub rest : List ℕ

unfoldable pub digits : ℕ → List ℕ → Read
digits a [] = record { value = a; rest = [] }
digits a (b ∷ s) =
    elim (digit b) [
      | true ↦ digits (10 * a + (b - 48)) s
      | false ↦ record { value = a; rest = b ∷ s }
    ]

abbrev pub number : List ℕ → Read
number s = digits 0 s

-- a result, where the text begins with one
unfoldable pub result_at : List ℕ → Option Found
result_at s =
    and_then (expect (ascii "{\"ruleId\":\"") s)
    (λ a. let code = number a in
    and_then (expect (ascii "\",\"ruleIndex\":") code.rest)
    (λ b. let index = number b in
    and_then
    (expect (ascii ",\"locations\":[{\"physicalLocation\":{\"artifactLocation\":{\"uri\":\"script.star\",\"index\":0},\"region\":{\"byteOffset\":") index.rest)
    (λ c. let begin = number c in
    and_then (expect (ascii ",\"byteLength\":") begin.rest)
    (λ d. let long = number d in
    some (record { code = code.value; span = record { begin = begin.value; end = begin.value + long.value } })))))

abbrev pub found_before : Option Found → List Found → List Found
found_before none fs = fs
found_before (some f) fs = f ∷ fs

-- each line that begins with a result
unfoldable pub read : List ℕ → List Found
read [] = []
read (b ∷ s) = found_before (if_so (eqb b 0x0A) (result_at s)) (read s)

-- "the same codes and first spans"
abbrev pub found : Rec → Found
found r = record { code = r.code; span = spot_span r.spot }
