-- 01, "Record": "eight u32: code, begin, end, value number (65535: none), second span, third span (0 0 where absent)". 02, §4: "Each
-- record gains two numbers after its present eight: the node warned and the node that the second span came from, 65535 where none."
-- Assumes nothing.
use Rattle.std.specs.Prelude.{ℕ, Bool, true, false, List, [], ◌∷◌, ◌++◌}
use Rattle.std.proofs.Math.Option.{Option, none, some}
use Rattle.tree.specs.Forest.{Spot, Head}

pub record Span : Type 0 where
  pub begin : ℕ
  pub end : ℕ

pub record Rec : Type 0 where
  pub code : ℕ
  pub spot : Spot
  pub second : Span
  pub third : Span
  -- "the node warned", "the node that the second span came from"
  pub number : ℕ
  pub number2 : ℕ

-- "0 0 where absent"
abbrev pub no_span : Span
no_span = record { begin = 0; end = 0 }

abbrev pub spot_span : Spot → Span
spot_span s = record { begin = s.begin; end = s.end }

-- "65535: none", "65535 where none"
abbrev pub no_number : ℕ
no_number = 65535

-- the span of a spot, with another value
abbrev pub with_value : Spot → ℕ → Spot
with_value s v = record { begin = s.begin; end = s.end; value = v }

-- "every other record has the very node its rule is about": a record of one span, that of the node h, with the value v
abbrev pub valued_at : ℕ → Head → ℕ → Rec
valued_at c h v =
    record { code = c; spot = with_value h.spot v; second = no_span; third = no_span; number = h.number; number2 = no_number }

-- a record of one span, its value that of the node
abbrev pub named_at : ℕ → Head → Rec
named_at c h = valued_at c h h.spot.value

-- a record of one span and no value
abbrev pub plainly : ℕ → Head → Rec
plainly c h = valued_at c h no_number

-- a record at the node h with the value v; "the node that the second span came from" is g
abbrev pub also_at : ℕ → Head → ℕ → Head → Span → Rec
also_at c h v g third =
    record { code = c; spot = with_value h.spot v; second = spot_span g.spot; third = third; number = h.number; number2 = g.number }

-- "Record, eight u32"; 02, §4: "two numbers after its present eight", "Answer room is counted in ten words"
abbrev pub width : ℕ
width = 10

abbrev pub words : Rec → List ℕ
words r =
    r.code
    ∷ r.spot.begin
    ∷ r.spot.end
    ∷ r.spot.value
    ∷ r.second.begin
    ∷ r.second.end
    ∷ r.third.begin
    ∷ r.third.end
    ∷ r.number
    ∷ r.number2
    ∷ []

-- records one after the other
abbrev pub all_words : List Rec → List ℕ
all_words [] = []
all_words (r ∷ rs) = words r ++ all_words rs

-- a list, if so, before another
abbrev pub listed {ℓ} : {A : Type ℓ} → Bool → List A → List A → List A
listed true a b = a ++ b
listed false a b = b

-- the first of two, if it is there
abbrev pub or_else {ℓ} : {A : Type ℓ} → Option A → Option A → Option A
or_else (some a) b = some a
or_else none b = b

-- a fact of each member of a list
abbrev pub Each : {A : Type 0} → (A → Type 0) → List A → Type 0
Each P [] = Unit {0}
Each P (x ∷ xs) = P x × Each P xs

-- those of a list of which this holds, in their order
abbrev pub keep : {A : Type 0} → (A → Bool) → List A → List A
keep p [] = []
keep p (x ∷ xs) = elim (p x) [ true ↦ x ∷ keep p xs | false ↦ keep p xs ]
