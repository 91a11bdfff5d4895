-- 02, §1: "a rule for each code present". Which rules a log lists, and where. Assumes nothing.
use Rattle.std.specs.Prelude.{ℕ, zero, suc, ◌<◌, List, [], ◌∷◌, ltb}
use Rattle.std.proofs.Math.Option.{Option, none, some}
use Rattle.rules.specs.Record.{Rec, listed, Each}
use Rattle.rules.specs.Joined.{tally_of}
use Rattle.json_text.specs.Text.{Json, Items, nil, item}
use Rattle.sarif_log.specs.Log.{rule}

-- the item at a place, where there is one: the first stands at 0
abbrev pub nth : Items → ℕ → Option Json
nth nil i = none
nth (item x xs) zero = some x
nth (item x xs) (suc i) = nth xs i

-- the codes with a count, of the counts of code c and of those after it
abbrev pub counted : ℕ → List ℕ → List ℕ
counted c [] = []
counted c (n ∷ ns) = listed (ltb 0 n) (c ∷ []) (counted (suc c) ns)

abbrev pub present : List Rec → List ℕ
present rs = counted 1 (tally_of rs)

-- the rules of these codes
abbrev pub each_rule : List ℕ → Items
each_rule [] = nil
each_rule (c ∷ cs) = item (rule c) (each_rule cs)

-- each is less than all that follow it
abbrev pub Ascending : List ℕ → Type 0
Ascending [] = Unit {0}
Ascending (c ∷ cs) = Each (λ d. c < d) cs × Ascending cs
