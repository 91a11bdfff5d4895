-- For the code: the pieces that its functions write. Assumes nothing.
use Rattle.std.specs.Prelude.{ℕ, Bool, cond, List, [], ◌∷◌, ◌++◌}
use Rattle.base.specs.Ascii.{ascii}
use Rattle.page.specs.Digits.{decimal}
use Rattle.text.specs.Text.{line}

-- what stands after a number, by whether it is the last of its line
abbrev pub end_of : Bool → ℕ
end_of last = cond last 0x0A 0x20

-- a number, and what stands after it
abbrev pub ended : ℕ → Bool → List ℕ
ended n last = decimal n ++ (end_of last ∷ [])

-- the line of these counts, where it is asked for
abbrev pub tally_line : Bool → List ℕ → List ℕ
tally_line asked ns = cond asked (ascii "tally " ++ line ns) []
