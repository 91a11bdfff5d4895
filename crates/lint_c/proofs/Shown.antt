-- Codes as a caller sees them, computed. Assumes nothing.
use mathlib.Core.Path.{◌≡◌, refl}
use mathlib.Core.List.{[], ◌∷◌}
use Rattle.base.specs.Ascii.{ascii}
use Rattle.rules.specs.Codes.{short_name}
use Rattle.lint_c.specs.Face.{severity_number, over, laid, short_named}

-- 8 warns, 11 is disabled, 18 is no code
pub severities : (severity_number 8 ≡ 1) × (severity_number 11 ≡ 0) × (severity_number 18 ≡ 1)
severities = (refl, refl, refl)

-- a room that is short, one that is long; what is no code leaves the room as it was
pub names : (short_named 8 (1 ∷ 2 ∷ []) ≡ record { number = 14; name = ascii "mi" })
    × (short_named 12 (ascii "................") ≡ record { number = 14; name = ascii "misplaced-load.." })
    × (short_named 18 (ascii "..") ≡ record { number = 0; name = ascii ".." })
unfolding short_name over laid
names = (refl, refl, refl)
