-- docs/DESK.md: what the choices of a request ask for, a bit each, by its weight. Assumes nothing.
use Rattle.std.specs.Prelude.{ℕ, ◌/◌, ◌%◌, Bool, true, false, ◌&&◌, ◌||◌, not, eqb, ltb}
use Rattle.tree.specs.declared.Mode.{Mode}
use Rattle.tree.specs.declared.Mode.TheVariants.{Ordinary, Strict}

abbrev pub asks : ℕ → ℕ → Bool
asks choices bit = eqb (choices / bit % 2) 1

-- bit 0
abbrev pub strict_if : Bool → Mode
strict_if true = Strict
strict_if false = Ordinary

abbrev pub mode_of : ℕ → Mode
mode_of choices = strict_if (asks choices 1)

-- bits 1, 14 and 15
abbrev pub log_asked : ℕ → Bool
log_asked choices = asks choices 2

abbrev pub tally_asked : ℕ → Bool
tally_asked choices = asks choices 16384

abbrev pub rooms_follow : ℕ → Bool
rooms_follow choices = asks choices 32768

-- bits 3 and 5
abbrev pub second_follows : ℕ → Bool
second_follows choices = asks choices 8 || asks choices 32

-- these four and no other, and a log has no line of counts
abbrev pub known : ℕ → Bool
known choices = ltb (choices % 16384) 4 && (ltb (choices / 16384) 4 && not (log_asked choices && tally_asked choices))
