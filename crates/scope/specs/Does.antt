-- What a method or a part of the walk does to the house that a state stands for. Assumes nothing.
use Rattle.std.specs.Prelude.{ℕ, ◌≤◌, ◌≡◌, List, length}
use Rattle.rules.specs.code.Marks.{House, total, settings_in, cant_in, unbound_in}
use Rattle.scope.specs.State.{Fits, Inside, Kept, house_of}
use Rattle.scope.specs.declared.Scope.{Scope}

-- what the words have room for
abbrev pub RoomFor : House → Type 0
RoomFor m = (total settings_in m ≤ 1024) × (total cant_in m ≤ 1024) × (total unbound_in m ≤ 7168) × (length m.out ≤ 1024)

-- From s and the words w to r and the words v: the house is f of what it was, wherever P holds of it.
pub record Does (t : List ℕ) (P : House → Type 0) (f : House → House) (w : List ℕ) (s : Scope) (v : List ℕ) (r : Scope) : Type 0 where
  pub fits : Fits v r
  pub kept : Kept w s v r
  pub house : (outer : List Scope) → Inside w s outer → P (house_of t w s outer) → house_of t v r outer ≡ f (house_of t w s outer)
