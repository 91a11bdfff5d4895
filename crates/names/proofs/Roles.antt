-- A role's number is what `as` makes of it. Assumes nothing.
use mathlib.Core.Path.{◌≡◌, refl}
use denote.Enum.Declared.{tag_of}
use Rattle.tree.specs.contracts.kinds.Role.{the_type}
use Rattle.tree.specs.declared.kinds.Role.{Role}
use Rattle.tree.specs.declared.kinds.Role.TheVariants as role
use Rattle.names.specs.Walk.{number}

pub cast : (r : Role) → tag_of the_type r ≡ number r
cast role.Item = refl
cast role.First = refl
cast role.Second = refl
cast role.Type = refl
cast role.Expression = refl
cast role.Target = refl
cast role.Name = refl
cast role.Function = refl
cast role.Key = refl
