-- What the code's asks stand for: of siblings, and as the numbers of rows. Assumes nothing.
use Rattle.std.specs.Prelude.{ℕ, ◌+◌}
use Rattle.tree.specs.declared.kinds.Role.{Role}
use Rattle.tree.specs.declared.kinds.Role.TheVariants.{Item, First, Second, «Type», Expression, Target, Name, Function, Key}
use Rattle.rules.specs.Order.{of_role, every, first_over, first_bound, clauses}
use Rattle.meeting.specs.Asked.{Ask, visits, names, no_ask}
use Rattle.meeting.specs.declared.walk.Ask.{Ask as Asking}
use Rattle.meeting.specs.declared.walk.Ask.TheVariants.{Of, Every, FirstOver, FirstTarget, Clauses, Names, Nothing, Itself}

abbrev pub role_number : Role → ℕ
role_number Item = 0
role_number First = 1
role_number Second = 2
role_number «Type» = 3
role_number Expression = 4
role_number Target = 5
role_number Name = 6
role_number Function = 7
role_number Key = 8

-- as a row has it
abbrev pub number : Asking → ℕ
number (Of r) = role_number r
number Every = 9
number FirstOver = 10
number FirstTarget = 11
number Clauses = 12
number Nothing = 13
number Itself = 14
number (Names r) = 16 + role_number r

-- of siblings: of them the node above them is none
abbrev pub meant : Asking → Ask
meant (Of r) = visits (of_role (role_number r))
meant Every = visits every
meant FirstOver = visits first_over
meant FirstTarget = visits first_bound
meant Clauses = visits clauses
meant (Names r) = names (role_number r)
meant Nothing = no_ask
meant Itself = no_ask
