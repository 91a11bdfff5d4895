-- The enum of the codes, by its numbers. Assumes nothing.
use Rattle.std.specs.Prelude.{◌≡◌, ℕ, ◌<◌, ◌⊎◌, Result, MatchResult}
use Rattle.rules.specs.Joined.{codes}
use Rattle.rules.specs.declared.Code.{Code}
use Rattle.rules.specs.declared.Code.TheVariants.{UnusedLoad, UnusedAssign, UnusedArgument, UsingUnassigned, UsingUndefined, UsingMaybeUndefined, MissingReturnExpression, MissingReturn, Unreachable, RedundantReturn, RedundantContinue, MisplacedLoad, NoEffect, IncompatibleTypeCheck, DuplicateTopLevelAssign, DuplicateKey, IdentAsStatement}
use Rattle.rules.specs.declared.UnknownCode.{UnknownCode}

abbrev pub code_number : Code → ℕ
code_number UnusedLoad = 1
code_number UnusedAssign = 2
code_number UnusedArgument = 3
code_number UsingUnassigned = 4
code_number UsingUndefined = 5
code_number UsingMaybeUndefined = 6
code_number MissingReturnExpression = 7
code_number MissingReturn = 8
code_number Unreachable = 9
code_number RedundantReturn = 10
code_number RedundantContinue = 11
code_number MisplacedLoad = 12
code_number NoEffect = 13
code_number IncompatibleTypeCheck = 14
code_number DuplicateTopLevelAssign = 15
code_number DuplicateKey = 16
code_number IdentAsStatement = 17

-- the code with this number, or that none has it
abbrev pub Decodes : ℕ → Result Code UnknownCode → Type 0
Decodes n r = MatchResult r (λ code. code_number code ≡ n) (λ e. (e.0 ≡ n) × ((n ≡ 0) ⊎ (codes < n)))
