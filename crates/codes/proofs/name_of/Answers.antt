-- A name, by its code. Assumes nothing.
use Rattle.rules.specs.Codes.{short_name}
use Rattle.codes.proofs.name_of.Goals as goal

pub returns-in-UnusedLoad : goal.returns-in-UnusedLoad
unfolding short_name
returns-in-UnusedLoad c = rw c.in-UnusedLoad.is

pub returns-in-UnusedAssign : goal.returns-in-UnusedAssign
unfolding short_name
returns-in-UnusedAssign c = rw c.in-UnusedAssign.is

pub returns-in-UnusedArgument : goal.returns-in-UnusedArgument
unfolding short_name
returns-in-UnusedArgument c = rw c.in-UnusedArgument.is

pub returns-in-UsingUnassigned : goal.returns-in-UsingUnassigned
unfolding short_name
returns-in-UsingUnassigned c = rw c.in-UsingUnassigned.is

pub returns-in-UsingUndefined : goal.returns-in-UsingUndefined
unfolding short_name
returns-in-UsingUndefined c = rw c.in-UsingUndefined.is

pub returns-in-UsingMaybeUndefined : goal.returns-in-UsingMaybeUndefined
unfolding short_name
returns-in-UsingMaybeUndefined c = rw c.in-UsingMaybeUndefined.is

pub returns-in-MissingReturnExpression : goal.returns-in-MissingReturnExpression
unfolding short_name
returns-in-MissingReturnExpression c = rw c.in-MissingReturnExpression.is

pub returns-in-MissingReturn : goal.returns-in-MissingReturn
unfolding short_name
returns-in-MissingReturn c = rw c.in-MissingReturn.is

pub returns-in-Unreachable : goal.returns-in-Unreachable
unfolding short_name
returns-in-Unreachable c = rw c.in-Unreachable.is

pub returns-in-RedundantReturn : goal.returns-in-RedundantReturn
unfolding short_name
returns-in-RedundantReturn c = rw c.in-RedundantReturn.is

pub returns-in-RedundantContinue : goal.returns-in-RedundantContinue
unfolding short_name
returns-in-RedundantContinue c = rw c.in-RedundantContinue.is

pub returns-in-MisplacedLoad : goal.returns-in-MisplacedLoad
unfolding short_name
returns-in-MisplacedLoad c = rw c.in-MisplacedLoad.is

pub returns-in-NoEffect : goal.returns-in-NoEffect
unfolding short_name
returns-in-NoEffect c = rw c.in-NoEffect.is

pub returns-in-IncompatibleTypeCheck : goal.returns-in-IncompatibleTypeCheck
unfolding short_name
returns-in-IncompatibleTypeCheck c = rw c.in-IncompatibleTypeCheck.is

pub returns-in-DuplicateTopLevelAssign : goal.returns-in-DuplicateTopLevelAssign
unfolding short_name
returns-in-DuplicateTopLevelAssign c = rw c.in-DuplicateTopLevelAssign.is

pub returns-in-DuplicateKey : goal.returns-in-DuplicateKey
unfolding short_name
returns-in-DuplicateKey c = rw c.in-DuplicateKey.is

pub returns-in-IdentAsStatement : goal.returns-in-IdentAsStatement
unfolding short_name
returns-in-IdentAsStatement c = rw c.in-IdentAsStatement.is
