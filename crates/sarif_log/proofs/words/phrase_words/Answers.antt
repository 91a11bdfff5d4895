use Rattle.sarif_log.proofs.words.phrase_words.Goals as goal

pub returns-in-UnusedLoad : goal.returns-in-UnusedLoad
returns-in-UnusedLoad c = rw c.in-UnusedLoad.is

pub returns-in-UnusedAssign : goal.returns-in-UnusedAssign
returns-in-UnusedAssign c = rw c.in-UnusedAssign.is

pub returns-in-UnusedArgument : goal.returns-in-UnusedArgument
returns-in-UnusedArgument c = rw c.in-UnusedArgument.is

pub returns-in-UsingUnassigned : goal.returns-in-UsingUnassigned
returns-in-UsingUnassigned c = rw c.in-UsingUnassigned.is

pub returns-in-UsingUndefined : goal.returns-in-UsingUndefined
returns-in-UsingUndefined c = rw c.in-UsingUndefined.is

pub returns-in-UsingMaybeUndefined : goal.returns-in-UsingMaybeUndefined
returns-in-UsingMaybeUndefined c = rw c.in-UsingMaybeUndefined.is

pub returns-in-MissingReturnExpression : goal.returns-in-MissingReturnExpression
returns-in-MissingReturnExpression c = rw c.in-MissingReturnExpression.is

pub returns-in-MissingReturn : goal.returns-in-MissingReturn
returns-in-MissingReturn c = rw c.in-MissingReturn.is

pub returns-in-Unreachable : goal.returns-in-Unreachable
returns-in-Unreachable c = rw c.in-Unreachable.is

pub returns-in-RedundantReturn : goal.returns-in-RedundantReturn
returns-in-RedundantReturn c = rw c.in-RedundantReturn.is

pub returns-in-RedundantContinue : goal.returns-in-RedundantContinue
returns-in-RedundantContinue c = rw c.in-RedundantContinue.is

pub returns-in-MisplacedLoad : goal.returns-in-MisplacedLoad
returns-in-MisplacedLoad c = rw c.in-MisplacedLoad.is

pub returns-in-NoEffect : goal.returns-in-NoEffect
returns-in-NoEffect c = rw c.in-NoEffect.is

pub returns-in-IncompatibleTypeCheck : goal.returns-in-IncompatibleTypeCheck
returns-in-IncompatibleTypeCheck c = rw c.in-IncompatibleTypeCheck.is

pub returns-in-DuplicateTopLevelAssign : goal.returns-in-DuplicateTopLevelAssign
returns-in-DuplicateTopLevelAssign c = rw c.in-DuplicateTopLevelAssign.is

pub returns-in-DuplicateKey : goal.returns-in-DuplicateKey
returns-in-DuplicateKey c = rw c.in-DuplicateKey.is

pub returns-in-IdentAsStatement : goal.returns-in-IdentAsStatement
returns-in-IdentAsStatement c = rw c.in-IdentAsStatement.is
