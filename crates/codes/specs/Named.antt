-- The answers of module codes, as values of its types. Assumes nothing.
use Rattle.std.specs.Prelude.{Bool, true, false}
use Rattle.codes.specs.declared.EvalSeverity.{EvalSeverity}
use Rattle.codes.specs.declared.EvalSeverity.TheVariants.{Disabled, Warning}

abbrev pub severity_of : Bool → EvalSeverity
severity_of true = Disabled
severity_of false = Warning
