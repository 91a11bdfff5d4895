-- What the contract of each call says, as the checker reads it (Post: of the arguments a, the result r and the lent words s
-- afterwards). Assumes nothing.
use mathlib.Core.Path.{◌≡◌}
use Rattle.tree.specs.declared.Mode.TheVariants.{Ordinary, Strict}
use Rattle.lint_c.specs.Face.{library_version, severity_number, Called, called, Named, short_named, SarifCalled, sarif_called}
use Rattle.lint_c.proofs.yudronkha_version.Reads as version
use Rattle.lint_c.proofs.yudronkha_severity.Reads as severity
use Rattle.lint_c.proofs.yudronkha_short_name.Reads as short_name
use Rattle.lint_c.proofs.yudronkha_lint.Reads as ordinary
use Rattle.lint_c.proofs.yudronkha_lint_strict.Reads as strict
use Rattle.lint_c.proofs.yudronkha_sarif.Reads as sarif
use Rattle.lint_c.proofs.yudronkha_sarif_strict.Reads as sarif_strict

pub promised_version : (κs : _) (a : _) (r : _) (s : _) → version.Post κs a r s → r ≡ library_version
promised_version κs a r s p = p

pub promised_severity : (κs : _) (a : _) (r : _) (s : _) → severity.Post κs a r s → r ≡ severity_number a.0
promised_severity κs a r s p = p

pub promised_name : (κs : _) (a : _) (r : _) (s : _) → short_name.Post κs a r s
    → ◌≡◌ {A = Named} (record { number = r; name = s.1.0.now }) (short_named a.0 a.1.0.now)
promised_name κs a r s p = p

pub promised : (κs : _) (a : _) (r : _) (s : _) → ordinary.Post κs a r s
    → ◌≡◌ {A = Called} (record { number = r; work = s.1.0.now; room = s.1.1.0.now; report = s.1.1.1.0.now })
    (called Ordinary a.0.now a.1.0.now a.1.1.0.now a.1.1.1.0.now)
promised κs a r s p = p

pub promised_strict : (κs : _) (a : _) (r : _) (s : _) → strict.Post κs a r s
    → ◌≡◌ {A = Called} (record { number = r; work = s.1.0.now; room = s.1.1.0.now; report = s.1.1.1.0.now })
    (called Strict a.0.now a.1.0.now a.1.1.0.now a.1.1.1.0.now)
promised_strict κs a r s p = p

pub promised_sarif : (κs : _) (a : _) (r : _) (s : _) → sarif.Post κs a r s
    → ◌≡◌ {A = SarifCalled} (record { number = r; work = s.1.0.now; room = s.1.1.0.now; output = s.1.1.1.0.now; report = s.1.1.1.1.0.now })
    (sarif_called Ordinary a.0.now a.1.0.now a.1.1.0.now a.1.1.1.0.now a.1.1.1.1.0.now)
promised_sarif κs a r s p = p

pub promised_sarif_strict : (κs : _) (a : _) (r : _) (s : _) → sarif_strict.Post κs a r s
    → ◌≡◌ {A = SarifCalled} (record { number = r; work = s.1.0.now; room = s.1.1.0.now; output = s.1.1.1.0.now; report = s.1.1.1.1.0.now })
    (sarif_called Strict a.0.now a.1.0.now a.1.1.0.now a.1.1.1.0.now a.1.1.1.1.0.now)
promised_sarif_strict κs a r s p = p
