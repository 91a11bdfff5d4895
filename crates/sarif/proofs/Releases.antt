-- 02, §13, of what two calls leave beside their logs: list and counts. Assumes nothing.
use Rattle.std.specs.Prelude.{Ok, Err}
use Prim.Native.Nat.{ℕ}
use native.Mathlib.Omega.{arith}
use mathlib.Core.Path.{◌≡◌, sym, ap, ◌∙◌}
use mathlib.Core.List.{List}
use lib.ListN.{length}
use Rattle.tree.specs.Releases.{MoreKnown}
use Rattle.tree.specs.declared.Mode.{Mode}
use Rattle.rules.specs.Joined.{lint_list, no_tally}
use Rattle.rules.specs.Releases.{QuietedCall}
use Rattle.rules.proofs.Whole.{file_tally}
use Rattle.rules.proofs.ReleasesCalled.{quieted_left}
use Rattle.lint.proofs.Releases.{quieted_list}
use Rattle.sarif.specs.Calls.{sarif_call}
use Rattle.sarif.specs.Afterwards.{Gives, LoggedOrRefused, logged, refused}
use Rattle.sarif.specs.declared.Sizes.{Sizes}
use Rattle.sarif.specs.Calls.{Outcome}
use Rattle.sarif.specs.declared.Answer.{Answer}
use Rattle.sarif.proofs.Afterwards.{logs_or_refuses, valid_where_logged}

-- how many records an outcome says that there are
abbrev records_of : Outcome → ℕ
records_of (Ok n) = n.records
records_of (Err why) = 0

module _ (t u : List ℕ) (k : MoreKnown t u) (mode : Mode)
    (work room output : List ℕ) (a : Answer) (work' room' output' : List ℕ) (gives : Gives (sarif_call mode t work room output) a work' room' output')
    (work₂ room₂ output₂ : List ℕ) (b : Answer) (work₂' room₂' output₂' : List ℕ) (gives₂ : Gives (sarif_call mode u work₂ room₂ output₂) b work₂' room₂' output₂') where
  -- where both have their logs
  pub sarif_quieted : (n m : Sizes) → a.outcome ≡ Ok n → b.outcome ≡ Ok m
      → QuietedCall u n.records m.records room' room₂' a.tally b.tally
  sarif_quieted n m i j =
      go (logs_or_refuses (lint_list mode t) t work room output a work' room' output' gives)
      (logs_or_refuses (lint_list mode u) u work₂ room₂ output₂ b work₂' room₂' output₂' gives₂)
    where
      go : LoggedOrRefused (lint_list mode t) t work room output a work' room' output'
          → LoggedOrRefused (lint_list mode u) u work₂ room₂ output₂ b work₂' room₂' output₂'
          → QuietedCall u n.records m.records room' room₂' a.tally b.tally
      go (refused why l) r = let z : ◌≡◌ {A = ℕ} 0 1 = cc (l.outcome, i) in absurd (omega arith)
      go (logged l) (refused why r) = let z : ◌≡◌ {A = ℕ} 0 1 = cc (r.outcome, j) in absurd (omega arith)
      go (logged l) (logged r) =
          let v = valid_where_logged (lint_list mode t) t work room output a work' room' output' gives n i in
          let w = valid_where_logged (lint_list mode u) u work₂ room₂ output₂ b work₂' room₂' output₂' gives₂ m j in
          let x : n.records ≡ length (lint_list mode t) = ap records_of (sym i ∙ l.outcome) in
          let y : m.records ≡ length (lint_list mode u) = ap records_of (sym j ∙ r.outcome) in
          rw (x, y, l.counts ∙ sym (file_tally t v.0 v.1 mode), r.counts ∙ sym (file_tally u w.0 w.1 mode))
          (quieted_left u (lint_list mode t) (lint_list mode u) (quieted_list t u k mode v.0 v.1) room' room₂' no_tally l.records r.records)
