-- 02, §13, of the joined list and of what two joined calls answer and leave: a release of the host that adds globals can only quiet a
-- script, and only under code 5. Assumes nothing.
use Rattle.std.specs.Prelude.{Ok}
use Prim.Native.Nat.{ℕ, ◌*◌, ◌≤◌}
use native.Mathlib.Omega.{arith}
use mathlib.Core.Path.{◌≡◌, ap₂}
use mathlib.Core.Bool.{false}
use mathlib.Core.List.{List, ◌++◌}
use lib.Dec.{eqb}
use lib.ListN.{length}
use borrow.Author.Tests.{ne_eqb}
use Rattle.tree.specs.Bytes.{global_count}
use Rattle.tree.specs.Judge.{judged}
use Rattle.tree.specs.Releases.{SameScript, MoreKnown}
use Rattle.tree.specs.declared.Facts.{Facts}
use Rattle.tree.specs.declared.Mode.{Mode}
use Rattle.rules.specs.Record.{Rec, width, Each}
use Rattle.rules.specs.Joined.{lint_list, no_tally}
use Rattle.rules.specs.Outcome.{work_words}
use Rattle.rules.specs.Calls.{lint_call}
use Rattle.rules.specs.Afterwards.{Gives}
use Rattle.rules.specs.Releases.{QuietedBy, Without5, QuietedCall}
use Rattle.rules.specs.declared.Answer.{Answer}
use Rattle.rules.proofs.Each.{each_more}
use Rattle.rules.proofs.Called.{valid_where_listed}
use Rattle.rules.proofs.Releases.{same_flow, same_incompatible, same_dubious, quieted_with, ungiven_with}
use Rattle.rules.proofs.ReleasesCalled.{quieted_fewer, quieted_call, no_more_room}
use Rattle.spans.proofs.Whole.{file_late}
use Rattle.lint.specs.Links.{after_names}

-- what comes after names has no code 5
no_5 : (t : List ℕ) (f : Facts) → judged t ≡ Ok f → (mode : Mode) → Each (λ r. eqb r.code 5 ≡ false) (after_names mode t)
no_5 t f v mode = each_more _ _ (λ r h. ne_eqb r.code 5 (λ e. omega (arith, h, e))) (after_names mode t) (file_late t f v mode)

module _ (t u : List ℕ) (s : SameScript t u) (f : Facts) (v : judged t ≡ Ok f) (mode : Mode) where
  -- .. and is the same
  same_rest : after_names mode u ≡ after_names mode t
  same_rest =
      ap₂ (λ (a b : List Rec). a ++ b) (same_flow t u s f v)
      (ap₂ (λ (a b : List Rec). a ++ b) (same_incompatible t u s f v) (same_dubious t u s f v mode))

  -- The case without globals given: but for code 5 the joined lists are the same.
  pub ungiven_list : global_count t ≡ 65535 → Without5 (lint_list mode t) (lint_list mode u)
  unfolding lint_list
  ungiven_list e = ungiven_with t u s f v e (after_names mode t) (after_names mode u) same_rest (no_5 t f v mode)

module _ (t u : List ℕ) (k : MoreKnown t u) (mode : Mode) where
  -- THE JOINED LIST
  pub quieted_list : (f : Facts) → judged t ≡ Ok f → QuietedBy u (lint_list mode t) (lint_list mode u)
  unfolding lint_list
  quieted_list f v = quieted_with t u k f v (after_names mode t) (after_names mode u) (same_rest t u k.script f v mode) (no_5 t f v mode)

  -- "records needed": the place of refusal 11
  pub no_more_records : (f : Facts) → judged t ≡ Ok f → length (lint_list mode u) ≤ length (lint_list mode t)
  no_more_records f v = quieted_fewer u (lint_list mode t) (lint_list mode u) (quieted_list f v)

  module _ (work room : List ℕ) (a : Answer) (room' work' : List ℕ) (gives : Gives (lint_call mode t work room) a room' work')
      (work₂ room₂ : List ℕ) (b : Answer) (room₂' work₂' : List ℕ) (gives₂ : Gives (lint_call mode u work₂ room₂) b room₂' work₂')
      (n : ℕ) (i : a.outcome ≡ Ok n) where
    quiet : QuietedBy u (lint_list mode t) (lint_list mode u)
    quiet = let v = valid_where_listed (lint_list mode t) t work room no_tally a room' work' gives n i in quieted_list v.0 v.1

    -- THE JOINED CALLS: where both have their lists
    pub lint_quieted : (m : ℕ) → b.outcome ≡ Ok m → QuietedCall u n m room' room₂' a.tally b.tally
    lint_quieted m j =
        quieted_call u (lint_list mode t) (lint_list mode u) quiet t work room no_tally a room' work' gives work₂ room₂ b room₂' work₂' gives₂ n m i j

    -- THE ROOM: what is enough for the first is enough for the second, of a valid file
    pub lint_room : (f : Facts) → judged u ≡ Ok f → work_words ≤ length work₂ → width * n ≤ length room₂
        → b.outcome ≡ Ok (length (lint_list mode u))
    lint_room f v w o =
        no_more_room u (lint_list mode t) (lint_list mode u) quiet t work room no_tally a room' work' gives work₂ room₂ b room₂' work₂' gives₂ f v w n i o
