-- 02, §13: what a release of the host that adds globals changes of a list, and of what a call leaves. Assumes nothing.
use Rattle.std.specs.Prelude.{Ok}
use Rattle.std.specs.Prelude.{ℕ, zero, suc, ◌≤◌, ◌≡◌, Bool, not, ◌&&◌, List, eqb, get_or}
use Rattle.tree.specs.Bytes.{global_count}
use Rattle.tree.specs.Table.{is_global}
use Rattle.tree.specs.Releases.{SameScript, Given}
use Rattle.tree.specs.Judge.{facts_of, judged}
use Rattle.tree.specs.declared.Mode.{Mode}
use Rattle.rules.specs.Record.{Rec, keep}
use Rattle.rules.specs.Joined.{lint_list}
use Rattle.rules.specs.Afterwards.{records_in}

-- "the code 5 records whose name the second holds"; u: the second file
abbrev pub held : List ℕ → Rec → Bool
held u r = eqb r.code 5 && is_global u r.spot.value

-- "the second list is the first without" them
abbrev pub QuietedBy : List ℕ → List Rec → List Rec → Type 0
QuietedBy u first second = second ≡ keep (λ r. not (held u r)) first

-- the count of a code in a tally: that of code 1 stands first, and 0 is no code
abbrev pub count_in : ℕ → List ℕ → ℕ
count_in zero tally = 0
count_in (suc i) tally = get_or tally i 0

-- What two calls leave, read back: the first leaves n records in its answer room and a tally, the second m. The second list is the first
-- without the records that are held, so it is no longer, and every code but 5 has the same count.
pub record QuietedCall (u : List ℕ) (n m : ℕ) (room room₂ tally tally₂ : List ℕ) : Type 0 where
  pub no_more : m ≤ n
  pub records : QuietedBy u (records_in n room) (records_in m room₂)
  pub counts : (c : ℕ) → (c ≡ 5 → ⊥) → count_in c tally₂ ≡ count_in c tally

-- where the first file gives no globals: its list is the second without all records of code 5
abbrev pub Without5 : List Rec → List Rec → Type 0
Without5 first second = first ≡ keep (λ r. not (eqb r.code 5)) second

-- "The case without globals given stands outside": two valid files of one script, the first without, of which it is not so
pub record Outside (t u : List ℕ) : Type 0 where
  pub script : SameScript t u
  pub valid : (judged t ≡ Ok (facts_of t)) × (judged u ≡ Ok (facts_of u))
  pub not_given : global_count t ≡ 65535
  pub second_given : Given u
  pub unquieted : (mode : Mode) → QuietedBy u (lint_list mode t) (lint_list mode u) → ⊥
