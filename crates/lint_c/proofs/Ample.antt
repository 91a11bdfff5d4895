-- What the header says is enough: room for 10,240 records, and YUDRONKHA_LOG_BYTES of output for a log of so many. Assumes nothing.
use Rattle.std.specs.Prelude.{Ok}
use Prim.Native.Nat.{ℕ, ◌+◌, ◌*◌, ◌≤◌, ◌<◌}
use native.Mathlib.Omega.{arith}
use mathlib.Core.Path.{◌≡◌, ap, ◌∙◌}
use mathlib.Core.List.{List}
use mathlib.Core.Option.{Option, none}
use lib.ListN.{length}
use Rattle.tree.specs.Judge.{judged}
use Rattle.tree.specs.declared.Mode.{Mode}
use Rattle.tree.specs.declared.Facts.{Facts}
use Rattle.rules.specs.Record.{width, all_words, Each}
use Rattle.rules.specs.Joined.{lint_list, no_tally}
use Rattle.rules.specs.Outcome.{work_words, refusal}
use Rattle.rules.specs.Calls.{DoneWithWork}
use Rattle.rules.specs.declared.Refusal.{Refusal}
use Rattle.rules.proofs.Answered.{fit, work_enough, room_enough, other_enough, all_passed, work_listed}
use Rattle.rules.proofs.Whole.{file_lint_few}
use Rattle.sarif_log.specs.Log.{log}
use Rattle.sarif_log.proofs.Size.{file_log_size}
use Rattle.sarif.specs.Calls.{checks, answer_by, sarif_of}
use Rattle.lint_c.specs.Face.{number_of, called, as_listed, sarif_called}

-- YUDRONKHA_LOG_BYTES
abbrev pub log_bytes : ℕ → ℕ
log_bytes k = 1617 + 2222 * k

module _ (mode : Mode) (t work room report : List ℕ) (f : Facts) (v : judged t ≡ Ok f) (w : work_words ≤ length work) where
  pub ample : width * 10240 ≤ length room → (called mode t work room report).number ≡ 0
  ample r =
      let few = file_lint_few t f v mode in
      ap (λ (d : DoneWithWork). number_of d.answer.outcome) (work_listed (lint_list mode t) t work room no_tally v w (omega arith))

  -- a list of at most k records whose words are below 2^32, as every u32 is
  pub ample_log : (k : ℕ) (output : List ℕ) → length (lint_list mode t) ≤ k → Each (λ x. x < 4294967296) (all_words (lint_list mode t))
      → width * k ≤ length room → log_bytes k ≤ length output → (sarif_called mode t work room output report).number ≡ 0
  unfolding sarif_of answer_by
  ample_log k output few u r o =
      let rs = lint_list mode t in
      let s = file_log_size t f v mode u in
      let z : refusal (checks rs t work room output) ≡ none
      = fit _ v ∙ (work_enough _ (length work) w ∙ (room_enough _ (length rs) (length room) (omega arith)
      ∙ (other_enough _ (length (log t rs)) (length output) (omega arith) ∙ all_passed))) in
      ap (λ (why : Option Refusal). number_of (as_listed (answer_by why rs (length (log t rs))).outcome)) z
