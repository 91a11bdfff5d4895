-- What the promises of text, log and lint give: the bytes that are handed to a write call. Assumes nothing.
use Rattle.std.specs.Prelude.{Ok}
use Prim.Native.Nat.{ℕ, ◌+◌, ◌*◌, ◌≤◌, min}
use native.Mathlib.Omega.{arith}
use native.Mathlib.Nat.{min-le_right}
use mathlib.Core.Path.{◌≡◌, sym, ap, ap₂, ◌∙◌}
use mathlib.Core.Bool.{Bool}
use mathlib.Core.List.{List, ◌++◌, append_assoc}
use lib.ListN.{length, take}
use Rattle.tree.specs.declared.Mode.{Mode}
use Rattle.rules.specs.Record.{Rec, width}
use Rattle.rules.specs.Joined.{lint_list, no_tally, tally_of}
use Rattle.rules.specs.Calls.{lint_call}
use Rattle.rules.specs.Afterwards.{Gives, records_in}
use Rattle.rules.specs.declared.Refusal.{Refusal}
use Rattle.rules.specs.declared.Answer.{Answer}
use Rattle.rules.proofs.Called.{room_where_listed}
use Rattle.lint.proofs.Demands.{lint_records, lint_counts}
use Rattle.page.specs.Page.{Wrote}
use Rattle.page.proofs.Pages.{then, retold, stands}
use Rattle.text.specs.Text.{refused, text_of, text_call}
use Rattle.text.proofs.Promised.{text_ended}
use Rattle.sarif_log.specs.Pieces.{piece_most, piece_of}
use Rattle.sarif_log.proofs.Listed.{listed_small}
use Rattle.desk.specs.Choices.{mode_of, tally_asked}
use Rattle.desk.specs.Handed.{last_line, list_answer, refusal_answer, log_piece, Lists, Holds}

-- a page for every text of a call with room for 10,240 records, and for every piece of a log
pub page_enough : (answer page : List ℕ) → length answer ≡ width * 10240 → length page ≡ 11 * (width * 10240) + piece_most
    → Holds page answer
page_enough answer page a p = (omega arith, omega arith)

-- the smaller of two is at most the second
pub within : (a b : ℕ) {r : ℕ} → r ≡ min a b → r ≤ b
within a b e = rw e (min-le_right a b)

-- ---- a list

pub list_handed : (choices : ℕ) (t work room out : List ℕ) (asked : Bool) (mode : Mode) → asked ≡ tally_asked choices → mode ≡ mode_of choices
    → (r : ℕ) (out' work' room' : List ℕ) → record { count = r; page = out'; work = work'; room = room' } ≡ text_call asked mode t work room out
    → r ≤ 11 * length room + 400 → length work' ≡ length work → length room' ≡ length room
    → {out'' : List ℕ} {r' : ℕ} → Wrote out' r out'' r' 3 (λ rest. last_line ++ rest)
    → Holds out room → take r' out'' ≡ list_answer choices t work' room'
list_handed choices t work room out asked mode e f r out' work' room' call most w o p h =
    text_ended asked mode t work room out r out' work' room' call most w o last_line p (omega (arith, h.0)) (omega (arith, h.0, h.1))
    ∙ ap₂ (λ (a : Bool) (b : Mode). text_of a b t work' room' ++ last_line) e f

-- ---- a refusal

pub refusal_handed : (why : Refusal) {o o₁ o₂ : List ℕ} {n₁ n₂ : ℕ} → Wrote o 0 o₁ n₁ 50 (λ rest. refused why ++ rest)
    → Wrote o₁ n₁ o₂ n₂ 3 (λ rest. last_line ++ rest) → piece_most ≤ length o → take n₂ o₂ ≡ refusal_answer why
refusal_handed why p q h =
    (stands (refusal_answer why)
    (retold 53 (λ rest. refusal_answer why ++ rest) (then p q) (omega arith) (λ rest. sym (append_assoc (refused why) last_line rest)))
    (omega arith) (omega arith)).1

-- ---- a log

pub lists : (choices : ℕ) (t work room : List ℕ) (mode : Mode) → mode ≡ mode_of choices → (a : Answer) (room' work' : List ℕ)
    → Gives (lint_call mode t work room) a room' work' → (n : ℕ) → a.outcome ≡ Ok n → Lists (mode_of choices) t room' n a.tally
lists choices t work room mode e a room' work' g n i =
    let same : lint_list mode t ≡ lint_list (mode_of choices) t = ap (λ (m : Mode). lint_list m t) e in
    let r = lint_records mode t work room a room' work' g n i in
    record {
      small = listed_small (lint_list mode t) t work room no_tally a room' work' g n i;
      enough = room_where_listed (lint_list mode t) t work room no_tally a room' work' g n i;
      whole = r ∙ same;
      counts = lint_counts mode t work room a room' work' g n i ∙ ap tally_of (r ∙ same);
    }

pub piece_handed : (choices : ℕ) (t list : List ℕ) (n : ℕ) (tally : List ℕ) (k : ℕ) → Lists (mode_of choices) t list n tally
    → {o o' : List ℕ} {r : ℕ} → Wrote o 0 o' r piece_most (λ rest. piece_of t tally (records_in n list) k ++ rest) → piece_most ≤ length o
    → take r o' ≡ log_piece choices t k
piece_handed choices t list n tally k l w h =
    (stands (piece_of t tally (records_in n list) k) w h (omega arith)).1
    ∙ ap₂ (λ (y : List ℕ) (rs : List Rec). piece_of t y rs k) l.counts l.whole
