-- What the joined call leaves is what its text tells. In each: t, the file's bytes; work and room, the lent words before the call; a, its
-- answer; room' and work', the words afterwards. Assumes nothing.
use Rattle.std.specs.Prelude.{Ok, Err}
use Prim.Native.Nat.{ℕ, ◌+◌, ◌*◌, ◌≤◌}
use native.Mathlib.Omega.{arith}
use mathlib.Core.Path.{◌≡◌, refl, sym, ap, ap₂, ◌∙◌}
use mathlib.Core.Bool.{Bool, true, false}
use mathlib.Core.List.{List, [], ◌++◌, append_assoc, append-nil}
use mathlib.Core.Option.{some}
use lib.ListN.{length}
use Rattle.tree.specs.declared.Mode.{Mode}
use Rattle.rules.specs.Record.{Rec, width}
use Rattle.rules.specs.Joined.{lint_list, no_tally, codes, tally_of}
use Rattle.rules.specs.Outcome.{refusal}
use Rattle.rules.specs.Calls.{lint_call, checks_with_work}
use Rattle.rules.specs.Afterwards as after
use Rattle.rules.specs.Afterwards.{records_in, Lists, WarnedOrRefused, warned}
use Rattle.rules.specs.declared.Refusal.{Refusal}
use Rattle.rules.specs.declared.Answer.{Answer}
use Rattle.rules.proofs.Called.{room_where_listed}
use Rattle.lint.proofs.Demands.{lint_demand1, lint_records, lint_counts}
use Rattle.page.specs.Page.{page, writes, Wrote}
use Rattle.page.proofs.Pages.{then, retold}
use Rattle.text.specs.Text.{listing, refused, counts, told, text_of, done_with, text_call}
use Rattle.text.specs.Pieces.{tally_line}

counts_line : (asked : Bool) (rs : List Rec) → tally_line asked (tally_of rs) ≡ counts asked rs
unfolding counts
counts_line true rs = refl
counts_line false rs = refl

module _ (mode : Mode) (t work room : List ℕ) (a : Answer) (room' work' : List ℕ)
    (gives : after.Gives (lint_call mode t work room) a room' work') where
  abbrev rs : List Rec
  rs = lint_list mode t

  ends : WarnedOrRefused rs t no_tally work room a room' work'
  ends = lint_demand1 mode t work room a room' work' gives

  where_listed : (n : ℕ) → a.outcome ≡ Ok n → Lists rs t no_tally work room a room' work'
  where_listed n i = go ends
    where
      go : WarnedOrRefused rs t no_tally work room a room' work' → Lists rs t no_tally work room a room' work'
      go (warned l) = l
      go (after.refused why l) = let z : ◌≡◌ {A = ℕ} 0 1 = cc (l.outcome, i) in absurd (omega arith)

  where_refused : (why : Refusal) → a.outcome ≡ Err why → refusal (checks_with_work rs t work room) ≡ some why
  where_refused why i = go ends
    where
      go : WarnedOrRefused rs t no_tally work room a room' work' → refusal (checks_with_work rs t work room) ≡ some why
      go (warned l) = let z : ◌≡◌ {A = ℕ} 0 1 = cc (l.outcome, i) in absurd (omega arith)
      go (after.refused w l) = let s : w ≡ why = cc (l.outcome, i) in l.given ∙ ap some s

  pub room_for : (n : ℕ) → a.outcome ≡ Ok n → width * n ≤ length room'
  room_for = room_where_listed rs t work room no_tally a room' work' gives

  -- what a function that wrote the call's text left
  left : (asked : Bool) {o o₁ : List ℕ} {n₁ : ℕ}
      → Wrote o 0 o₁ n₁ (11 * length room + 400) (λ rest. text_of asked mode t work room ++ rest)
      → (record { count = n₁; page = o₁; work = work'; room = room' } ≡ text_call asked mode t work room o)
      × (n₁ ≤ 11 * length room + 400)
  unfolding text_call writes
  left asked {o = o} w = (
    ap₂ done_with (w.so [] ∙ ap (λ (s : List ℕ). writes (page o 0) s) (append-nil (text_of asked mode t work room))) gives,
    omega (arith, w.most),
  )

  -- the list
  pub text_listed : (asked : Bool) (n : ℕ) (i : a.outcome ≡ Ok n) {o o₁ o₂ : List ℕ} {n₁ n₂ : ℕ}
      → Wrote o 0 o₁ n₁ (11 * width * n + 27) (λ rest. listing (records_in n room') ++ rest)
      → Wrote o₁ n₁ o₂ n₂ (6 + 21 * codes) (λ rest. tally_line asked a.tally ++ rest)
      → (record { count = n₂; page = o₂; work = work'; room = room' } ≡ text_call asked mode t work room o)
      × (n₂ ≤ 11 * length room + 400)
  unfolding text_of told
  text_listed asked n i p q =
      let l = where_listed n i in
      let r = lint_records mode t work room a room' work' gives n i in
      let c = lint_counts mode t work room a room' work' gives n i ∙ ap tally_of r in
      let f = room_for n i in
      left asked
      (retold (11 * length room + 400) (λ rest. text_of asked mode t work room ++ rest) (then p q) (omega (arith, l.as_long))
      (λ rest. rw (l.none_given, r, c, counts_line asked rs) (sym (append_assoc (listing rs) (counts asked rs) rest))))

  -- the refusal
  pub text_refused : (asked : Bool) (why : Refusal) (i : a.outcome ≡ Err why) {o o₁ : List ℕ} {n₁ : ℕ}
      → Wrote o 0 o₁ n₁ 50 (λ rest. refused why ++ rest)
      → (record { count = n₁; page = o₁; work = work'; room = room' } ≡ text_call asked mode t work room o)
      × (n₁ ≤ 11 * length room + 400)
  unfolding text_of told
  text_refused asked why i p =
      left asked
      (retold (11 * length room + 400) (λ rest. text_of asked mode t work room ++ rest) p (omega arith)
      (λ rest. rw (where_refused why i)))
