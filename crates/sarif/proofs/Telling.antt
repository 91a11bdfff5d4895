-- What each return of the call shows. Assumes nothing.
use Rattle.std.specs.Prelude.{Ok, Err}
use Prim.Native.Nat.{ℕ, ◌+◌, ◌*◌, ◌/◌, ◌≤◌, ◌<◌}
use native.Mathlib.Omega.{arith}
use native.Mathlib.Nat.{le-div_iff_mul-le, div-lt_iff_lt-mul}
use mathlib.Core.Path.{◌≡◌, refl, sym, ap, ap₂, subst, ◌∙◌}
use mathlib.Core.List.{List, [], ◌∷◌, ◌++◌}
use mathlib.Core.Logic.{◌⊎◌, inl, inr}
use mathlib.Core.Option.{none, some}
use lib.ListN.{length, take, drop}
use Rattle.tree.specs.Judge.{judged}
use Rattle.tree.specs.declared.Facts.{Facts}
use Rattle.tree.specs.declared.Mode.{Mode}
use Rattle.tree.specs.Judge.{Judged}
use Rattle.rules.specs.Record.{Rec, width, all_words}
use Rattle.rules.specs.Joined.{lint_list, no_tally}
use Rattle.rules.specs.Outcome.{answer_room, other_room, work_words, refusal, room_by, work_by, cleared}
use Rattle.rules.specs.Calls.{DoneWithWork, lint_call}
use Rattle.rules.specs.Afterwards as after
use Rattle.rules.specs.Afterwards.{records_in}
use Rattle.rules.specs.declared.Answer.{Answer as lint_answer}
use Rattle.rules.specs.declared.Refusal.{Refusal}
use Rattle.rules.specs.declared.Refusal.TheVariants.{Tree, WorkRoom, AnswerRoom, OtherRoom}
use Rattle.rules.proofs.Words.{length_words}
use Rattle.rules.proofs.Whole.{file_lint_few}
use Rattle.rules.proofs.Answered.{short_or_not, unfit, fit, work_short, work_enough, room_short, room_enough, other_short, other_enough, all_passed, refused as lint_refused_as, listed, filled, work_unfit, work_lacking, work_listed}
use Rattle.rules.proofs.Called.{valid_where_listed, room_where_listed, length_records}
use Rattle.lint.proofs.Demands as demands
use Rattle.answer.proofs.Whole.{no_front}
use Rattle.page.specs.Page.{Page, page, writes, Wrote}
use Rattle.json_text.specs.Text.{text}
use Rattle.page.proofs.Pages.{writes_length, written, counted}
use Rattle.sarif_log.specs.Log.{sarif_log, log}
use Rattle.sarif.specs.Calls.{checks, answer_by, output_by, Done, sarif_of, sarif_call}
use Rattle.sarif.specs.Telling.{Listed, why_of, Tells}
use Rattle.sarif.specs.Calls.{Outcome}
use Rattle.sarif.specs.declared.Answer.{Answer}
use lib.Seq.{take-append_seam}
use Rattle.sarif_log.proofs.Listed.{listed_small}

answer_is : (a : Answer) {o : Outcome} {y : List ℕ} → a.outcome ≡ o → a.tally ≡ y → a ≡ record { outcome = o; tally = y }
answer_is a p q = rw (p, q)

-- ---- with the list in room of the call's own

module _ (t list : List ℕ) (n : ℕ) (tally : List ℕ) (h : Listed t list n tally) (room output : List ℕ) where
  abbrev rs : List Rec
  rs = records_in n list

  long : length rs ≡ n
  long = length_records n list

  -- 11
  pub short_room : (a : Answer) → length room / width < n → a.outcome ≡ Err (AnswerRoom n) → a.tally ≡ no_tally
      → Tells rs t room output a room output
  unfolding answer_by room_by output_by
  short_room a l p q =
      let m : length room < n * width = (div-lt_iff_lt-mul {k = width} {x = length room} {y = n} (omega arith)).0 l in
      let z : why_of rs t room output ≡ some (AnswerRoom (length rs)) = room_short _ (length rs) (length room) (omega (arith, long)) in
      record { answer = rw z (answer_is a (rw long p) q); room_after = rw z refl; output_after = rw z refl }

  module _ (fits : n ≤ length room / width) where
    enough : why_of rs t room output ≡ refusal (other_room (length (log t rs)) (length output) ∷ [])
    enough =
        let m : n * width ≤ length room = (le-div_iff_mul-le {k = width} {x = n} {y = length room} (omega arith)).0 fits in
        room_enough _ (length rs) (length room) (omega (arith, long))

    -- a function that wrote the log counted its bytes
    module _ (o o' : List ℕ) (needed : ℕ) (w : Wrote o 0 o' needed (5000 + 2402 * n) (λ rest. text (sarif_log t tally rs) (0x0A ∷ rest))) where
      log_wrote : page o' needed ≡ writes (page o 0) (log t rs)
      unfolding writes log
      log_wrote = w.so [] ∙ ap (λ (y : List ℕ). writes (page o 0) (text (sarif_log t y rs) (0x0A ∷ []))) h.counts

      pub bytes_needed : needed ≡ length (log t rs)
      bytes_needed =
          let e : needed ≡ (writes (page o 0) (log t rs)).count = ap (λ (p : Page). p.count) log_wrote in
          let m : (writes (page o 0) (log t rs)).count ≤ 18446744073709551614 = omega (arith, w.most, h.most, e) in
          e ∙ counted o (log t rs) 0 m ∙ omega arith

      pub same_room : length o' ≡ length o
      same_room = ap (λ (p : Page). length p.out) log_wrote ∙ writes_length (page o 0) (log t rs)

      pub whole_log : length (log t rs) ≤ length o → o' ≡ log t rs ++ drop (length (log t rs)) o
      whole_log l =
          ap (λ (p : Page). p.out) log_wrote
          ∙ ap (λ (p : Page). p.out) (written o (log t rs) l (omega (arith, w.most, h.most, bytes_needed)))

    -- 12
    pub short_output : (a : Answer) (e : List ℕ) (needed : ℕ)
        → Wrote [] 0 e needed (5000 + 2402 * n) (λ rest. text (sarif_log t tally rs) (0x0A ∷ rest)) → length (e ++ output) < needed
        → a.outcome ≡ Err (OtherRoom needed) → a.tally ≡ no_tally → Tells rs t room output a room (e ++ output)
    unfolding answer_by room_by output_by
    short_output a e needed w g p q =
        let k = bytes_needed [] e needed w in
        let l : length output < needed = rw (no_front e output (same_room [] e needed w)) at g in
        let z : why_of rs t room output ≡ some (OtherRoom (length (log t rs)))
        = enough ∙ other_short _ (length (log t rs)) (length output) (omega arith) in
        record {
          answer = rw z (answer_is a (p ∙ ap (λ (x : ℕ). Err (OtherRoom x)) k) q);
          room_after = rw z refl;
          output_after = rw z (no_front e output (same_room [] e needed w));
        }

    -- the log
    pub all_told : (a : Answer) (e room' output' : List ℕ) (needed m : ℕ)
        → Wrote [] 0 e needed (5000 + 2402 * n) (λ rest. text (sarif_log t tally rs) (0x0A ∷ rest)) → needed ≤ length (e ++ output)
        → Wrote (e ++ output) 0 output' m (5000 + 2402 * n) (λ rest. text (sarif_log t tally rs) (0x0A ∷ rest))
        → room' ≡ take (width * n) list ++ drop (width * n) room → a.outcome ≡ Ok (record { records = n; bytes = needed }) → a.tally ≡ tally
        → Tells rs t room output a room' output'
    unfolding answer_by room_by output_by
    all_told a e room' output' needed m w g x c p q =
        let k = bytes_needed [] e needed w in
        let l : needed ≤ length output = rw (no_front e output (same_room [] e needed w)) at g in
        let v : Wrote output 0 output' m (5000 + 2402 * n) (λ rest. text (sarif_log t tally rs) (0x0A ∷ rest))
        = subst (λ (o : List ℕ). Wrote o 0 output' m (5000 + 2402 * n) (λ rest. text (sarif_log t tally rs) (0x0A ∷ rest))) (no_front e output (same_room [] e needed w)) x in
        let z : why_of rs t room output ≡ none = enough ∙ (other_enough _ (length (log t rs)) (length output) (omega arith) ∙ all_passed) in
        record {
          answer = rw z
              (answer_is a (p ∙ ap₂ (λ (x y : ℕ). Ok (record { records = x; bytes = y })) (sym long) k) (q ∙ h.counts));
          room_after = rw z (c ∙ ap (λ (x : List ℕ). x ++ drop (width * n) room) h.stands ∙ ap (λ (x : ℕ). all_words rs ++ drop (width * x) room) (sym long));
          output_after = rw z (whole_log output output' m v (omega arith));
        }

-- ---- after the joined call, with room for 10,240 records

-- names ran before 11, before 12 and before the log
work_cleared : (n lent m bytes : ℕ) (work : List ℕ) → work_by (refusal (answer_room n lent ∷ other_room m bytes ∷ [])) work ≡ cleared work
unfolding work_by
work_cleared n lent m bytes work = go (short_or_not lent (width * n)) (short_or_not bytes m)
  where
    go : (lent < width * n) ⊎ (width * n ≤ lent) → (bytes < m) ⊎ (m ≤ bytes)
        → work_by (refusal (answer_room n lent ∷ other_room m bytes ∷ [])) work ≡ cleared work
    go (inl h) o = rw (room_short (other_room m bytes ∷ []) n lent h)
    go (inr h) (inl o) = rw (room_enough (other_room m bytes ∷ []) n lent h, other_short [] m bytes o)
    go (inr h) (inr o) = rw (room_enough (other_room m bytes ∷ []) n lent h, other_enough [] m bytes o, all_passed)

module _ (mode : Mode) (t work list : List ℕ) (ample : length list ≡ width * 10240) (a : lint_answer) (list' work' : List ℕ)
    (gives : after.Gives (lint_call mode t work list) a list' work') where
  abbrev whole : List Rec
  whole = lint_list mode t

  outcome_is : {b : lint_answer} {o w : List ℕ} → lint_call mode t work list ≡ record { answer = b; room = o; work = w } → a.outcome ≡ b.outcome
  outcome_is d = ap (λ (x : DoneWithWork). x.answer.outcome) (gives ∙ d)

  module _ (n : ℕ) (i : a.outcome ≡ Ok n) where
    got : records_in n list' ≡ whole
    got = demands.lint_records mode t work list a list' work' gives n i

    valid : (f : Facts) × (judged t ≡ Ok f)
    valid = valid_where_listed whole t work list no_tally a list' work' gives n i

    few : length whole ≤ 10240
    few = file_lint_few t valid.0 valid.1 mode

    room_for_all : width * length whole ≤ length list
    room_for_all = omega (arith, few, ample)

    sufficient : work_words ≤ length work
    sufficient = go (short_or_not (length work) work_words)
      where
        go : (length work < work_words) ⊎ (work_words ≤ length work) → work_words ≤ length work
        go (inl h) =
            let o = outcome_is (work_lacking whole t work list no_tally valid.1 h) in
            let z : ◌≡◌ {A = ℕ} 0 1 = cc (o, i) in absurd (omega arith)
        go (inr h) = h

    left : after.Gives (record { answer = listed whole no_tally; room = filled whole list; work = cleared work }) a list' work'
    left = gives ∙ work_listed whole t work list no_tally valid.1 sufficient room_for_all

    many : n ≡ length whole
    many = let l = ap (λ (x : DoneWithWork). x.answer.outcome) left in cc (l, i)

    stood : list' ≡ filled whole list
    stood = ap (λ (x : DoneWithWork). x.room) left

    pub found_all : Listed t list' n a.tally
    found_all =
        let m = many in
        let l : length (all_words whole) ≡ width * length whole = length_words whole in
        let k : width * n ≡ length (all_words whole) = omega arith in
        let s : take (width * n) list' ≡ all_words whole
        = ap₂ (λ (x : ℕ) (y : List ℕ). take x y) k stood ∙ take-append_seam (all_words whole) (drop (width * length whole) list) in
        record {
          small = listed_small whole t work list no_tally a list' work' gives n i;
          counts = demands.lint_counts mode t work list a list' work' gives n i;
          enough = room_where_listed whole t work list no_tally a list' work' gives n i;
          stands = s ∙ sym (ap all_words got);
          most = omega (arith, few, m);
        }

    -- what the call says where there is a list
    module _ (room output : List ℕ) where
      no_earlier : refusal (checks whole t work room output) ≡ why_of whole t room output
      no_earlier = fit _ valid.1 ∙ work_enough _ (length work) sufficient

      pub called_listed : (b : Answer) (room' output' : List ℕ) → Tells (records_in n list') t room output b room' output'
          → ◌≡◌ {A = Done} (record { answer = b; work = work'; room = room'; output = output' }) (sarif_call mode t work room output)
      unfolding sarif_of
      called_listed b room' output' tells =
          let d : Tells whole t room output b room' output' = subst (λ (l : List Rec). Tells l t room output b room' output') got tells in
          let w : work' ≡ work_by (why_of whole t room output) work
          = ap (λ (x : DoneWithWork). x.work) left
          ∙ sym (work_cleared (length whole) (length room) (length (log t whole)) (length output) work) in
          rw no_earlier (λ i. record { answer = d.answer i; work = w i; room = d.room_after i; output = d.output_after i })

  -- ... and where there is none
  pub called_refused : (why : Refusal) → a.outcome ≡ Err why → (room output : List ℕ) (b : Answer)
      → b.outcome ≡ Err why → b.tally ≡ no_tally
      → ◌≡◌ {A = Done} (record { answer = b; work = work'; room = room; output = output }) (sarif_call mode t work room output)
  unfolding sarif_of answer_by room_by output_by work_by
  called_refused why i room output b p q = go (judged t) refl (short_or_not (length work) work_words)
    where
      -- a refusal that the joined call gives too
      same : (other : Refusal) {o w : List ℕ} → lint_call mode t work list ≡ record { answer = lint_refused_as other; room = o; work = w }
          → refusal (checks whole t work room output) ≡ some other → w ≡ work_by (some other) work
          → ◌≡◌ {A = Done} (record { answer = b; work = work'; room = room; output = output }) (sarif_call mode t work room output)
      same other d e w =
          let o = outcome_is d in
          let s : why ≡ other = cc (o, i) in
          let v : work' ≡ work_by (some other) work = ap (λ (x : DoneWithWork). x.work) (gives ∙ d) ∙ w in
          rw (e, v, answer_is b (p ∙ ap Err s) q)

      go : (j : Judged) → judged t ≡ j → (length work < work_words) ⊎ (work_words ≤ length work)
          → ◌≡◌ {A = Done} (record { answer = b; work = work'; room = room; output = output }) (sarif_call mode t work room output)
      go (Err w) e h = same (Tree w) (work_unfit whole t work list no_tally e) (unfit _ e) refl
      go (Ok f) e (inl h) = same WorkRoom (work_lacking whole t work list no_tally e h) (fit _ e ∙ work_short _ (length work) h) refl
      go (Ok f) e (inr h) =
          let few : length whole ≤ 10240 = file_lint_few t f e mode in
          let o = outcome_is (work_listed whole t work list no_tally e h (omega (arith, few, ample))) in
          let z : ◌≡◌ {A = ℕ} 0 1 = cc (o, i) in absurd (omega arith)
