-- What a call answers and leaves, read of its promise. In each: t, the file's bytes; work, room and output, what was lent, before the
-- call; a, its answer; work', room' and output', the same afterwards, as the call promises them. Assumes nothing.
use Rattle.std.specs.Prelude.{Ok, Err}
use Prim.Native.Nat.{ℕ, ◌+◌, ◌*◌, ◌≤◌, ◌<◌}
use native.Mathlib.Omega.{arith}
use mathlib.Core.Path.{◌≡◌, refl, ap, ◌∙◌}
use mathlib.Core.List.{List, map, ◌++◌}
use mathlib.Core.Logic.{◌⊎◌, inl, inr}
use mathlib.Core.Option.{none, some}
use lib.ListN.{length, take, drop, length-append, length-drop}
use lib.Seq.{take-append_seam, drop-append_seam}
use Rattle.tree.specs.Judge.{judged}
use Rattle.tree.specs.declared.Facts.{Facts}
use Rattle.tree.specs.declared.Refusal.{Refusal as Unfitness}
use Rattle.tree.specs.Judge.{Judged}
use Rattle.tree.specs.declared.Mode.{Mode}
use Rattle.rules.specs.Record.{Rec, width, all_words, Each}
use Rattle.rules.specs.Joined.{lint_list, no_tally, tally_of}
use Rattle.rules.specs.Outcome.{number_of, work_words, room_by, work_by, cleared}
use Rattle.rules.specs.declared.Refusal.{Refusal}
use Rattle.rules.specs.declared.Refusal.TheVariants.{Tree, WorkRoom, AnswerRoom, OtherRoom}
use Rattle.rules.proofs.Answered.{short_or_not, unfit, fit, work_short, work_enough, room_short, room_enough, other_short, other_enough, all_passed, filled}
use Rattle.rules.proofs.Called.{one_outcome, tree_numbered, filled_records, filled_past, filled_long}
use Rattle.spans.proofs.Whole.{file_fit}
use Rattle.json_text.specs.Utf8.{Utf8}
use Rattle.json_text.specs.Grammar.{Name, Is}
use Rattle.json_text.proofs.Sound.{json_text}
use Rattle.json_text.proofs.Encoded.{json_utf8}
use Rattle.sarif_log.specs.Log.{sarif_log, log}
use Rattle.sarif_log.specs.Reader.{read, found}
use Rattle.sarif.specs.Calls.{Done, answer_by, output_by, sarif_of, sarif_call}
use Rattle.sarif.specs.Afterwards.{Gives, given, Logs, Refuses, LoggedOrRefused, logged, refused}
use Rattle.sarif.specs.declared.Sizes.{Sizes}
use Rattle.sarif.specs.declared.Answer.{Answer}
use Rattle.sarif_log.proofs.ReadBack.{read_back}
use Rattle.sarif_log.proofs.Size.{file_log_size}
use Rattle.sarif.proofs.sarif.Reads as contract

-- ---- a call that gives the list rs of the file t

module _ (rs : List Rec) (t work room output : List ℕ) (a : Answer) (work' room' output' : List ℕ)
    (gives : Gives (sarif_of rs t work room output) a work' room' output') where
  refuses : (why : Refusal) → (1 ≤ number_of why) × (number_of why ≤ 12) → given rs t work room output ≡ some why
      → Refuses rs t why work room output a work' room' output'
  unfolding sarif_of answer_by room_by output_by
  refuses why n e =
      let d : Gives (record { answer = record { outcome = Err why; tally = no_tally }; work = work_by (some why) work; room = room; output = output })
      a work' room' output' = gives ∙ rw e in
      record {
        is_given = e;
        outcome = ap (λ (x : Done). x.answer.outcome) d;
        numbered = n;
        no_counts = ap (λ (x : Done). x.answer.tally) d;
        no_warning = ap (λ (x : Done). x.room) d;
        no_log = ap (λ (x : Done). x.output) d;
        work_room = ap (λ (x : Done). x.work) d;
      }

  logs : width * length rs ≤ length room → length (log t rs) ≤ length output → given rs t work room output ≡ none
      → Logs rs t work room output a work' room' output'
  unfolding sarif_of answer_by room_by output_by work_by
  logs l h e =
      let s = log t rs in
      let d : Gives (record {
        answer = record { outcome = Ok (record { records = length rs; bytes = length s }); tally = tally_of rs };
        work = cleared work;
        room = filled rs room;
        output = s ++ drop (length s) output;
      }) a work' room' output' = gives ∙ rw e in
      let r : room' ≡ filled rs room = ap (λ (x : Done). x.room) d in
      let o : output' ≡ s ++ drop (length s) output = ap (λ (x : Done). x.output) d in
      record {
        none_given = e;
        outcome = ap (λ (x : Done). x.answer.outcome) d;
        counts = ap (λ (x : Done). x.answer.tally) d;
        written = rw o (take-append_seam s (drop (length s) output));
        past = rw o (drop-append_seam s (drop (length s) output));
        as_long = rw (o, length-append, length-drop) (omega arith);
        records = rw r (filled_records rs room);
        room_past = rw r (filled_past rs room);
        room_as_long = rw r (filled_long rs room l);
        cleared_work = ap (λ (x : Done). x.work) d;
      }

  -- which of a call's ends it comes to: 1 to 9, 10, 11, 12, the log
  data End : Type 0 where
    unfit_end : (why : Unfitness) → Refuses rs t (Tree why) work room output a work' room' output' → End
    work_end : Refuses rs t WorkRoom work room output a work' room' output' → End
    room_end : Refuses rs t (AnswerRoom (length rs)) work room output a work' room' output' → End
    output_end : (f : Facts) → judged t ≡ Ok f → width * length rs ≤ length room → length output < length (log t rs)
        → Refuses rs t (OtherRoom (length (log t rs))) work room output a work' room' output' → End
    log_end : (f : Facts) → judged t ≡ Ok f → Logs rs t work room output a work' room' output' → End

  end : End
  end =
      go (judged t) refl (short_or_not (length work) work_words) (short_or_not (length room) (width * length rs))
      (short_or_not (length output) (length (log t rs)))
    where
      go : (j : Judged) → judged t ≡ j → (length work < work_words) ⊎ (work_words ≤ length work)
          → (length room < width * length rs) ⊎ (width * length rs ≤ length room)
          → (length output < length (log t rs)) ⊎ (length (log t rs) ≤ length output) → End
      go (Err why) e w r o = unfit_end why (refuses (Tree why) (let n = tree_numbered why in (n.0, omega (arith, n.1))) (unfit _ e))
      go (Ok f) e (inl w) r o = work_end (refuses WorkRoom (omega arith, omega arith) (fit _ e ∙ work_short _ (length work) w))
      go (Ok f) e (inr w) (inl r) o =
          room_end (refuses (AnswerRoom (length rs)) (omega arith, omega arith)
          (fit _ e ∙ (work_enough _ (length work) w ∙ room_short _ (length rs) (length room) r)))
      go (Ok f) e (inr w) (inr r) (inl o) =
          output_end f e r o (refuses (OtherRoom (length (log t rs))) (omega arith, omega arith)
          (fit _ e ∙ (work_enough _ (length work) w ∙ (room_enough _ (length rs) (length room) r
          ∙ other_short _ (length (log t rs)) (length output) o))))
      go (Ok f) e (inr w) (inr r) (inr o) =
          log_end f e (logs r o (fit _ e ∙ (work_enough _ (length work) w ∙ (room_enough _ (length rs) (length room) r
          ∙ (other_enough _ (length (log t rs)) (length output) o ∙ all_passed)))))

  -- every input gets its log or one numbered refusal
  pub logs_or_refuses : LoggedOrRefused rs t work room output a work' room' output'
  logs_or_refuses = go end
    where
      go : End → LoggedOrRefused rs t work room output a work' room' output'
      go (unfit_end why l) = refused (Tree why) l
      go (work_end l) = refused WorkRoom l
      go (room_end l) = refused (AnswerRoom (length rs)) l
      go (output_end f e r o l) = refused (OtherRoom (length (log t rs))) l
      go (log_end f e l) = logged l

  -- a log is made of a valid file
  pub valid_where_logged : (n : Sizes) → a.outcome ≡ Ok n → (f : Facts) × (judged t ≡ Ok f)
  valid_where_logged n i = go end
    where
      go : End → (f : Facts) × (judged t ≡ Ok f)
      go (unfit_end why l) = let z : ◌≡◌ {A = ℕ} 0 1 = cc (l.outcome, i) in absurd (omega arith)
      go (work_end l) = let z : ◌≡◌ {A = ℕ} 0 1 = cc (l.outcome, i) in absurd (omega arith)
      go (room_end l) = let z : ◌≡◌ {A = ℕ} 0 1 = cc (l.outcome, i) in absurd (omega arith)
      go (output_end f e r o l) = (f, e)
      go (log_end f e l) = (f, e)

  -- 12 is given only where the list has room and the log has none
  short_of : (n : ℕ) → a.outcome ≡ Err (OtherRoom n)
      → ((f : Facts) × (judged t ≡ Ok f)) × (width * length rs ≤ length room) × (length output < length (log t rs))
  short_of n i = go end
    where
      go : End → ((f : Facts) × (judged t ≡ Ok f)) × (width * length rs ≤ length room) × (length output < length (log t rs))
      go (unfit_end why l) = let z : ◌≡◌ {A = ℕ} 0 1 = cc (l.outcome, i) in absurd (omega arith)
      go (work_end l) = let z : ◌≡◌ {A = ℕ} 0 1 = cc (l.outcome, i) in absurd (omega arith)
      go (room_end l) = let z : ◌≡◌ {A = ℕ} 0 1 = cc (l.outcome, i) in absurd (omega arith)
      go (output_end f e r o l) = ((f, e), r, o)
      go (log_end f e l) = let z : ◌≡◌ {A = ℕ} 0 1 = cc (l.outcome, i) in absurd (omega arith)

-- ---- the call

-- every log is a JSON text
pub log_json : (t : List ℕ) (rs : List Rec) → Is Name.JSONText (log t rs)
unfolding log
log_json t rs = json_text (sarif_log t (tally_of rs) rs)

-- What the contract of sarif says, as the checker reads it (Post: of the arguments a, the result r and the lent words s afterwards):
-- sarif-call.
pub promised : (κs : _) (a : _) (r : _) (s : _) → contract.Post κs a r s
    → Gives (sarif_call a.1.0 a.0.now a.1.1.0.now a.1.1.1.0.now a.1.1.1.1.0.now) r
    s.1.1.0.now s.1.1.1.0.now s.1.1.1.1.0.now
promised κs a r s p = p

module _ (mode : Mode) (t work room output : List ℕ) (a : Answer) (work' room' output' : List ℕ)
    (gives : Gives (sarif_call mode t work room output) a work' room' output') where
  -- "Every byte string handed in as a tree gets warnings or one numbered refusal", 1 to 12: a log, or neither a record nor a byte
  pub logged_or_refused : LoggedOrRefused (lint_list mode t) t work room output a work' room' output'
  logged_or_refused = logs_or_refuses (lint_list mode t) t work room output a work' room' output' gives

  -- "Reading the log back .. gives the same codes and first spans in order": of the bytes that the call leaves
  pub sarif_read_back : (n : Sizes) → a.outcome ≡ Ok n → read (take n.bytes output') ≡ map found (lint_list mode t)
  sarif_read_back n i = go logged_or_refused
    where
      rs : List Rec
      rs = lint_list mode t

      go : LoggedOrRefused rs t work room output a work' room' output' → read (take n.bytes output') ≡ map found rs
      go (logged l) =
          let m : n.bytes ≡ length (log t rs) = cc (l.outcome, i) in
          let v = valid_where_logged rs t work room output a work' room' output' gives n i in
          rw (m, l.written) (read_back t rs (file_fit t v.0 v.1 mode))
      go (refused why l) = let z : ◌≡◌ {A = ℕ} 0 1 = cc (l.outcome, i) in absurd (omega arith)

  -- "Every output is a JSON text by RFC 8259's grammar", so in UTF-8: of the bytes that the call leaves
  pub sarif_json : (n : Sizes) → a.outcome ≡ Ok n → Is Name.JSONText (take n.bytes output')
  sarif_json n i = go logged_or_refused
    where
      rs : List Rec
      rs = lint_list mode t

      go : LoggedOrRefused rs t work room output a work' room' output' → Is Name.JSONText (take n.bytes output')
      go (logged l) = let m : n.bytes ≡ length (log t rs) = cc (l.outcome, i) in rw (m, l.written) (log_json t rs)
      go (refused why l) = let z : ◌≡◌ {A = ℕ} 0 1 = cc (l.outcome, i) in absurd (omega arith)

  pub sarif_utf8 : (n : Sizes) → a.outcome ≡ Ok n → Utf8 (take n.bytes output')
  sarif_utf8 n i = json_utf8 (sarif_json n i)

  -- "two outcomes that satisfy it are proved equal"
  pub sarif_one : (b : Answer) (work'' room'' output'' : List ℕ) → Gives (sarif_call mode t work room output) b work'' room'' output''
      → ◌≡◌ {A = Done} (record { answer = a; work = work'; room = room'; output = output' })
      (record { answer = b; work = work''; room = room''; output = output'' })
  sarif_one b work'' room'' output'' other = one_outcome gives other

  -- with room for k records, 1,617 + 2,222 k bytes are never too few: 4,552,273 for 2,048 records
  pub output_enough : (k : ℕ) → length room < width * (k + 1) → 1617 + 2222 * k ≤ length output → Each (λ w. w < 4294967296) (all_words (lint_list mode t))
      → (n : ℕ) → a.outcome ≡ Err (OtherRoom n) → ⊥
  output_enough k h l u n i =
      let d = short_of (lint_list mode t) t work room output a work' room' output' gives n i in
      omega (arith, file_log_size t d.0.0 d.0.1 mode u, d.1, d.2)
