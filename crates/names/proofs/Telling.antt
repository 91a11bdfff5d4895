-- The warnings as records, and what the call answers of them. Assumes nothing.
use Rattle.std.specs.Prelude.{Ok, Err}
use Prim.Native.Nat.{ℕ, ◌+◌, ◌*◌, ◌/◌, ◌≤◌, ◌<◌}
use native.Mathlib.Omega.{arith}
use native.Mathlib.Nat.{div-lt_iff_lt-mul}
use mathlib.Core.Path.{◌≡◌, refl, sym, ap, ◌∙◌}
use mathlib.Core.List.{List, [], ◌∷◌, ◌++◌}
use lib.ListN.{length, set, take, drop, replicate}
use lib.Seq.{length-take-le}
use Rattle.tree.specs.Judge.{judged}
use Rattle.tree.specs.declared.Facts.{Facts}
use Rattle.rules.specs.declared.Refusal.TheVariants.{WorkRoom, AnswerRoom}
use Rattle.rules.specs.declared.Answer.{Answer}
use Rattle.rules.specs.Record.{Rec, width}
use Rattle.rules.specs.Joined.{no_tally}
use Rattle.rules.specs.Outcome.{work_words, cleared}
use Rattle.rules.specs.Calls.{done_with_work}
use Rattle.rules.specs.Afterwards.{Gives}
use Rattle.rules.proofs.Answered.{answer_same, done_short, work_lacking, with_work}
use Rattle.answer.specs.declared.LentSheet.{LentSheet}
use Rattle.answer.specs.Page.{Page, page, Added}
use Rattle.answer.proofs.Whole.{counted, listed_done}
use Rattle.answer.specs.Answers.{Answers}
use Rattle.names.specs.Records.{record_in, records_of}
use Rattle.scope.proofs.Lists.{places_none, places_last, places_length}

pub records_none : (t w : List ℕ) → records_of t w 0 ≡ []
unfolding records_of
records_none t w = places_none (record_in t w) 0 0 (omega arith)

pub records_length : (t w : List ℕ) (n : ℕ) → length (records_of t w n) ≡ n
unfolding records_of
records_length t w n = places_length (record_in t w) 0 n ∙ omega arith

pub records_next : (t w : List ℕ) (k : ℕ) → records_of t w (k + 1) ≡ records_of t w k ++ (record_in t w k ∷ [])
unfolding records_of
records_next t w k = places_last (record_in t w) 0 k (omega arith)

-- ---- what n warnings answer

module _ (t w : List ℕ) (n : ℕ) (few : n ≤ 1024) (o y : List ℕ) (a : Answer) where
  few_records : length (records_of t w n) ≤ 18446744073709551615
  few_records = omega (arith, records_length t w n)

  pub short_of : length o / width < n → a.outcome ≡ Err (AnswerRoom n) → a.tally ≡ no_tally
      → Answers (records_of t w n) o y a o
  short_of h p q =
      let k = records_length t w n in
      let l : length o < n * width = (div-lt_iff_lt-mul {k = width} {x = length o} {y = n} (omega arith)).0 h in
      record { answers = λ u f v. rw (done_short (records_of t w n) u o y v (omega (arith, k, l)), answer_same a (p ∙ ap (λ (m : ℕ). Err (AnswerRoom m)) (sym k)) q) }

  pub listed_of : (s c : LentSheet) → n ≤ length o / width → page s ≡ record { out = o; count = 0; tally = y }
      → Added s c (records_of t w n) → a.outcome ≡ Ok c.sheet.count → a.tally ≡ c.sheet.tally
      → {o₁ : List ℕ} → o₁ ≡ c.out.now → Answers (records_of t w n) o y a o₁
  listed_of s c h start wr p q e =
      let fresh : s.sheet.count ≡ 0 = ap (λ (z : Page). z.count) start in
      let k : c.sheet.count ≡ n = counted (records_of t w n) few_records o y s c fresh wr ∙ records_length t w n in
      rw e (listed_done (records_of t w n) few_records o y s c fresh wr a s c (rw k h) start wr p q)

-- a part of k words that came back zero
pub zeros_front : (k : ℕ) (v w : List ℕ) → k ≤ length w → v ≡ replicate (length (take k w)) 0 → v ++ drop k w ≡ replicate k 0 ++ drop k w
zeros_front k v w h e = ap (λ (l : List ℕ). l ++ drop k w) (e ∙ ap (λ (n : ℕ). replicate n 0) (length-take-le k w h))

-- ---- the whole call

module _ (t : List ℕ) (f : Facts) (valid : judged t ≡ Ok f) (rs : List Rec) (w o y : List ℕ) (a : Answer) where
  pub unlent : length w < work_words → a.outcome ≡ Err WorkRoom → a.tally ≡ no_tally → Gives (done_with_work rs t w o y) a o w
  unlent h p q = rw (work_lacking rs t w o y valid h, answer_same a p q)

  pub lent : (o₁ w₁ : List ℕ) → work_words ≤ length w → Answers rs o y a o₁ → w₁ ≡ cleared w → Gives (done_with_work rs t w o y) a o₁ w₁
  lent o₁ w₁ h done zeroed = with_work rs t w o y valid h a o₁ w₁ (done.answers t f valid) zeroed
