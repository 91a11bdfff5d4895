-- What a call answers and leaves, check by check: for the proofs of every call. Assumes nothing.
use Rattle.std.specs.Prelude.{Ok, Err}
use Prim.Native.Nat.{ℕ, ◌*◌, ◌≤◌, ◌<◌}
use native.Mathlib.Omega.{arith}
use mathlib.Core.Path.{◌≡◌, refl, ap, ◌∙◌}
use mathlib.Core.Bool.{Bool, true, false}
use mathlib.Core.List.{List, [], ◌∷◌, ◌++◌}
use mathlib.Core.Option.{Option, none, some}
use lib.Dec.{ltb}
use lib.ListN.{length, drop}
use mathlib.Core.Logic.{◌⊎◌, inl, inr}
use borrow.Author.Tests.{lt-ltb, le-ltb, ltb-true, ltb-false}
use Rattle.tree.specs.Judge.{judged}
use Rattle.tree.specs.declared.Facts.{Facts}
use Rattle.tree.specs.declared.Refusal as tree
use Rattle.tree.specs.Judge.{Judged}
use Rattle.rules.specs.declared.Refusal.{Refusal}
use Rattle.rules.specs.declared.Refusal.TheVariants.{Tree, WorkRoom, AnswerRoom, OtherRoom}
use Rattle.rules.specs.Outcome.{Outcome}
use Rattle.rules.specs.declared.Answer.{Answer}
use Rattle.rules.specs.Record.{Rec, width, all_words}
use Rattle.rules.specs.Joined.{no_tally, raise_all}
use Rattle.rules.specs.Outcome.{Check, the_file, work_room, answer_room, other_room, work_words, refuse_if, gives, refusal, answer_by, room_by, work_by, cleared}
use Rattle.rules.specs.Record.{or_else}
use Rattle.rules.specs.Calls.{Done, DoneWithWork, checks, checks_with_work, done, done_with_work}

-- a room is short, or it is not
pub short_or_not : (a b : ℕ) → (a < b) ⊎ (b ≤ a)
short_or_not a b = go (ltb a b) refl
  where
    go : (c : Bool) → ltb a b ≡ c → (a < b) ⊎ (b ≤ a)
    go true e = inl (ltb-true a b e)
    go false e = inr (ltb-false a b e)

-- ---- a check that gives its refusal, and one that lets the next ones decide

module _ (cs : List Check) where
  pub unfit : {j : Judged} {why : tree.Refusal} → j ≡ Err why → refusal (the_file j ∷ cs) ≡ some (Tree why)
  unfolding refusal
  unfit e = rw e

  pub fit : {j : Judged} {f : Facts} → j ≡ Ok f → refusal (the_file j ∷ cs) ≡ refusal cs
  unfolding refusal
  fit e = rw e

  decided : (b : Bool) (why : Refusal) → b ≡ true → or_else (refuse_if b why) (refusal cs) ≡ some why
  decided b why e = rw e

  passed : (b : Bool) (why : Refusal) → b ≡ false → or_else (refuse_if b why) (refusal cs) ≡ refusal cs
  passed b why e = rw e

  pub work_short : (lent : ℕ) → lent < work_words → refusal (work_room lent ∷ cs) ≡ some WorkRoom
  unfolding refusal
  work_short lent h = decided (ltb lent work_words) WorkRoom (lt-ltb lent work_words h)

  pub work_enough : (lent : ℕ) → work_words ≤ lent → refusal (work_room lent ∷ cs) ≡ refusal cs
  unfolding refusal
  work_enough lent h = passed (ltb lent work_words) WorkRoom (le-ltb lent work_words h)

  pub room_short : (n lent : ℕ) → lent < width * n → refusal (answer_room n lent ∷ cs) ≡ some (AnswerRoom n)
  unfolding refusal
  room_short n lent h = decided (ltb lent (width * n)) (AnswerRoom n) (lt-ltb lent (width * n) h)

  pub room_enough : (n lent : ℕ) → width * n ≤ lent → refusal (answer_room n lent ∷ cs) ≡ refusal cs
  unfolding refusal
  room_enough n lent h = passed (ltb lent (width * n)) (AnswerRoom n) (le-ltb lent (width * n) h)

  pub other_short : (n lent : ℕ) → lent < n → refusal (other_room n lent ∷ cs) ≡ some (OtherRoom n)
  unfolding refusal
  other_short n lent h = decided (ltb lent n) (OtherRoom n) (lt-ltb lent n h)

  pub other_enough : (n lent : ℕ) → n ≤ lent → refusal (other_room n lent ∷ cs) ≡ refusal cs
  unfolding refusal
  other_enough n lent h = passed (ltb lent n) (OtherRoom n) (le-ltb lent n h)

pub all_passed : refusal [] ≡ none
unfolding refusal
all_passed = refl

-- a call that passed its checks has room for its records
pub room_passed : (a b : Check) (n lent : ℕ) → refusal (a ∷ b ∷ answer_room n lent ∷ []) ≡ none → width * n ≤ lent
unfolding refusal
room_passed a b n lent = go (gives a) (gives b) (ltb lent (width * n)) refl
  where
    go : (x y : Option Refusal) (s : Bool) → ltb lent (width * n) ≡ s
        → or_else x (or_else y (or_else (refuse_if s (AnswerRoom n)) none)) ≡ none → width * n ≤ lent
    go none none false e h = ltb-false lent (width * n) e
    go none none true e h = let z : ◌≡◌ {A = ℕ} 0 1 = cc h in absurd (omega arith)
    go none (some y) s e h = let z : ◌≡◌ {A = ℕ} 0 1 = cc h in absurd (omega arith)
    go (some x) y s e h = let z : ◌≡◌ {A = ℕ} 0 1 = cc h in absurd (omega arith)

-- ---- the answers

-- a refusal's; a list's
abbrev pub refused : Refusal → Answer
refused why = record { outcome = Err why; tally = no_tally }

abbrev pub listed : List Rec → List ℕ → Answer
listed rs tally = record { outcome = Ok (length rs); tally = raise_all rs tally }

-- the answer room with a list in it
abbrev pub filled : List Rec → List ℕ → List ℕ
filled rs room = all_words rs ++ drop (width * length rs) room

pub answer_same : (a : Answer) {o : Outcome} {y : List ℕ} → a.outcome ≡ o → a.tally ≡ y → a ≡ record { outcome = o; tally = y }
answer_same a p q = rw (p, q)

-- ---- a call that doesn't run names

module _ (rs : List Rec) (t room tally : List ℕ) where
  by : {q : Option Refusal} → refusal (checks rs t room) ≡ q
      → done rs t room tally ≡ record { answer = answer_by q rs tally; room = room_by q rs room }
  unfolding done
  by e = rw e

  pub done_unfit : {why : tree.Refusal} → judged t ≡ Err why → done rs t room tally ≡ record { answer = refused (Tree why); room = room }
  unfolding answer_by room_by
  done_unfit e = by (unfit _ e)

  pub done_short : {f : Facts} → judged t ≡ Ok f → length room < width * length rs
      → done rs t room tally ≡ record { answer = refused (AnswerRoom (length rs)); room = room }
  unfolding answer_by room_by
  done_short e h = by (fit _ e ∙ room_short _ (length rs) (length room) h)

  pub done_listed : {f : Facts} → judged t ≡ Ok f → width * length rs ≤ length room
      → done rs t room tally ≡ record { answer = listed rs tally; room = filled rs room }
  unfolding answer_by room_by
  done_listed e h = by (fit _ e ∙ (room_enough _ (length rs) (length room) h ∙ all_passed))

-- ---- a call that runs names

module _ (rs : List Rec) (t work room tally : List ℕ) where
  by_with_work : {q : Option Refusal} → refusal (checks_with_work rs t work room) ≡ q
      → done_with_work rs t work room tally ≡ record { answer = answer_by q rs tally; room = room_by q rs room; work = work_by q work }
  unfolding done_with_work
  by_with_work e = rw e

  pub work_unfit : {why : tree.Refusal} → judged t ≡ Err why
      → done_with_work rs t work room tally ≡ record { answer = refused (Tree why); room = room; work = work }
  unfolding answer_by room_by work_by
  work_unfit e = by_with_work (unfit _ e)

  pub work_lacking : {f : Facts} → judged t ≡ Ok f → length work < work_words
      → done_with_work rs t work room tally ≡ record { answer = refused WorkRoom; room = room; work = work }
  unfolding answer_by room_by work_by
  work_lacking e l = by_with_work (fit _ e ∙ work_short _ (length work) l)

  pub work_unlisted : {f : Facts} → judged t ≡ Ok f → work_words ≤ length work → length room < width * length rs
      → done_with_work rs t work room tally ≡ record { answer = refused (AnswerRoom (length rs)); room = room; work = cleared work }
  unfolding answer_by room_by work_by
  work_unlisted e l h = by_with_work (fit _ e ∙ (work_enough _ (length work) l ∙ room_short _ (length rs) (length room) h))

  pub work_listed : {f : Facts} → judged t ≡ Ok f → work_words ≤ length work → width * length rs ≤ length room
      → done_with_work rs t work room tally ≡ record { answer = listed rs tally; room = filled rs room; work = cleared work }
  unfolding answer_by room_by work_by
  work_listed e l h = by_with_work (fit _ e ∙ (work_enough _ (length work) l ∙ (room_enough _ (length rs) (length room) h ∙ all_passed)))

  -- names ran: what it answers and leaves in the answer room, with the work room cleared
  pub with_work : {f : Facts} → judged t ≡ Ok f → work_words ≤ length work → (a : Answer) (room' work' : List ℕ)
      → ◌≡◌ {A = Done} (record { answer = a; room = room' }) (done rs t room tally) → work' ≡ cleared work
      → ◌≡◌ {A = DoneWithWork} (record { answer = a; room = room'; work = work' }) (done_with_work rs t work room tally)
  with_work e l a room' work' d z = go (short_or_not (length room) (width * length rs))
    where
      same : {b : Answer} {o : List ℕ} → done rs t room tally ≡ record { answer = b; room = o }
          → done_with_work rs t work room tally ≡ record { answer = b; room = o; work = cleared work }
          → ◌≡◌ {A = DoneWithWork} (record { answer = a; room = room'; work = work' }) (done_with_work rs t work room tally)
      same p q =
          let r = d ∙ p in
          rw (q, z, ap (λ (x : Done). x.answer) r, ap (λ (x : Done). x.room) r)

      go : (length room < width * length rs) ⊎ (width * length rs ≤ length room)
          → ◌≡◌ {A = DoneWithWork} (record { answer = a; room = room'; work = work' }) (done_with_work rs t work room tally)
      go (inl h) = same (done_short rs t room tally e h) (work_unlisted e l h)
      go (inr h) = same (done_listed rs t room tally e h) (work_listed e l h)
