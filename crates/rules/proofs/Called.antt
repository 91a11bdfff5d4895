-- The three demands, read of what a public call that runs names answers and leaves: of any list, and of names' own call.
use Rattle.std.specs.Prelude.{Ok, Err}
use Prim.Native.Nat.{ℕ, zero, suc, ◌*◌, ◌≤◌, ◌<◌}
use native.Mathlib.Omega.{arith}
use mathlib.Core.Path.{◌≡◌, refl, sym, ap, ◌∙◌}
use mathlib.Core.Bool.{Bool}
use mathlib.Core.List.{List, [], ◌∷◌, ◌++◌, Memᴰ}
use mathlib.Core.Logic.{◌⊎◌, inl, inr}
use mathlib.Core.Option.{none, some}
use lib.ListN.{length, drop, length-append, length-drop}
use lib.Seq.{drop_at}
use Rattle.tree.specs.Judge as tree
use Rattle.tree.specs.Judge.{judged}
use Rattle.tree.specs.Forest.{Head, Forest, tree_of}
use Rattle.tree.specs.Table.{table_of, spells}
use Rattle.tree.specs.declared.Facts.{Facts}
use Rattle.tree.specs.declared.Refusal.{Refusal as Unfitness}
use Rattle.tree.specs.declared.Refusal.TheVariants.{Mark, Version, Counts, Sections, Value, Node, Children, Depth, Global}
use Rattle.tree.specs.Judge.{Judged}
use Rattle.rules.specs.Record.{Rec, width, named_at, all_words}
use Rattle.rules.specs.Order.{fail_name}
use Rattle.rules.specs.Names.{names_list}
use Rattle.rules.specs.Visit.{spot_at}
use Rattle.rules.specs.Flow.{missing, missing_expression, none_name, flow_list}
use Rattle.rules.specs.Outcome.{number_of, work_words, refusal, answer_by, room_by, work_by, cleared}
use Rattle.rules.specs.Calls.{DoneWithWork, checks_with_work, done_with_work, names_call}
use Rattle.rules.specs.Premises.{Premises}
use Rattle.rules.specs.Letter.{Told, Demand3}
use Rattle.rules.specs.Afterwards.{records_in, Gives, Lists, Refuses, WarnedOrRefused, warned, refused}
use Rattle.rules.specs.declared.Refusal.{Refusal}
use Rattle.rules.specs.declared.Refusal.TheVariants.{Tree, WorkRoom, AnswerRoom}
use Rattle.rules.specs.declared.Answer.{Answer}
use Rattle.rules.proofs.Words.{length_words}
use Rattle.rules.proofs.Answered.{short_or_not, unfit, fit, work_short, work_enough, room_short, room_enough, all_passed, room_passed, refused as refused_as, listed, filled}
use Rattle.rules.proofs.Whole.{file_demand3}

-- ---- records read back

pub length_records : (n : ℕ) (o : List ℕ) → length (records_in n o) ≡ n
length_records zero o = refl
length_records (suc n) o = ap suc (length_records n (drop width o))

pub read_back : (rs : List Rec) (o : List ℕ) → records_in (length rs) (all_words rs ++ o) ≡ rs
read_back [] o = refl
read_back (r ∷ rs) o = ap (λ (l : List Rec). r ∷ l) (read_back rs o)

-- the answer room with a list in it
module _ (rs : List Rec) (room : List ℕ) where
  pub filled_records : records_in (length rs) (filled rs room) ≡ rs
  filled_records = read_back rs (drop (width * length rs) room)

  pub filled_past : drop (width * length rs) (filled rs room) ≡ drop (width * length rs) room
  filled_past = drop_at (all_words rs) (drop (width * length rs) room) (width * length rs) (length_words rs)

  pub filled_long : width * length rs ≤ length room → length (filled rs room) ≡ length room
  filled_long h = rw (length-append, length-drop) (let l = length_words rs in omega (arith, l, h))

-- ---- a refusal's number

pub tree_numbered : (why : Unfitness) → (1 ≤ tree.number_of why) × (tree.number_of why ≤ 11)
tree_numbered Mark = (omega arith, omega arith)
tree_numbered Version = (omega arith, omega arith)
tree_numbered Counts = (omega arith, omega arith)
tree_numbered Sections = (omega arith, omega arith)
tree_numbered (Value i) = (omega arith, omega arith)
tree_numbered (Node i) = (omega arith, omega arith)
tree_numbered (Children i) = (omega arith, omega arith)
tree_numbered (Depth i) = (omega arith, omega arith)
tree_numbered (Global i) = (omega arith, omega arith)

-- "two outcomes that satisfy it are proved equal": of a promise that is one equation, as every call's is
pub one_outcome {ℓ} : {A : Type ℓ} {x a b : A} → a ≡ x → b ≡ x → a ≡ b
one_outcome p q = p ∙ sym q

-- ---- a call that gives the list rs of the file t

module _ (rs : List Rec) (t work room tally : List ℕ) (a : Answer) (room' work' : List ℕ)
    (gives : Gives (done_with_work rs t work room tally) a room' work') where
  refuses : (why : Refusal) → (1 ≤ number_of why) × (number_of why ≤ 11) → refusal (checks_with_work rs t work room) ≡ some why
      → Refuses rs t why work room a room' work'
  unfolding done_with_work answer_by room_by
  refuses why n e =
      let d : Gives (record { answer = refused_as why; room = room; work = work_by (some why) work }) a room' work' = gives ∙ rw e in
      record {
        given = e;
        outcome = ap (λ (x : DoneWithWork). x.answer.outcome) d;
        numbered = n;
        no_counts = ap (λ (x : DoneWithWork). x.answer.tally) d;
        no_warning = ap (λ (x : DoneWithWork). x.room) d;
        work_room = ap (λ (x : DoneWithWork). x.work) d;
      }

  -- with as many words as the records have, there is the list
  lists_by : width * length rs ≤ length room → refusal (checks_with_work rs t work room) ≡ none → Lists rs t tally work room a room' work'
  unfolding done_with_work answer_by room_by work_by
  lists_by h e =
      let d : Gives (record { answer = listed rs tally; room = filled rs room; work = cleared work }) a room' work' = gives ∙ rw e in
      let o : room' ≡ filled rs room = ap (λ (x : DoneWithWork). x.room) d in
      record {
        none_given = e;
        outcome = ap (λ (x : DoneWithWork). x.answer.outcome) d;
        counts = ap (λ (x : DoneWithWork). x.answer.tally) d;
        records = rw o (filled_records rs room);
        past = rw o (filled_past rs room);
        as_long = rw o (filled_long rs room h);
        cleared_work = ap (λ (x : DoneWithWork). x.work) d;
      }

  -- DEMAND 2: a valid file with room enough has its list
  pub lists : (f : Facts) → judged t ≡ Ok f → work_words ≤ length work → width * length rs ≤ length room → Lists rs t tally work room a room' work'
  lists f e h l = lists_by l (fit _ e ∙ (work_enough _ (length work) h ∙ (room_enough _ (length rs) (length room) l ∙ all_passed)))

  -- DEMAND 1: "Every byte string handed in as a tree gets warnings or one numbered refusal from document 01. .. A refusal writes no
  -- warning, and the work room afterwards is as 01 says."
  pub warned_or_refused : WarnedOrRefused rs t tally work room a room' work'
  warned_or_refused = go (judged t) refl (short_or_not (length work) work_words) (short_or_not (length room) (width * length rs))
    where
      go : (j : Judged) → judged t ≡ j → (length work < work_words) ⊎ (work_words ≤ length work)
          → (length room < width * length rs) ⊎ (width * length rs ≤ length room) → WarnedOrRefused rs t tally work room a room' work'
      go (Err why) e w r = refused (Tree why) (refuses (Tree why) (tree_numbered why) (unfit _ e))
      go (Ok f) e (inl h) r = refused WorkRoom (refuses WorkRoom (omega arith, omega arith) (fit _ e ∙ work_short _ (length work) h))
      go (Ok f) e (inr h) (inl l) =
          refused (AnswerRoom (length rs)) (refuses (AnswerRoom (length rs)) (omega arith, omega arith)
          (fit _ e ∙ (work_enough _ (length work) h ∙ room_short _ (length rs) (length room) l)))
      go (Ok f) e (inr h) (inr l) = warned (lists f e h l)

  -- an answer that says how many records there are has the whole list
  pub records_all : (n : ℕ) → a.outcome ≡ Ok n → records_in n room' ≡ rs
  records_all n i = go warned_or_refused
    where
      go : WarnedOrRefused rs t tally work room a room' work' → records_in n room' ≡ rs
      go (warned l) = let m : n ≡ length rs = cc (l.outcome, i) in rw m l.records
      go (refused why l) = let z : ◌≡◌ {A = ℕ} 0 1 = cc (l.outcome, i) in absurd (omega arith)

  -- ... and its file is valid
  pub valid_where_listed : (n : ℕ) → a.outcome ≡ Ok n → (f : Facts) × (judged t ≡ Ok f)
  valid_where_listed n i = go (judged t) refl
    where
      go : (j : Judged) → judged t ≡ j → (f : Facts) × (judged t ≡ Ok f)
      go (Ok f) e = (f, e)
      go (Err why) e =
          let l = refuses (Tree why) (tree_numbered why) (unfit _ e) in
          let z : ◌≡◌ {A = ℕ} 0 1 = cc (l.outcome, i) in absurd (omega arith)

  -- ... which has room
  pub room_where_listed : (n : ℕ) → a.outcome ≡ Ok n → width * n ≤ length room'
  room_where_listed n i = go warned_or_refused
    where
      go : WarnedOrRefused rs t tally work room a room' work' → width * n ≤ length room'
      go (warned l) =
          let m : n ≡ length rs = cc (l.outcome, i) in
          omega (arith, room_passed _ _ (length rs) (length room) l.none_given, l.as_long)
      go (refused why l) = let z : ◌≡◌ {A = ℕ} 0 1 = cc (l.outcome, i) in absurd (omega arith)

-- ---- demand 3

module _ {is_fail is_none : ℕ → Bool} {f : Forest} where
  -- a longer list keeps it
  pub kept_in : {names flow ns fs : List Rec} → Demand3 is_fail is_none f names flow → ((r : Rec) → Memᴰ r names → Memᴰ r ns)
      → ((r : Rec) → Memᴰ r flow → Memᴰ r fs) → Demand3 is_fail is_none f ns fs
  kept_in {names} {flow} {ns} {fs} d g g' = record {
    unset = λ b s w r. both s (d.unset b s w r);
    end = λ {h} {k} {why} {τ} w r. g' (missing h (spot_at 6 k) why) (d.end w r);
    bare_return = λ {h} {k} {why} {g = b} {τ} w r. g' (missing_expression h (spot_at 6 k) why b) (d.bare_return w r);
  }
    where
      both : (s : Head) → Told s names → Told s ns
      both s (inl m) = inl (g (named_at 4 s) m)
      both s (inr m) = inr (g (named_at 6 s) m)

-- DEMAND 3 of names' own call: its names half is about the records that the call leaves in the answer room
pub names_demand3 : (t : List ℕ) (f : Facts) → judged t ≡ Ok f → Premises (tree_of t) → (work room tally : List ℕ)
    (a : Answer) (room' work' : List ℕ) → Gives (names_call t work room tally) a room' work' → (n : ℕ) → a.outcome ≡ Ok n
    → Demand3 (spells (table_of t) fail_name) (spells (table_of t) none_name) (tree_of t) (records_in n room') (flow_list t)
names_demand3 t f v p work room tally a room' work' g n i =
    rw (records_all (names_list t) t work room tally a room' work' g n i) (file_demand3 t f v p)
