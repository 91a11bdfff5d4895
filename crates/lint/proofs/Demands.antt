-- The three demands, read of what the joined call answers and leaves. In each: t, the file's bytes; work and room, the lent words
-- before the call; a, its answer; room' and work', the words afterwards, as the call promises them. Assumes nothing.
use Rattle.std.specs.Prelude.{Ok}
use Prim.Native.Nat.{ℕ, ◌*◌, ◌≤◌}
use native.Mathlib.Omega.{arith}
use mathlib.Core.Path.{◌≡◌, sym, ap, ◌∙◌}
use mathlib.Core.List.Memᴰ
use mathlib.Core.List.{List, ◌++◌}
use lib.ListN.{length}
use Rattle.tree.specs.Judge.{judged}
use Rattle.tree.specs.Forest.{tree_of}
use Rattle.tree.specs.Table.{table_of, spells}
use Rattle.tree.specs.declared.Facts.{Facts}
use Rattle.tree.specs.declared.Mode.{Mode}
use Rattle.rules.specs.Order.{fail_name}
use Rattle.rules.specs.Names.{names_list}
use Rattle.rules.specs.Flow.{none_name, flow_list}
use Rattle.rules.specs.Incompatible.{incompatible_list}
use Rattle.rules.specs.Dubious.{dubious_list}
use Rattle.rules.specs.Joined.{lint_list, no_tally, tally_of, raise_all}
use Rattle.rules.specs.Record.{width, Each}
use Rattle.rules.specs.Outcome.{work_words}
use Rattle.rules.specs.Calls.{DoneWithWork, lint_call}
use Rattle.rules.specs.Afterwards.{records_in, Gives, Lists, WarnedOrRefused, warned, refused}
use Rattle.rules.specs.Premises.{Premises}
use Rattle.rules.specs.Letter.{Demand3}
use Rattle.rules.specs.declared.Answer.{Answer}
use Rattle.rules.proofs.Whole.{file_demand3, file_lint_few, file_tally}
use Rattle.lint.proofs.lint.Reads as contract
use Rattle.spans.specs.Placed.{Placed}
use Rattle.spans.proofs.Whole.{file_placed}
use Rattle.rules.proofs.Called.{one_outcome, warned_or_refused, lists, records_all, valid_where_listed, kept_in}

-- What the contract of lint says, as the checker reads it (Post: of the arguments a, the result r and the lent words s afterwards):
-- lint-call.
pub promised : (κs : _) (a : _) (r : _) (s : _) → contract.Post κs a r s
    → Gives (lint_call a.1.0 a.0.now a.1.1.0.now a.1.1.1.0.now) r s.1.1.1.0.now s.1.1.0.now
promised κs a r s p = p

module _ (mode : Mode) (t work room : List ℕ) (a : Answer) (room' work' : List ℕ)
    (gives : Gives (lint_call mode t work room) a room' work') where
  -- DEMAND 1: "Every byte string handed in as a tree gets warnings or one numbered refusal from document 01. No caller has to
  -- check first. A refusal writes no warning, and the work room afterwards is as 01 says."
  pub lint_demand1 : WarnedOrRefused (lint_list mode t) t no_tally work room a room' work'
  lint_demand1 = warned_or_refused (lint_list mode t) t work room no_tally a room' work' gives

  -- DEMAND 2: "On every valid tree the list is proved equal to 01's rules."
  pub lint_demand2 : (f : Facts) → judged t ≡ Ok f → work_words ≤ length work → width * length (lint_list mode t) ≤ length room
      → Lists (lint_list mode t) t no_tally work room a room' work'
  lint_demand2 = lists (lint_list mode t) t work room no_tally a room' work' gives

  -- the records that stand in the answer room are the whole list, in its order
  pub lint_records : (n : ℕ) → a.outcome ≡ Ok n → records_in n room' ≡ lint_list mode t
  lint_records = records_all (lint_list mode t) t work room no_tally a room' work' gives

  -- "invented tallies (each equals its code's records)": the counts are those of the records that stand in the answer room
  pub lint_counts : (n : ℕ) → a.outcome ≡ Ok n → a.tally ≡ tally_of (records_in n room')
  lint_counts n i =
      let v = valid_where_listed (lint_list mode t) t work room no_tally a room' work' gives n i in
      go lint_demand1 ∙ file_tally t v.0 v.1 mode ∙ ap tally_of (sym (lint_records n i))
    where
      go : WarnedOrRefused (lint_list mode t) t no_tally work room a room' work' → a.tally ≡ raise_all (lint_list mode t) no_tally
      go (warned l) = l.counts
      go (refused why l) = let z : ◌≡◌ {A = ℕ} 0 1 = cc (l.outcome, i) in absurd (omega arith)

  -- DEMAND 3, both halves, of the records that the call leaves in the answer room
  pub lint_demand3 : (f : Facts) → judged t ≡ Ok f → Premises (tree_of t) → (n : ℕ) → a.outcome ≡ Ok n
      → Demand3 (spells (table_of t) fail_name) (spells (table_of t) none_name) (tree_of t) (records_in n room') (records_in n room')
  unfolding lint_list
  lint_demand3 f v p n i =
      let rest = incompatible_list t ++ dubious_list mode t in
      rw (lint_records n i)
      (kept_in (file_demand3 t f v p) (λ r m. Memᴰ.append_left (flow_list t ++ rest) m)
      (λ r m. Memᴰ.append_right (names_list t) (Memᴰ.append_left rest m)))

  -- 02, §4: the numbers of each record that the call leaves are nodes of the file that have its first and second span
  pub lint_placed : (n : ℕ) → a.outcome ≡ Ok n → Each (Placed t) (records_in n room')
  lint_placed n i =
      let v = valid_where_listed (lint_list mode t) t work room no_tally a room' work' gives n i in
      rw (lint_records n i) (file_placed t v.0 v.1 mode)

  -- "two outcomes that satisfy it are proved equal"
  pub lint_one : (b : Answer) (room'' work'' : List ℕ) → Gives (lint_call mode t work room) b room'' work''
      → ◌≡◌ {A = DoneWithWork} (record { answer = a; room = room'; work = work' }) (record { answer = b; room = room''; work = work'' })
  lint_one b room'' work'' other = one_outcome gives other

-- room for 10,240 records is enough for every file that is judged valid
pub room_enough : (mode : Mode) (t : List ℕ) (f : Facts) → judged t ≡ Ok f → width * length (lint_list mode t) ≤ width * 10240
room_enough mode t f v = let l = file_lint_few t f v mode in omega arith
