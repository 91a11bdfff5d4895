-- What a call leaves, as who reads the lent words afterwards finds it: for the demands, read of a public call. Assumes nothing.
use Rattle.std.specs.Prelude.{Ok, Err}
use Rattle.std.specs.Prelude.{ℕ, zero, suc, ◌*◌, ◌≤◌, ◌≡◌, List, [], ◌∷◌, length, drop, get_or}
use Rattle.std.proofs.Math.Option.{none, some}
use Rattle.rules.specs.Record.{Rec, width}
use Rattle.rules.specs.Joined.{no_tally, raise_all}
use Rattle.rules.specs.Outcome.{number_of, refusal, cleared, work_by}
use Rattle.rules.specs.Calls.{DoneWithWork, checks_with_work}
use Rattle.rules.specs.declared.Refusal.{Refusal}
use Rattle.rules.specs.declared.Answer.{Answer}

-- the record that the first ten words are
abbrev pub record_in : List ℕ → Rec
record_in o =
    record {
      code = get_or o 0 0;
      spot = record { begin = get_or o 1 0; end = get_or o 2 0; value = get_or o 3 0 };
      second = record { begin = get_or o 4 0; end = get_or o 5 0 };
      third = record { begin = get_or o 6 0; end = get_or o 7 0 };
      number = get_or o 8 0;
      number2 = get_or o 9 0;
    }

-- the first n records of the answer room
abbrev pub records_in : ℕ → List ℕ → List Rec
records_in zero o = []
records_in (suc n) o = record_in o ∷ records_in n (drop width o)

-- an answer, with the answer room and the work room afterwards, as a call's promise has them
abbrev pub Gives : DoneWithWork → Answer → List ℕ → List ℕ → Type 0
Gives d a room work = record { answer = a; room = room; work = work } ≡ d

-- The list rs of the file t: 01's table, with 02's ten words a record, gives no refusal; the list stands in the answer room, in its order;
-- the counts are raised by it; "answer room past the last record" stays; "the first 32,768 words of work room are zero".
pub record Lists (rs : List Rec) (t tally work room : List ℕ) (a : Answer) (room' work' : List ℕ) : Type 0 where
  pub none_given : refusal (checks_with_work rs t work room) ≡ none
  pub outcome : a.outcome ≡ Ok (length rs)
  pub counts : a.tally ≡ raise_all rs tally
  pub records : records_in (length rs) room' ≡ rs
  pub past : drop (width * length rs) room' ≡ drop (width * length rs) room
  pub as_long : length room' ≡ length room
  pub cleared_work : work' ≡ cleared work

-- One numbered refusal, the one that this table gives for the file t with the list rs: "A refusal writes no answer; its tally is all
-- zero", and the work room is as 01 says.
pub record Refuses (rs : List Rec) (t : List ℕ) (why : Refusal) (work room : List ℕ) (a : Answer) (room' work' : List ℕ) : Type 0 where
  pub given : refusal (checks_with_work rs t work room) ≡ some why
  pub outcome : a.outcome ≡ Err why
  pub numbered : (1 ≤ number_of why) × (number_of why ≤ 11)
  pub no_counts : a.tally ≡ no_tally
  pub no_warning : room' ≡ room
  pub work_room : work' ≡ work_by (some why) work

pub data WarnedOrRefused (rs : List Rec) (t tally work room : List ℕ) (a : Answer) (room' work' : List ℕ) : Type 0 where
  warned : Lists rs t tally work room a room' work' → WarnedOrRefused rs t tally work room a room' work'
  refused : (why : Refusal) → Refuses rs t why work room a room' work' → WarnedOrRefused rs t tally work room a room' work'
