-- 01, "Known lists": what the listing program prints of a call. Assumes nothing.
use Rattle.std.specs.Prelude.{ℕ, Bool, true, false, List, [], ◌∷◌, ◌++◌, length}
use Rattle.std.proofs.Math.Option.{Option, none, some}
use Rattle.base.specs.Ascii.{ascii}
use Rattle.tree.specs.declared.Mode.{Mode}
use Rattle.page.specs.Digits.{decimal}
use Rattle.page.specs.Page.{Page, page, writes}
use Rattle.rules.specs.Record.{Rec, words}
use Rattle.rules.specs.Joined.{lint_list, tally_of}
use Rattle.rules.specs.Outcome.{number_of, place_of, refusal}
use Rattle.rules.specs.Calls.{DoneWithWork, checks_with_work, lint_call}
use Rattle.rules.specs.declared.Refusal.{Refusal}

-- what stands after a number, by the numbers that follow on its line: a space, or the line's end
abbrev pub after : List ℕ → ℕ
after [] = 0x0A
after (n ∷ ns) = 0x20

-- numbers on a line
unfoldable pub line : List ℕ → List ℕ
line [] = []
line (n ∷ ns) = decimal n ++ (after ns ∷ line ns)

-- "It prints each record's eight numbers"; 02, §4: "the listing prints ten numbers"
unfoldable pub records : List Rec → List ℕ
records [] = []
records (r ∷ rs) = line (words r) ++ records rs

-- "then total and the count"
unfoldable pub listing : List Rec → List ℕ
listing rs = records rs ++ (ascii "total " ++ line (length rs ∷ []))

-- "or one line: refused, number, place"
unfoldable pub refused : Refusal → List ℕ
refused why = ascii "refused " ++ line (number_of why ∷ place_of why ∷ [])

-- docs/DESK.md, bit 14: where it is asked for, the count of each code on a line more
unfoldable pub counts : Bool → List Rec → List ℕ
counts false rs = []
counts true rs = ascii "tally " ++ line (tally_of rs)

-- the text of a call with this refusal, or with this list
unfoldable pub told : Bool → Option Refusal → List Rec → List ℕ
told tally none rs = listing rs ++ counts tally rs
told tally (some why) rs = refused why

-- of the joined call on the file t, lent this work room and this answer room
unfoldable pub text_of : Bool → Mode → List ℕ → List ℕ → List ℕ → List ℕ
text_of tally mode t work room = let rs = lint_list mode t in told tally (refusal (checks_with_work rs t work room)) rs

-- ---- the call

-- how many bytes the text has, and what stands in the lent room afterwards: the text in `page`, as far as there is room for it
pub record Done : Type 0 where
  pub count : ℕ
  pub page : List ℕ
  pub work : List ℕ
  pub room : List ℕ

abbrev pub done_with : Page → DoneWithWork → Done
done_with p d = record { count = p.count; page = p.out; work = d.work; room = d.room }

unfoldable pub text_call : Bool → Mode → List ℕ → List ℕ → List ℕ → List ℕ → Done
text_call tally mode t work room out =
    done_with (writes (page out 0) (text_of tally mode t work room)) (lint_call mode t work room)
