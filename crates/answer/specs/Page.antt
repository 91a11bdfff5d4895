-- What a pass has written so far: the lent words, how many records, how many of each code. Assumes nothing.
use Rattle.std.specs.Prelude.{ℕ, ◌≡◌, ◌+◌, ◌*◌, ◌/◌, List, [], ◌∷◌, true, false, length, set, ltb}
use Rattle.rules.specs.Record.{Rec, width, words}
use Rattle.rules.specs.Joined.{one_more, raise}
use Rattle.answer.specs.declared.LentSheet.{LentSheet}

-- words one after the other, from word a on
unfoldable pub lay : List ℕ → ℕ → List ℕ → List ℕ
lay o a [] = o
lay o a (w ∷ ws) = lay (set o a w) (a + 1) ws

-- the n-th record stored, where there is room for it
unfoldable pub stored : List ℕ → ℕ → Rec → List ℕ
stored o n r = elim (ltb n (length o / width)) [ true ↦ lay o (width * n) (words r) | false ↦ o ]

pub record Page : Type 0 where
  pub out : List ℕ
  pub count : ℕ
  pub tally : List ℕ

-- one more record: stored where there is room for it, and counted
unfoldable pub write : Page → Rec → Page
write p r =
    record { out = stored p.out p.count r; count = one_more p.count; tally = raise r.code p.tally }

-- records one after the other
unfoldable pub writes : Page → List Rec → Page
writes p [] = p
writes p (r ∷ rs) = writes (write p r) rs

-- what a sheet has written
abbrev pub page : LentSheet → Page
page s = record { out = s.out.now; count = s.sheet.count; tally = s.sheet.tally }

-- The sheet s became s': the records rs were written, into the same lent words.
pub record Added (s s' : LentSheet) (rs : List Rec) : Type 0 where
  pub so : page s' ≡ writes (page s) rs
  pub same_room : s'.out.ghost_name ≡ s.out.ghost_name
